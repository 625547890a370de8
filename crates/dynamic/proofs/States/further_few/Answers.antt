-- `dynamic::States::further_few` meets its contract. Assumes nothing.
use mathlib.Core.Path.{ap, ◌∙◌}
use Prim.Native.Nat.{ℕ, ◌-◌, min}
use Rattle.dynamic.proofs.Further.{alike_one}
use Rattle.dynamic.proofs.States.further_few.Goals as goal

pub further_run-requires : goal.further_run-requires
further_run-requires c =
    let args = c.args in
    let few = c.min-few.ensures ∙ ap (min args.self.s.n) (c.saturating_sub.ensures
    ∙ ap (λ (z : ℕ). z - args.self.s.from) c.min.ensures) in
    (alike_one args.self.d args.self.s c.loop-j.j _ few c.loop-j-test.true, c.loop-j.invariant.1)
