-- `dynamic::States::further_block` meets its contract. Assumes nothing.
use mathlib.Core.Path.{ap, refl, ◌∙◌}
use native.Mathlib.Omega.{arith}
use Prim.Native.Nat.{ℕ, min}
use Rattle.dynamic.proofs.Further.{alike_level, few_level, few_all}
use Rattle.proportion.specs.Offers.{held_as}
use Rattle.proportion.specs.Held.{tried_below}
use Rattle.dynamic.proofs.States.further_block.Goals as goal

pub further_run-requires : goal.further_run-requires
further_run-requires c =
    let args = c.args in
    let end_is = c.min-end.ensures ∙ ap (min args.self.s.n) c.saturating_sub.ensures in
    let low_is = c.saturating_sub-low.ensures in
    let alike = alike_level args.self.d args.self.s _ _ low_is end_is c.if-low-end.true in
    (alike, held_as _ c.further_few.ensures (λ j l. few_level args.self.d args.self.s refl low_is (omega arith) j))

pub returns-else-low-end : goal.returns-else-low-end
returns-else-low-end c =
    let args = c.args in
    let end_is = c.min-end.ensures ∙ ap (min args.self.s.n) c.saturating_sub.ensures in
    held_as _ c.further_few.ensures
    (λ j l. few_all args.self.d args.self.s refl c.saturating_sub-low.ensures end_is c.if-low-end.false j
    ∙ ap (λ (x : ℕ). tried_below args.self.d args.self.s x j) end_is)
