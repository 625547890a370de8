-- `walk::admitted` meets its contract. Assumes nothing.
use Prim.Native.Nat.{ℕ}
use mathlib.Core.Path.{ap, ◌∙◌}
use Rattle.rules.specs.Date.{dynamic, admits}
use Rattle.walk.proofs.admitted.Goals as goal

pub returns : goal.returns
returns c = c.admits_dynamic.ensures ∙ ap (λ (m : ℕ). admits dynamic m c.args.place.account
    c.args.t) c.free_amount.ensures
