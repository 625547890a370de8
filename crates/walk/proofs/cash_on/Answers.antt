-- `walk::cash_on` meets its contract. Assumes nothing.
use Prim.Native.Nat.{ℕ, ◌+◌}
use mathlib.Core.Path.{ap, ap₂, ◌∙◌}
use Rattle.rules.specs.Date.{cash}
use Rattle.rules.specs.FixedTerm.{free_in, cash_in}
use Rattle.walk.proofs.cash_on.Goals as goal

pub returns : goal.returns
unfolding cash_in free_in
returns c =
    let args = c.args in
    ap (λ (x : ℕ). args.place.paid + x)
    (c.cash.ensures.0
    ∙ ap₂ (λ (r m : ℕ). cash r m args.t) c.rate_on-rate.ensures.0 c.free_amount.ensures)
