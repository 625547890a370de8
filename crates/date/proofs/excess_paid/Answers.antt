-- `date::excess_paid` meets its contract. Assumes nothing.
use Prim.Native.Nat.{ℕ, ◌*◌, ◌-◌}
use mathlib.Core.Path.{ap, ◌∙◌}
use native.Mathlib.Omega.{arith}
use Rattle.rules.specs.Date.{excess, excess_paid}
use Rattle.date.proofs.excess_paid.Goals as goal

pub returns : goal.returns
unfolding excess excess_paid
returns c =
    let lifted = c.lifted_account.ensures in
    let over = c.saturating_sub.ensures ∙ ap (λ (x : ℕ). x - c.args.top) lifted.0 in
    (ap (λ (x : ℕ). 10000 * x) over, omega (arith, c.saturating_sub.ensures, lifted.1))
