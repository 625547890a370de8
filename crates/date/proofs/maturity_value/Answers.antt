-- `date::maturity_value` meets its contract. Assumes nothing.
use Prim.Native.Nat.{ℕ, ◌*◌}
use mathlib.Core.Path.{ap}
use native.Mathlib.Omega.{arith}
use Rattle.rules.specs.Date.{maturity_value}
use Rattle.date.proofs.maturity_value.Goals as goal

pub returns : goal.returns
unfolding maturity_value
returns c = (ap (λ (x : ℕ). 10000 * x) c.max.ensures, omega arith)
