-- `date::death_payment` meets its contract. Assumes nothing.
use native.Mathlib.Omega.{arith}
use Rattle.rules.specs.Date.{maturity_value, death_payment}
use Rattle.date.proofs.death_payment.Goals as goal

pub returns : goal.returns
unfolding maturity_value death_payment
returns c = (omega (arith, c.maturity_value.ensures.0), c.maturity_value.ensures.1)
