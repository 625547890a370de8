-- `surrender::State::may_surrender` meets its contract. Assumes nothing.
use native.Mathlib.Omega.{arith}
use Rattle.rules.specs.Date.{free_amount}
use Rattle.surrender.proofs.State.may_surrender.Goals as goal

pub returns-then-c-self : goal.returns-then-c-self
unfolding free_amount
returns-then-c-self c = record { within = omega arith; above = λ k l. omega (arith, c.if-c-self.true); others = λ k l m. omega arith }

pub returns : goal.returns
unfolding free_amount
returns c = record {
  within = omega (arith, c.min.ensures);
  above = λ k l. omega (arith, c.min.ensures, c.saturating_sub.ensures, c.if-c-self.false);
  others = λ k l m. omega (arith, c.min.ensures, c.saturating_sub.ensures, c.if-c-self.false);
}
