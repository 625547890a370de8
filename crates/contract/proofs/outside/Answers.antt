-- `contract::outside` is the test of the rules. Assumes nothing.
use borrow.Author.Tests.{lt-ltb, le-ltb}
use Rattle.rules.specs.Refusals.{outside}
use Rattle.contract.proofs.outside.Goals as goal

pub returns-then-x-least : goal.returns-then-x-least
unfolding outside
returns-then-x-least c = rw (lt-ltb _ _ c.if-x-least.true)

pub returns-else-x-least : goal.returns-else-x-least
unfolding outside
returns-else-x-least c = rw (le-ltb _ _ c.if-x-least.false)
