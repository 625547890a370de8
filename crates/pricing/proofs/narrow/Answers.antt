-- `pricing::narrow` meets its contract. Assumes nothing.
use borrow.Author.Tests.{lt-ltb, le-ltb}
use Rattle.pricing.proofs.narrow.Goals as goal

pub returns-then-wanted-valuation : goal.returns-then-wanted-valuation
returns-then-wanted-valuation c = rw (lt-ltb _ _ c.if-wanted-valuation.true)

pub returns : goal.returns
returns c = rw (le-ltb _ _ c.if-wanted-valuation.false)
