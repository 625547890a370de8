-- `date::largest_amount` meets its contract. Assumes nothing.
use Rattle.rules.specs.Date.{largest_amount}
use Rattle.date.proofs.largest_amount.Goals as goal

pub returns : goal.returns
unfolding largest_amount
returns c = c.max.ensures
