-- `date::free_amount` meets its contract. Assumes nothing.
use Rattle.rules.specs.Date.{free_amount}
use Rattle.date.proofs.free_amount.Goals as goal

pub returns : goal.returns
unfolding free_amount
returns c = c.min.ensures
