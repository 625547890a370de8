-- `date::balance_after` meets its contract. Assumes nothing.
use Rattle.rules.specs.Date.{balance_after}
use Rattle.date.proofs.balance_after.Goals as goal

pub returns : goal.returns
unfolding balance_after
returns c = c.saturating_sub.ensures
