-- `input::rate_of` meets its contract. Assumes nothing.
use Rattle.rules.specs.Contract.{rates_of}
use Rattle.input.proofs.rate_of.Goals as goal

pub returns : goal.returns
unfolding rates_of
returns c = c.word.ensures.0
