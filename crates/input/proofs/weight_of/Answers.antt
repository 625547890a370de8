-- `input::weight_of` meets its contract. Assumes nothing.
use Rattle.rules.specs.Contract.{returns_of}
use Rattle.input.proofs.weight_of.Goals as goal

pub returns : goal.returns
unfolding returns_of
returns c = c.word.ensures
