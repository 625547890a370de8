-- `input::returns_in` meets its contract. Assumes nothing.
use mathlib.Core.Path.{refl}
use Rattle.rules.specs.Contract.{returns_of}
use Rattle.input.proofs.returns_in.Goals as goal

pub returns : goal.returns
unfolding returns_of
returns c = refl
