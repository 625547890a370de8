-- `keys::key` meets its contract. Assumes nothing.
use Rattle.std.proofs.Common.{refl, arith}
use Rattle.keys.specs.Key.{key}
use Rattle.keys.proofs.key.Goals as goal

pub returns : goal.returns
unfolding key
returns c = (refl, omega arith)
