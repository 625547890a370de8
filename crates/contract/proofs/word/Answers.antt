-- `contract::word` meets its contract. Assumes nothing.
use native.Mathlib.Omega.{arith}
use Rattle.rules.specs.Contract.{word}
use Rattle.contract.proofs.word.Goals as goal

pub returns : goal.returns
unfolding word
returns c = let e = c.from_le_bytes.ensures in (omega arith, omega arith)
