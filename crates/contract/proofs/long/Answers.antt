-- `contract::long` meets its contract. Assumes nothing.
use Rattle.std.proofs.Common.{◌≡◌, ◌+◌, arith}
use Rattle.rules.specs.Contract.{word, long}
use Rattle.contract.proofs.long.Goals as goal

pub returns : goal.returns
unfolding word long
returns c =
    let e = c.from_le_bytes.ensures in
    let next : c.args.i + 2 + 1 ≡ c.args.i + 3 = omega arith in
    rw next (omega arith)
