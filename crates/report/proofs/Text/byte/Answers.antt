-- `report::Text::byte` meets its contract. Assumes nothing.
use Rattle.std.proofs.Common.{refl, arith}
use Rattle.report.specs.Text.{put_byte}
use Rattle.report.proofs.Text.byte.Goals as goal

pub returns : goal.returns
returns c = put_byte c.args.b (omega arith) refl refl refl
