-- `report::Text::number` meets its contract. Assumes nothing.
use Rattle.report.specs.Text.{put_then}
use Rattle.rules.specs.Printed.{decimal}
use Rattle.report.proofs.Text.number.Goals as goal

pub returns : goal.returns
unfolding decimal
returns c = put_then c.byte.ensures c.digits.ensures
