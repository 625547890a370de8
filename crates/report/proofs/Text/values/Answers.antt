-- `report::Text::values` meets its contract. Assumes nothing.
use Rattle.report.specs.Text.{put_then}
use Rattle.rules.specs.Printed.{name_of}
use Rattle.report.proofs.Text.values.Goals as goal

pub returns : goal.returns
unfolding name_of
returns c = put_then (put_then c.line.ensures c.line-2.ensures) c.line-3.ensures
