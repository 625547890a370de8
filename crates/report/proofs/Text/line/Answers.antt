-- `report::Text::line` meets its contract. Assumes nothing.
use Rattle.report.specs.Text.{put_then}
use Rattle.rules.specs.Printed.{line}
use Rattle.report.proofs.Text.line.Goals as goal

pub returns : goal.returns
unfolding line
returns c = put_then c.word.ensures c.numbers.ensures
