-- `report::Tables::lines` meets its contract. Assumes nothing.
use Rattle.std.proofs.Common.{◌*◌}
use Rattle.rules.specs.Printed.{lines_of}
use Rattle.report.specs.Printing.{line_in}
use Rattle.report.specs.Text.{Put}
use Rattle.report.proofs.Tables.lines.Given as goal

abbrev pub invariant-loop-k : goal.invariant-loop-k
invariant-loop-k l = Put (126 * l.k) l.initial.text (lines_of (line_in l.self) l.k) l.text
