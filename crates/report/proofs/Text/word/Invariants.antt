-- `report::Text::word` meets its contract. Assumes nothing.
use Rattle.std.proofs.Common.{take}
use Rattle.report.specs.Text.{Put}
use Rattle.report.proofs.Text.word.Given as goal

abbrev pub invariant-loop-b : goal.invariant-loop-b
invariant-loop-b l = Put l.b-index l.initial.self (take l.b-index l.word) l.self
