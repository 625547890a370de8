-- `report::Text::numbers` meets its contract. Assumes nothing.
use Rattle.std.proofs.Common.{◌*◌, take}
use Rattle.report.specs.Text.{Put, spaced}
use Rattle.report.proofs.Text.numbers.Given as goal

abbrev pub invariant-loop-x : goal.invariant-loop-x
invariant-loop-x l = Put (21 * l.x-index) l.initial.self (spaced (take l.x-index l.numbers)) l.self
