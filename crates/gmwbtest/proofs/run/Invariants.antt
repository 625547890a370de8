-- `gmwbtest::run`: what is held lies within the text. Assumes nothing.
use Rattle.std.proofs.Common.{length, ◌≤◌}
use Rattle.gmwbtest.proofs.run.Given as goal

abbrev pub invariant-loop : goal.invariant-loop
invariant-loop l = l.held ≤ length l.text
