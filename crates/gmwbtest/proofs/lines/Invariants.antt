-- `gmwbtest::lines`: what is left is no longer than the text, and each line takes some of it. Assumes nothing.
use Rattle.std.proofs.Common.{length, ◌≤◌}
use Rattle.gmwbtest.proofs.lines.Given as goal

abbrev pub invariant-loop-end : goal.invariant-loop-end
invariant-loop-end l = length l.rest ≤ length l.text

abbrev pub decreases-loop-end : goal.decreases-loop-end
decreases-loop-end l = length l.rest
