-- `proportion::ascends` meets its contract. Assumes nothing.
use Rattle.std.proofs.Common.{◌≡◌, ◌-◌, ◌≤◌}
use Rattle.proportion.specs.Share.{Ascending}
use Rattle.proportion.proofs.ascends.Given as goal

abbrev pub invariant-loop-i : goal.invariant-loop-i
invariant-loop-i l = (l.i ≤ l.n) × (l.falls ≤ l.i) × (l.falls ≡ 0 → Ascending l.work l.at l.i) × (Ascending l.work l.at l.i → l.falls ≡ 0)

abbrev pub decreases-loop-i : goal.decreases-loop-i
decreases-loop-i l = l.n - l.i
