-- `proportion::rises` meets its contract. Assumes nothing.
use Rattle.std.proofs.Common.{◌-◌, ◌≤◌}
use Rattle.proportion.specs.Share.{Rising}
use Rattle.slices.specs.Rows.{cells}
use Rattle.proportion.proofs.rises.Given as goal

abbrev pub invariant-loop-x : goal.invariant-loop-x
invariant-loop-x l = (l.x ≤ l.n) × Rising (cells l.work l.d.base l.d.stride) l.d.stride l.x

abbrev pub decreases-loop-x : goal.decreases-loop-x
decreases-loop-x l = l.n - l.x
