-- `supplied::follow_row` meets its contract. Assumes nothing.
use Prim.Native.Nat.{◌-◌, ◌≤◌}
use mathlib.Core.Path.{◌≡◌}
use Rattle.slices.specs.Stored.{stored}
use Rattle.supplied.specs.Followed.{followed_on}
use Rattle.supplied.proofs.follow_row.Given as goal

abbrev pub invariant-loop-a : goal.invariant-loop-a
invariant-loop-a l = (l.a ≤ l.stride) × (l.work ≡ stored l.initial.work l.row (followed_on l.d l.initial.work l.layer l.w) l.a)

abbrev pub decreases-loop-a : goal.decreases-loop-a
decreases-loop-a l = l.stride - l.a
