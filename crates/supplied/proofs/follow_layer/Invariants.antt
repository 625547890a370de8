-- `supplied::follow_layer` meets its contract. Assumes nothing.
use Prim.Native.Nat.{◌-◌, ◌*◌, ◌≤◌}
use mathlib.Core.Path.{◌≡◌}
use Rattle.slices.specs.Rows.{flat}
use Rattle.slices.specs.Stored.{stored}
use Rattle.supplied.specs.Followed.{followed_on}
use Rattle.supplied.proofs.follow_layer.Given as goal

abbrev pub invariant-loop-w : goal.invariant-loop-w
invariant-loop-w l =
    (l.w ≤ l.n) × (l.work ≡ stored l.initial.work 0 (flat l.d.stride (followed_on l.d l.initial.work l.layer)) (l.w * l.d.stride))

abbrev pub decreases-loop-w : goal.decreases-loop-w
decreases-loop-w l = l.n - l.w
