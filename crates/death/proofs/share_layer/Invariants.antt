-- `death::share_layer` meets its contract. Assumes nothing.
use Prim.Native.Nat.{◌-◌, ◌*◌, ◌≤◌}
use mathlib.Core.Path.{◌≡◌}
use Rattle.laws.specs.Date.{shared}
use Rattle.slices.specs.Rows.{cells, flat}
use Rattle.slices.specs.Stored.{stored}
use Rattle.death.proofs.share_layer.Given as goal

abbrev pub invariant-loop-w : goal.invariant-loop-w
invariant-loop-w l =
    (l.w ≤ l.n) × (l.work ≡ stored l.initial.work 0 (flat l.stride (shared l.rate (cells l.initial.work 0 l.stride))) (l.w * l.stride))

abbrev pub decreases-loop-w : goal.decreases-loop-w
decreases-loop-w l = l.n - l.w
