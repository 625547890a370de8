-- `further::further_layer` meets its contract. Assumes nothing.
use Prim.Native.Nat.{◌-◌, ◌*◌, ◌≤◌}
use mathlib.Core.Path.{◌≡◌}
use Rattle.slices.specs.Stored.{stored}
use Rattle.further.proofs.Laws.{rows}
use Rattle.further.proofs.further_layer.Given as goal

abbrev pub invariant-loop-b : goal.invariant-loop-b
invariant-loop-b l = (l.b ≤ l.n) × (l.work ≡ stored l.initial.work 0 (rows l.initial.work l.d) (l.b * l.d.stride))

abbrev pub decreases-loop-b : goal.decreases-loop-b
decreases-loop-b l = l.n - l.b
