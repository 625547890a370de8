-- `dates::fill_maturity` meets its contract. Assumes nothing.
use Prim.Native.Nat.{◌-◌, ◌*◌, ◌≤◌}
use mathlib.Core.Path.{◌≡◌}
use Rattle.rules.specs.Date.{maturity_value}
use Rattle.slices.specs.Rows.{flat}
use Rattle.slices.specs.Stored.{stored}
use Rattle.dates.proofs.fill_maturity.Given as goal

abbrev pub invariant-loop-w : goal.invariant-loop-w
invariant-loop-w l = (l.w ≤ l.n) × (l.work ≡ stored l.initial.work 0 (flat l.stride maturity_value) (l.w * l.stride))

abbrev pub decreases-loop-w : goal.decreases-loop-w
decreases-loop-w l = l.n - l.w
