-- `dates::maturity_row` meets its contract. Assumes nothing.
use Prim.Native.Nat.{◌-◌, ◌≤◌}
use mathlib.Core.Path.{◌≡◌}
use Rattle.rules.specs.Date.{maturity_value}
use Rattle.slices.specs.Stored.{stored}
use Rattle.dates.proofs.maturity_row.Given as goal

abbrev pub invariant-loop-a : goal.invariant-loop-a
invariant-loop-a l = (l.a ≤ l.stride) × (l.work ≡ stored l.initial.work l.row (maturity_value l.w) l.a)

abbrev pub decreases-loop-a : goal.decreases-loop-a
decreases-loop-a l = l.stride - l.a
