-- `states::copy_sums` meets its contract. Assumes nothing.
use lib.ListN.{get_or}
use mathlib.Core.Path.{◌≡◌}
use Prim.Native.Nat.{◌+◌, ◌-◌, ◌/◌, ◌≤◌}
use Rattle.slices.specs.Stored.{stored}
use Rattle.states.proofs.copy_sums.Given as goal

abbrev pub invariant-loop-j : goal.invariant-loop-j
invariant-loop-j l = (l.j ≤ l.n) × (l.work ≡ stored l.initial.work l.to (λ x. l.cash + get_or l.initial.work (l.at + x) 0 / 8192) l.j)

abbrev pub decreases-loop-j : goal.decreases-loop-j
decreases-loop-j l = l.n - l.j
