-- `dynamic::offer` meets its contract. Assumes nothing.
use lib.ListN.{get_or}
use mathlib.Core.Path.{◌≡◌}
use Prim.Native.Nat.{◌+◌, ◌-◌, ◌≤◌, max}
use Rattle.slices.specs.Stored.{stored}
use Rattle.dynamic.proofs.offer.Given as goal

abbrev pub invariant-loop-i : goal.invariant-loop-i
invariant-loop-i l =
    (l.i ≤ l.n) × (l.best ≡ stored l.initial.best l.low
    (λ x. max (get_or l.initial.best (l.low + x) 0) (get_or l.work (l.at + x) 0 + l.add)) l.i)

abbrev pub decreases-loop-i : goal.decreases-loop-i
decreases-loop-i l = l.n - l.i
