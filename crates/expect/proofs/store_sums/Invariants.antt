-- `expect::store_sums` meets its contract. Assumes nothing.
use lib.ListN.{get_or}
use mathlib.Core.Path.{◌≡◌}
use Prim.Native.Nat.{◌*◌, ◌-◌, ◌≤◌}
use Rattle.rules.specs.Date.{discounted}
use Rattle.slices.specs.Stored.{stored}
use Rattle.expect.proofs.store_sums.Given as goal

abbrev pub invariant-loop-j : goal.invariant-loop-j
invariant-loop-j l =
    (l.j ≤ l.n) × (l.work ≡ stored l.initial.work l.to (λ x. 8192 * discounted l.average.discount (get_or l.sums x 0)) l.j)

abbrev pub decreases-loop-j : goal.decreases-loop-j
decreases-loop-j l = l.n - l.j
