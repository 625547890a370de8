-- `expect::add_eight` meets its contract. Assumes nothing.
use Prim.Native.Nat.{◌+◌, ◌-◌, ◌≤◌}
use lib.ListN.{get_or}
use mathlib.Core.Path.{◌≡◌}
use Rattle.decision.specs.Index.{sum}
use Rattle.expect.specs.Expected.{term}
use Rattle.slices.specs.Stored.{stored}
use Rattle.expect.proofs.add_eight.Given as goal

abbrev pub invariant-loop-j : goal.invariant-loop-j
invariant-loop-j l =
    (l.j ≤ l.n)
    × (l.sums
    ≡ stored l.initial.sums 0
    (λ i. get_or l.initial.sums i 0 + sum (λ e. term l.work l.groups (l.from + i) (l.k + e)) 8) l.j)

abbrev pub decreases-loop-j : goal.decreases-loop-j
decreases-loop-j l = l.n - l.j
