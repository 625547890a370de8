-- `expect::set_eight` meets its contract. Assumes nothing.
use Prim.Native.Nat.{◌+◌, ◌-◌, ◌≤◌}
use mathlib.Core.Path.{◌≡◌}
use Rattle.decision.specs.Index.{sum}
use Rattle.expect.specs.Expected.{term}
use Rattle.slices.specs.Stored.{stored}
use Rattle.expect.proofs.set_eight.Given as goal

abbrev pub invariant-loop-j : goal.invariant-loop-j
invariant-loop-j l =
    (l.j ≤ l.n) × (l.sums ≡ stored l.initial.sums 0 (λ i. l.groups.paid + sum (term l.work l.groups (l.from + i)) 8) l.j)

abbrev pub decreases-loop-j : goal.decreases-loop-j
decreases-loop-j l = l.n - l.j
