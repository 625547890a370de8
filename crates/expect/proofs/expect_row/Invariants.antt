-- `expect::expect_row` meets its contract. Assumes nothing.
use Prim.Native.Nat.{◌+◌, ◌*◌, ◌-◌, ◌≤◌}
use mathlib.Core.Path.{◌≡◌}
use Rattle.decision.specs.Index.{sum}
use Rattle.expect.specs.Expected.{term}
use Rattle.rules.specs.Date.{discounted}
use Rattle.slices.specs.Stored.{stored}
use Rattle.expect.proofs.expect_row.Given as goal

abbrev pub invariant-loop-from : goal.invariant-loop-from
invariant-loop-from l =
    (l.from ≤ l.stride)
    × (l.work
    ≡ stored l.initial.work l.to
    (λ x. 8192 * discounted l.average.discount (l.groups.paid + sum (term l.initial.work l.groups x) l.groups.count))
    l.from)

abbrev pub decreases-loop-from : goal.decreases-loop-from
decreases-loop-from l = l.stride - l.from
