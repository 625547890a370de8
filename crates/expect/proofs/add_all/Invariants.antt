-- `expect::add_all` meets its contract. Assumes nothing.
use Prim.Native.Nat.{◌-◌, ◌%◌, ◌≤◌}
use lib.ListN.{length}
use mathlib.Core.Path.{◌≡◌}
use Rattle.expect.specs.Expected.{Summed}
use Rattle.expect.proofs.add_all.Given as goal

abbrev pub invariant-loop-k : goal.invariant-loop-k
invariant-loop-k l =
    (l.k ≤ l.groups.count) × (l.k % 8 ≡ 0) × Summed l.work l.groups l.sums l.from l.n l.k × (length l.sums ≡ 512)

abbrev pub decreases-loop-k : goal.decreases-loop-k
decreases-loop-k l = l.groups.count - l.k
