-- `surrender::whole` meets its contract. Assumes nothing.
use Prim.Native.Nat.{◌-◌, ◌≤◌}
use lib.ListN.{length}
use mathlib.Core.Path.{◌≡◌}
use Rattle.decision.specs.Bits.{set_bits}
use Rattle.surrender.specs.Mapped.{draws}
use Rattle.surrender.proofs.whole.Given as goal

abbrev pub invariant-loop-t : goal.invariant-loop-t
invariant-loop-t l = (l.t-index ≤ length l.row) × (l.n ≡ set_bits (draws l.row l.account) l.t-index)

abbrev pub decreases-loop-t : goal.decreases-loop-t
decreases-loop-t l = length l.row - l.t-index
