-- `surrender::each` meets its contract. Assumes nothing.
use Prim.Native.Nat.{ℕ, ◌≤◌, ◌<◌}
use lib.ListN.{length, get_or}
use mathlib.Core.Path.{◌≡◌}
use Rattle.surrender.specs.Mapped.{draws}
use Rattle.surrender.proofs.Bits.{above}
use Rattle.surrender.proofs.each.Given as goal

-- what is left is the start of the row
abbrev pub invariant-loop-t : goal.invariant-loop-t
invariant-loop-t l =
    let left = l.t-iterator.iter.rest.now in
    (length left ≤ length l.row)
    × ((i : ℕ) → i < length left → get_or left i 0 ≡ get_or l.row i 0)
    × (l.bits ≡ above (draws l.row l.account) (length l.row) (length left))

abbrev pub decreases-loop-t : goal.decreases-loop-t
decreases-loop-t l = length l.t-iterator.iter.rest.now
