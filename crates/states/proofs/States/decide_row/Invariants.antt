-- `states::States::decide_row` meets its contract. Assumes nothing.
use lib.ListN.{length}
use Prim.Native.Nat.{◌+◌, ◌-◌, ◌*◌, ◌≤◌}
use mathlib.Core.Path.{◌≡◌}
use Rattle.states.specs.Decided.{Turned}
use Rattle.states.proofs.States.decide_row.Given as goal

abbrev pub invariant-loop-from : goal.invariant-loop-from
invariant-loop-from l =
    (l.from ≤ l.self.d.stride)
    × Turned l.self l.initial.work l.initial.table l.work l.table (l.w * l.self.d.stride) (l.w * l.self.d.stride + l.from)
    × (length l.best ≡ 512)

abbrev pub decreases-loop-from : goal.decreases-loop-from
decreases-loop-from l = l.self.d.stride - l.from
