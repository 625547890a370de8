-- `states::States::decide_down` meets its contract. Assumes nothing.
use lib.ListN.{length}
use Prim.Native.Nat.{◌*◌, ◌≤◌}
use mathlib.Core.Path.{◌≡◌}
use Rattle.states.specs.Decided.{Turned}
use Rattle.states.proofs.States.decide_down.Given as goal

abbrev pub invariant-loop-w : goal.invariant-loop-w
invariant-loop-w l =
    (l.w ≤ l.n)
    × Turned l.self l.initial.work l.initial.table l.work l.table (l.w * l.self.d.stride) (l.n * l.self.d.stride)
    × (length l.best ≡ 512)

abbrev pub decreases-loop-w : goal.decreases-loop-w
decreases-loop-w l = l.w
