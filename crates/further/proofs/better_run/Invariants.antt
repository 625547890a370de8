-- `further::better_run` meets its contract. Assumes nothing.
use Prim.Native.Nat.{◌+◌, ◌-◌, ◌≤◌, max}
use lib.ListN.{get_or}
use Rattle.further.proofs.Run.{Run}
use Rattle.further.proofs.better_run.Given as goal

abbrev pub invariant-loop-i : goal.invariant-loop-i
invariant-loop-i l =
    (l.i ≤ l.n) × Run l.initial.work l.work l.to
    (λ x. max (get_or l.initial.work (l.stay + x) 0 + l.rest) (get_or l.initial.work (l.from + x) 0 + l.step)) l.i

abbrev pub decreases-loop-i : goal.decreases-loop-i
decreases-loop-i l = l.n - l.i
