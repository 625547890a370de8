-- `input::total_weight` meets its contract. Assumes nothing.
use Prim.Native.Nat.{◌-◌, ◌*◌, ◌≤◌}
use mathlib.Core.Path.{◌≡◌}
use Rattle.decision.specs.Index.{sum}
use Rattle.rules.specs.Contract.{returns_of}
use Rattle.input.proofs.total_weight.Given as goal

abbrev pub invariant-loop-k : goal.invariant-loop-k
invariant-loop-k l = (l.k ≤ l.count) × (l.total ≡ sum (returns_of l.bytes).weight l.k) × (l.total ≤ 65535 * l.k)

abbrev pub decreases-loop-k : goal.decreases-loop-k
decreases-loop-k l = l.count - l.k
