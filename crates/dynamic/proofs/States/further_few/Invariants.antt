-- `dynamic::States::further_few` meets its contract. Assumes nothing.
use Prim.Native.Nat.{◌-◌, ◌≤◌}
use Rattle.proportion.specs.Held.{Held, key_at, tried_below}
use Rattle.dynamic.proofs.States.further_few.Given as goal

abbrev pub invariant-loop-j : goal.invariant-loop-j
invariant-loop-j l = (l.j ≤ l.few) × Held (key_at l.self.work.now l.self.d l.self.s) l.best l.self.s.n (tried_below l.self.d l.self.s l.j)

abbrev pub decreases-loop-j : goal.decreases-loop-j
decreases-loop-j l = l.few - l.j
