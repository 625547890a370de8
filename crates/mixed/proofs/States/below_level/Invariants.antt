-- `mixed::States::below_level` meets its contract. Assumes nothing.
use mathlib.Core.Path.{◌≡◌}
use Prim.Native.Nat.{◌+◌, ◌-◌, ◌≤◌}
use Rattle.keys.specs.Sums.{sums}
use Rattle.date.specs.Behaviour.{behaviour_in}
use Rattle.slices.specs.Stored.{stored}
use Rattle.worth.specs.Worth.{best_key}
use Rattle.mixed.proofs.States.below_level.Given as goal

abbrev pub invariant-loop-j : goal.invariant-loop-j
invariant-loop-j l =
    (l.j ≤ l.n) × (l.best ≡ stored l.initial.best 0
    (λ x. best_key (behaviour_in l.self.behaviour) (sums l.self.work.now l.self.d) l.self.d.rate
    l.self.d.level l.self.s.w (l.self.s.from + x)) l.j)

abbrev pub decreases-loop-j : goal.decreases-loop-j
decreases-loop-j l = l.n - l.j
