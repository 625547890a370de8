-- `death::Death::share_run` meets its contract. Assumes nothing.
use Prim.Native.Nat.{◌-◌, ◌≤◌}
use mathlib.Core.Path.{◌≡◌}
use Rattle.slices.specs.Stored.{stored}
use Rattle.death.proofs.Laws.{shared_run}
use Rattle.death.proofs.Death.share_run.Given as goal

abbrev pub invariant-loop-j : goal.invariant-loop-j
invariant-loop-j l = (l.j ≤ l.n) × (l.work ≡ stored l.initial.work l.from (shared_run l.self.rate l.paid l.step l.initial.work l.from) l.j)

abbrev pub decreases-loop-j : goal.decreases-loop-j
decreases-loop-j l = l.n - l.j
