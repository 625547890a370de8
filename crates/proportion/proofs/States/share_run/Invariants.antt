-- `proportion::States::share_run` meets its contract. Assumes nothing.
use Rattle.std.proofs.Common.{◌+◌, ◌-◌, ◌≤◌}
use Rattle.proportion.specs.Held.{Held, key_at}
use Rattle.proportion.specs.Share.{Shared, tried_run}
use Rattle.proportion.proofs.States.share_run.Given as goal

abbrev pub invariant-loop-to : goal.invariant-loop-to
invariant-loop-to l =
    (l.self.d.level ≤ l.to.t) × (l.to.t ≤ l.self.s.w) × Shared l.self.d l.self.s.w l.to
    × Held (key_at l.self.work.now l.self.d l.self.s) l.best l.self.s.n (tried_run l.self.d l.self.s l.low l.end (l.to.t + 1))

abbrev pub decreases-loop-to : goal.decreases-loop-to
decreases-loop-to l = l.self.s.w - l.to.t
