-- `proportion::States::share_amount` meets its contract. Assumes nothing.
use Rattle.std.proofs.Common.{◌≡◌, ◌+◌, ◌-◌, ◌*◌, ◌≤◌, min}
use Rattle.proportion.specs.Held.{key_at, raised_to}
use Rattle.proportion.proofs.States.share_amount.Given as goal

abbrev pub invariant-loop-p : goal.invariant-loop-p
invariant-loop-p l =
    (l.p ≤ 4) × (l.best ≡ raised_to l.initial.best l.r.low
    (λ i. key_at l.self.work.now l.self.d l.self.s (l.r.low + i) l.to.t) (min (8 * l.p) (l.r.end - l.r.low)))

abbrev pub decreases-loop-p : goal.decreases-loop-p
decreases-loop-p l = 4 - l.p
