-- `proportion::Way::offer` meets its contract. Assumes nothing.
use Rattle.std.proofs.Common.{◌≡◌, ◌+◌, ◌-◌, ◌*◌, ◌≤◌, get_or}
use Rattle.proportion.specs.Held.{raised_to}
use Rattle.proportion.specs.Share.{left}
use Rattle.proportion.proofs.Way.offer.Given as goal

abbrev pub invariant-loop-i : goal.invariant-loop-i
invariant-loop-i l =
    (l.i ≤ l.n) × (l.product ≡ (l.first + l.i) * l.self.step)
    × (l.best ≡ raised_to l.initial.best l.low (λ x. get_or l.work (l.self.at + left l.self.step (l.first + x)) 0 + l.self.add) l.i)

abbrev pub decreases-loop-i : goal.decreases-loop-i
decreases-loop-i l = l.n - l.i
