-- `dates::Course::all_dates` meets its contract. Assumes nothing.
use Prim.Native.Nat.{◌-◌, ◌≤◌, ◌<◌}
use Rattle.contract.specs.Reading.{terms_in}
use Rattle.dates.specs.Back.{Valued}
use Rattle.returns.specs.Sorted.{in_order}
use Rattle.rules.specs.Contract.{rates_of}
use Rattle.date.specs.Behaviour.{behaviour_in}
use Rattle.dates.proofs.Course.all_dates.Given as goal

abbrev pub invariant-loop-i : goal.invariant-loop-i
invariant-loop-i l =
    (0 < l.i) × (l.i ≤ l.self.contract.dates)
    × Valued (behaviour_in l.behaviour) (terms_in l.self.contract) (in_order l.self.order.now) (rates_of l.self.rates.now)
    l.initial.work l.initial.table l.work l.table (l.i - 1)

abbrev pub decreases-loop-i : goal.decreases-loop-i
decreases-loop-i l = l.i
