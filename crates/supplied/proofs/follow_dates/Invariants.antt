-- `supplied::follow_dates` meets its contract. Assumes nothing.
use Prim.Native.Nat.{◌<◌}
use Rattle.contract.specs.Reading.{terms_in}
use Rattle.returns.specs.Sorted.{in_order}
use Rattle.rules.specs.Contract.{rates_of}
use Rattle.supplied.specs.Followed.{table_on}
use Rattle.valuing.specs.First.{First}
use Rattle.supplied.proofs.follow_dates.Given as goal

-- the dates from i on are followed
abbrev pub invariant-loop-i : goal.invariant-loop-i
invariant-loop-i l =
    (0 < l.i)
    × First (table_on (terms_in l.course.contract) (in_order l.course.order.now) (rates_of l.course.rates.now) l.table l.i)
    (terms_in l.course.contract) l.initial.work l.work
