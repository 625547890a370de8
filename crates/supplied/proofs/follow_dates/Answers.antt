-- `supplied::follow_dates` meets its contract. Assumes nothing.
use Prim.Native.Nat.{suc, ◌-◌, ◌<◌}
use mathlib.Core.Path.{◌≡◌}
use native.Mathlib.Omega.{arith}
use Rattle.contract.specs.Reading.{terms_in}
use Rattle.returns.specs.Sorted.{in_order}
use Rattle.rules.specs.Contract.{rates_of}
use Rattle.supplied.specs.Followed.{table_on}
use Rattle.valuing.specs.First.{First}
use Rattle.supplied.proofs.Laws.{dating, first_before, first_none}
use Rattle.supplied.proofs.follow_dates.Goals as goal
use Rattle.supplied.proofs.follow_dates.Goals.{In-loop-i}

pub loop-i-init : goal.loop-i-init
loop-i-init c = (c.args.course.contract.in_range.dates_least, first_none c.args.course.given c.requires)

-- what is followed so far, told of the date in hand
above : (c : In-loop-i)
    → First
    (table_on (terms_in c.args.course.contract) (in_order c.args.course.order.now) (rates_of c.args.course.rates.now) c.args.table.now
    (suc (c.loop-i.i - 1)))
    (terms_in c.args.course.contract) c.args.work.now c.loop-i.work
above c = let e : c.loop-i.i ≡ suc (c.loop-i.i - 1) = omega (arith, c.loop-i.invariant.0) in rw e at c.loop-i.invariant.1

pub follow_date-requires : goal.follow_date-requires
follow_date-requires c =
    let some : 0 < c.loop-i.i - 1 = omega (arith, c.loop-i-test.true) in
    let before : c.loop-i.i - 1 < c.args.course.contract.dates = omega (arith, c.loop-i.auto.i, c.loop-i.invariant.0) in
    dating c.args.course.given c.requires c.layer_of-part.ensures some before (above (goal.at.follow_date-requires c).In-loop-i)

pub loop-i-preserved : goal.loop-i-preserved
loop-i-preserved c =
    let some : 0 < c.loop-i.i - 1 = omega (arith, c.loop-i-test.true) in
    let before : c.loop-i.i - 1 < c.args.course.contract.dates = omega (arith, c.loop-i.auto.i, c.loop-i.invariant.0) in
    let so_far = above (goal.at.loop-i-preserved c).In-loop-i in
    (some, first_before c.args.course.given c.requires c.layer_of-part.ensures some before so_far _ c.follow_date.ensures)

pub shape_of-work : goal.shape_of-work
shape_of-work c = c.loop-i.invariant.1.long

pub returns : goal.returns
returns c =
    let e : c.loop-i.i ≡ 1 = omega (arith, c.loop-i.invariant.0, c.loop-i-test.false) in rw e at c.loop-i.invariant.1
