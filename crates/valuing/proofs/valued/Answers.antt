-- `valuing::valued` meets its contract. Assumes nothing.
use native.Mathlib.Omega.{arith}
use Rattle.rules.specs.FixedTerm.{layer_size}
use Rattle.returns.specs.Sorted.{part_sorted, ordered_input}
use Rattle.valuing.specs.First.{settling}
use Rattle.dates.specs.Back.{values_most}
use Rattle.valuing.proofs.Laws.{answered, starting, first, from_start, of_the_list}
use Rattle.valuing.proofs.valued.Goals as goal

pub fill_maturity-requires : goal.fill_maturity-requires
unfolding layer_size
fill_maturity-requires c =
    let given = c.args.policy.given in
    let v = given.valid.terms in
    let pre = c.requires in
    rw c.stride.ensures (omega (arith, v.top), omega (arith, v.top, v.premium), omega (arith, pre.room))

pub invariant_of-course : goal.invariant_of-course
invariant_of-course c = record { given = ordered_input c.args.policy.given (part_sorted c.sort-count.ensures) }

pub all_dates-requires : goal.all_dates-requires
unfolding layer_size
all_dates-requires c = starting c.requires (rw c.stride.ensures at c.fill_maturity.ensures)

pub settle-requires : goal.settle-requires
unfolding layer_size
settle-requires c =
    let pre = c.requires in
    let given = c.args.policy.given in
    let sorted = part_sorted c.sort-count.ensures in
    let v = from_start _ (rw c.stride.ensures at c.fill_maturity.ensures) (of_the_list sorted.same c.all_dates.ensures) in
    settling given.valid.terms pre.room (first v) (values_most _ _ _ _ given.valid 1)

pub returns : goal.returns
unfolding layer_size
returns c =
    let pre = c.requires in
    let given = c.args.policy.given in
    let sorted = part_sorted c.sort-count.ensures in
    let v = from_start _ (rw c.stride.ensures at c.fill_maturity.ensures) (of_the_list sorted.same c.all_dates.ensures) in
    answered _ _ pre.room (given.valid.rates.rate 0) v c.settle.ensures
