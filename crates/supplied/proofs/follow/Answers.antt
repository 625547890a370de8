-- `supplied::follow` meets its contract. Assumes nothing.
use native.Mathlib.Omega.{arith}
use Rattle.rules.specs.FixedTerm.{layer_size}
use Rattle.returns.specs.Sorted.{part_sorted, ordered_input}
use Rattle.valuing.specs.First.{first_from_lem, settling}
use Rattle.supplied.proofs.Laws.{answered_accepted, starting, table_on_most, of_the_list}
use Rattle.supplied.proofs.follow.Goals as goal

pub fill_maturity-requires : goal.fill_maturity-requires
unfolding layer_size
fill_maturity-requires c =
    let v = c.args.policy.given.valid.terms in
    rw c.stride.ensures (omega (arith, v.top), omega (arith, v.top, v.premium), omega (arith, c.requires.room))

pub invariant_of-course : goal.invariant_of-course
invariant_of-course c = record { given = ordered_input c.args.policy.given (part_sorted c.sort-count.ensures) }

pub follow_dates-requires : goal.follow_dates-requires
unfolding layer_size
follow_dates-requires c =
    let pre = c.requires in
    starting c.args.work.now pre.room pre.entries pre.none_bad (rw c.stride.ensures at c.fill_maturity.ensures)

pub settle-requires : goal.settle-requires
unfolding layer_size
settle-requires c =
    let table₀ = c.args.table.now in
    let pre = c.requires in
    let given = c.args.policy.given in
    let sorted = part_sorted c.sort-count.ensures in
    let mature = rw c.stride.ensures at c.fill_maturity.ensures in
    let valued = first_from_lem _ mature (of_the_list _ table₀ sorted.same c.follow_dates.ensures) in
    settling given.valid.terms pre.room valued
    (λ w a. table_on_most _ _ table₀ given.valid pre.none_bad 1 w a (omega arith) given.valid.terms.dates_least)

pub returns : goal.returns
unfolding layer_size
returns c =
    let sorted = part_sorted c.sort-count.ensures in
    let mature = rw c.stride.ensures at c.fill_maturity.ensures in
    let valued = first_from_lem _ mature (of_the_list _ c.args.table.now sorted.same c.follow_dates.ensures) in
    answered_accepted _ _ c.requires.room (c.args.policy.given.valid.rates.rate 0) valued c.settle.ensures
