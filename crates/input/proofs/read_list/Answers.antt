-- `input::read_list` meets its contract. Assumes nothing.
use borrow.Author.Tests.{eq-eqb, ne_eqb, lt-ltb, le-ltb}
use mathlib.Core.Path.{sym, ◌∙◌}
use native.Mathlib.Nat.{zero-add}
use Rattle.contract.specs.Reading.{taken_by}
use Rattle.slices.specs.Found.{found_first, none_first}
use Rattle.input.specs.Read.{list_read}
use Rattle.rules.specs.Contract.{returns_of}
use Rattle.rules.specs.Refusals.{verdict, check_each, list_checks}
use Rattle.input.proofs.Laws.{few}
use Rattle.input.proofs.read_list.Goals as goal

pub returns-then-bad_length : goal.returns-then-bad_length
unfolding list_read taken_by verdict list_checks check_each
returns-then-bad_length c = rw (sym c.bad_length.ensures ∙ c.if-bad_length.true)

pub first_bad-requires : goal.first_bad-requires
unfolding returns_of
first_bad-requires c = rw c.returns_in-count.ensures (few _ (sym c.bad_length.ensures ∙ c.if-bad_length.false))

pub returns-in-Some : goal.returns-in-Some
unfolding list_read taken_by verdict list_checks check_each
returns-in-Some c =
    let f = found_first _ _ (sym c.first_bad.ensures ∙ c.in-Some.is) in
    simp (sym c.bad_length.ensures ∙ c.if-bad_length.false, sym c.returns_in-count.ensures, f.0, lt-ltb _ _ f.1, zero-add)

pub total_weight-requires : goal.total_weight-requires
unfolding returns_of
total_weight-requires c = rw c.returns_in-count.ensures (few _ (sym c.bad_length.ensures ∙ c.if-bad_length.false))

pub returns-then-total_weight-ne-WEIGHT_TOTAL : goal.returns-then-total_weight-ne-WEIGHT_TOTAL
unfolding list_read taken_by verdict list_checks check_each
returns-then-total_weight-ne-WEIGHT_TOTAL c =
    let f = none_first _ _ (sym c.first_bad.ensures ∙ c.in_default.is) in
    simp (
      sym c.bad_length.ensures ∙ c.if-bad_length.false,
      sym c.returns_in-count.ensures,
      le-ltb _ _ f,
      sym c.total_weight.ensures,
      ne_eqb _ _ c.if-total_weight-ne-WEIGHT_TOTAL.true,
    )

pub returns : goal.returns
unfolding list_read taken_by verdict list_checks check_each
returns c =
    let f = none_first _ _ (sym c.first_bad.ensures ∙ c.in_default.is) in
    simp (
      sym c.bad_length.ensures ∙ c.if-bad_length.false,
      sym c.returns_in-count.ensures,
      le-ltb _ _ f,
      sym c.total_weight.ensures,
      eq-eqb _ _ c.if-total_weight-ne-WEIGHT_TOTAL.false,
    )
