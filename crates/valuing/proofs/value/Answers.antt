-- `valuing::value` meets its contract. Assumes nothing.
use mathlib.Core.Path.{refl}
use Rattle.std.proofs.lemmas.Result.{err_from_is_err_and}
use Rattle.input.specs.Reading.{input_of}
use Rattle.valuing.specs.Answered.{reported_passed, reported_refused}
use Rattle.valuing.specs.First.{turned_away, passed, table_lent}
use Rattle.valuing.proofs.Laws.{valuing}
use Rattle.valuing.proofs.value.Goals as goal

pub returns-in_err-policy : goal.returns-in_err-policy
returns-in_err-policy c =
    let p = err_from_is_err_and c.from_residual.result c.from_residual.ensures.1 in
    rw (p.1, p.2) (valuing _ _ _ _ (reported_refused _ _ _ _ (turned_away (input_of c.args.input) _ c.in_err-policy.ensures.tells) refl))

pub valued-requires : goal.valued-requires
valued-requires c =
    let told = passed _ _ _ c.in_ok-policy.ensures.tells c.in_ok-policy.ensures.checked in
    (table_lent _ _ _ _ told.accepts told.terms).lent.first

pub returns : goal.returns
returns c =
    let told = passed _ _ _ c.in_ok-policy.ensures.tells c.in_ok-policy.ensures.checked in
    valuing _ _ _ _ (reported_passed _ _ told (table_lent _ _ _ _ told.accepts told.terms).lent.room_table c.valued.ensures)
