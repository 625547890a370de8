-- `valuing::value_no_table` meets its contract. Assumes nothing.
use mathlib.Core.Path.{refl}
use Rattle.std.proofs.lemmas.Result.{err_from_is_err_and}
use Rattle.input.specs.Reading.{input_of}
use Rattle.valuing.specs.First.{turned_away, passed, work_lent}
use Rattle.valuing.proofs.Laws.{no_table_refuses, no_table_values}
use Rattle.valuing.proofs.value_no_table.Goals as goal

pub returns-in_err-policy : goal.returns-in_err-policy
returns-in_err-policy c =
    let p = err_from_is_err_and c.from_residual.result c.from_residual.ensures.1 in
    rw (p.1, p.2) (no_table_refuses _ _ _ _ _ (turned_away (input_of c.args.input) _ c.in_err-policy.ensures.tells) refl)

pub valued_no_table-requires : goal.valued_no_table-requires
valued_no_table-requires c =
    let told = passed _ _ _ c.in_ok-policy.ensures.tells c.in_ok-policy.ensures.checked in
    (work_lent _ _ _ told.accepts told.terms).lent

pub returns : goal.returns
returns c =
    let told = passed _ _ _ c.in_ok-policy.ensures.tells c.in_ok-policy.ensures.checked in
    no_table_values _ _ _ told c.valued_no_table.ensures
