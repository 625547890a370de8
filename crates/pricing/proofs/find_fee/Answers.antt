-- `pricing::find_fee` meets its contract. Assumes nothing.
use native.Mathlib.Omega.{arith}
use Rattle.std.proofs.lemmas.Result.{err_from_is_err_and}
use Rattle.input.specs.Reading.{input_of}
use Rattle.valuing.specs.First.{turned_away, passed, work_lent}
use Rattle.pricing.proofs.Laws.{told_refused, told_cleared}
use Rattle.pricing.proofs.find_fee.Goals as goal

pub returns-in_err-policy : goal.returns-in_err-policy
returns-in_err-policy c =
    let p = err_from_is_err_and c.from_residual.result c.from_residual.ensures.1 in
    rw (p.1, p.2) (told_refused _ _ _ _ _ _ (turned_away (input_of c.args.input) _ c.in_err-policy.ensures.tells))

pub search-found-requires : goal.search-found-requires
search-found-requires c =
    let told = passed _ _ _ c.in_ok-policy.ensures.tells c.in_ok-policy.ensures.checked in
    (work_lent _ _ _ told.accepts told.terms).lent

pub clear-requires : goal.clear-requires
clear-requires c =
    let told = passed _ _ _ c.in_ok-policy.ensures.tells c.in_ok-policy.ensures.checked in
    let room = (work_lent _ _ _ told.accepts told.terms).lent.room in
    omega (arith, room, c.work_size.ensures.0, c.search-found.ensures.kept.long)

pub returns : goal.returns
returns c =
    let told = passed _ _ _ c.in_ok-policy.ensures.tells c.in_ok-policy.ensures.checked in
    let room = (work_lent _ _ _ told.accepts told.terms).lent.room in
    rw c.ok_or.ensures.value
    (told_cleared _ _ _ _ told room c.search-found.ensures c.work_size.ensures.0 c.clear.ensures)
