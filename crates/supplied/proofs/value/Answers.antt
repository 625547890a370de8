-- `supplied::value` meets its contract. Assumes nothing.
use mathlib.Core.Path.{refl, sym}
use Rattle.std.proofs.lemmas.Result.{err_from_is_err_and}
use Rattle.input.specs.Accepted.{input_read_lem, input_not_read}
use Rattle.input.specs.Reading.{input_of}
use Rattle.supplied.proofs.Laws.{whole, whole_refused}
use Rattle.supplied.proofs.value.Goals as goal

pub returns-in_err-read : goal.returns-in_err-read
returns-in_err-read c =
    let p = err_from_is_err_and c.from_residual.result c.from_residual.ensures.1 in
    rw (p.1, p.2) (whole_refused (input_of c.args.input) c.args.work.now c.args.table.now
    (input_not_read _ (sym c.in_err-read.ensures.tells)) refl)

pub returns : goal.returns
returns c =
    let x = input_of c.args.input in
    let lists = c.in_ok-read.ensures.lists in
    let known = input_read_lem x _ _ (sym c.in_ok-read.ensures.tells) in
    whole x c.args.work.now c.args.table.now known.accepts _ known.terms (rw (lists.0, lists.1) at c.valued.ensures)
