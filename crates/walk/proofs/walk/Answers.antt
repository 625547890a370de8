-- `walk::walk` meets its contract. Assumes nothing.
use mathlib.Core.Path.{refl, sym}
use Rattle.std.proofs.lemmas.Result.{err_from_is_err_and}
use Rattle.input.specs.Accepted.{both_read_lem, disagreed}
use Rattle.walk.proofs.Laws.{whole, whole_refused}
use Rattle.walk.proofs.walk.Goals as goal

pub returns-in_err-read : goal.returns-in_err-read
returns-in_err-read c =
    let a = c.args in
    let p = err_from_is_err_and c.from_residual.result c.from_residual.ensures.1 in
    let w = whole_refused a.bytes.now a.list.now a.table.now a.path.now a.cash.now
    (disagreed _ a.bytes.now a.list.now (sym c.in_err-read.ensures.tells)) refl in
    rw (p.1, p.2) (record { outcome = w.outcome_is; cash_after = w.cash_is })

pub returns : goal.returns
returns c =
    let a = c.args in
    let list_is = c.in_ok-read.ensures.list in
    let known = both_read_lem a.bytes.now a.list.now _ _ (sym c.in_ok-read.ensures.tells) in
    let w = whole a.bytes.now a.list.now a.table.now a.path.now a.cash.now known.accepts _ known.terms
    (rw list_is at c.walked.ensures) in
    record { outcome = w.outcome_is; cash_after = w.cash_is }
