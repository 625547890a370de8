-- `valuing::check` meets its contract. Assumes nothing.
use native.Mathlib.Omega.{arith}
use Rattle.std.proofs.lemmas.Result.{err_from_is_err_and}
use Rattle.valuing.proofs.Laws.{table_refused, table_short, table_passed}
use Rattle.valuing.proofs.check.Goals as goal

pub returns-in_err-policy-clause-tells : goal.returns-in_err-policy-clause-tells
returns-in_err-policy-clause-tells c =
    let p = err_from_is_err_and c.from_residual.result c.from_residual.ensures.1 in
    rw (p.1, p.2) (table_refused _ _ _ _ c.in_err-policy.ensures.tells)

pub returns-then-table-table_size-clause-tells : goal.returns-then-table-table_size-clause-tells
returns-then-table-table_size-clause-tells c =
    table_short _ _ _ _ c.in_ok-policy.ensures.tells (omega (arith, c.if-table-table_size.true, c.table_size.ensures.0))

pub returns-clause-tells : goal.returns-clause-tells
returns-clause-tells c =
    table_passed _ _ _ _ c.in_ok-policy.ensures.tells (omega (arith, c.if-table-table_size.false, c.table_size.ensures.0))
