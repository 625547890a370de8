-- `valuing::check_no_table` meets its contract. Assumes nothing.
use native.Mathlib.Omega.{arith}
use Rattle.std.proofs.lemmas.Result.{err_from_is_err_and}
use Rattle.valuing.proofs.Laws.{check_read, check_behaviour, check_work, check_passed}
use Rattle.valuing.proofs.check_no_table.Goals as goal

pub returns-in_err-policy-clause-tells : goal.returns-in_err-policy-clause-tells
returns-in_err-policy-clause-tells c =
    let p = err_from_is_err_and c.from_residual.result c.from_residual.ensures.1 in
    rw (p.1, p.2) (check_read _ _ _ c.in_err-policy.ensures.tells)

pub returns-in_err-behaviour-clause-tells : goal.returns-in_err-behaviour-clause-tells
returns-in_err-behaviour-clause-tells c =
    let from = c.from_residual-in_err-behaviour in
    let p = err_from_is_err_and from.result from.ensures.1 in
    rw (p.1, p.2) (check_behaviour _ _ _ c.in_ok-policy.ensures.tells c.in_err-behaviour.ensures)

pub returns-then-work-work_size-clause-tells : goal.returns-then-work-work_size-clause-tells
returns-then-work-work_size-clause-tells c =
    check_work _ _ _ c.in_ok-policy.ensures.tells c.in_ok-behaviour.ensures.0
    (omega (arith, c.if-work-work_size.true, c.work_size.ensures.0))

pub returns-clause-tells : goal.returns-clause-tells
returns-clause-tells c =
    check_passed _ _ _ c.in_ok-policy.ensures.tells c.in_ok-behaviour.ensures.0
    (omega (arith, c.if-work-work_size.false, c.work_size.ensures.0))
