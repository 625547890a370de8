-- `input::Agreement::read` meets its contract. Assumes nothing.
use Rattle.std.proofs.Common.{ap, ap₂, sym}
use Rattle.std.proofs.lemmas.Result.{err_from_is_err_and}
use Rattle.laws.specs.Accepted.{and_then}
use Rattle.rules.specs.Refusals.{Verdict, verdict, list_checks}
use Rattle.contract.specs.Accepted.{read_accepted, read_refused}
use Rattle.input.specs.Accepted.{list_accepted, list_refused, both_accepted, both_refused}
use Rattle.input.proofs.Agreement.read.Goals as goal

pub returns-in_err-contract-clause-tells : goal.returns-in_err-contract-clause-tells
returns-in_err-contract-clause-tells c =
    let p = err_from_is_err_and c.from_residual.result c.from_residual.ensures.1 in
    let refusal = read_refused c.args.bytes.now (sym c.in_err-contract.ensures) in
    rw (p.1, p.2) (both_refused c.args.bytes.now c.args.list.now _ _
    (ap (λ (v : Verdict). and_then v (verdict (list_checks c.args.list.now))) refusal))

pub returns-in_err-read_list-clause-tells : goal.returns-in_err-read_list-clause-tells
returns-in_err-read_list-clause-tells c =
    let f = c.from_residual-in_err-read_list in
    let p = err_from_is_err_and f.result f.ensures.1 in
    let known = read_accepted c.args.bytes.now c.in_ok-contract.contract (sym c.in_ok-contract.ensures) in
    let refusal = list_refused c.args.list.now (sym c.in_err-read_list.ensures) in
    rw (p.1, p.2) (both_refused c.args.bytes.now c.args.list.now _ _ (ap₂ and_then known.accepts refusal))

pub invariant_of-result : goal.invariant_of-result
invariant_of-result c = record { returns = (list_accepted c.args.list.now _ (sym c.in_ok-read_list.ensures)).valid }

pub returns-clause-tells : goal.returns-clause-tells
returns-clause-tells c =
    let known = read_accepted c.args.bytes.now c.in_ok-contract.contract (sym c.in_ok-contract.ensures) in
    let told = list_accepted c.args.list.now _ (sym c.in_ok-read_list.ensures) in
    rw (sym told.count) (both_accepted known told)
