-- `sizes::needed` meets its contract. Assumes nothing.
use Rattle.std.proofs.Common.{sym, ◌∙◌}
use Rattle.std.proofs.lemmas.Result.{err_from_is_err_and}
use Rattle.contract.specs.Accepted.{read_accepted, read_refused}
use Rattle.sizes.specs.Sizes.{sizes_refused, sizes_accepted}
use Rattle.sizes.proofs.needed.Goals as goal

pub returns-in_err-contract : goal.returns-in_err-contract
returns-in_err-contract c =
    let p = err_from_is_err_and c.from_residual.result c.from_residual.ensures.1 in
    let bytes = c.args.bytes.now in
    rw (p.1, p.2) (sizes_refused bytes (read_refused bytes (sym c.in_err-contract.ensures)))

pub returns : goal.returns
returns c =
    let bytes = c.args.bytes.now in
    let known = read_accepted bytes c.in_ok-contract.contract (sym c.in_ok-contract.ensures) in
    let work = c.work_size.ensures.0 in
    let table = c.table_size.ensures.0 in
    (λ i. record { number = 0; work = work i; table = table i; map = c.map_size.ensures i })
    ∙ sizes_accepted bytes known.accepts known.terms
