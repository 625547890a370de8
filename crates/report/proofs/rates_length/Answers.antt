-- `report::rates_length` meets its contract. Assumes nothing.
use Rattle.std.proofs.Common.{◌*◌, refl, ap, sym, ◌∙◌, arith}
use Rattle.contract.specs.Accepted.{read_accepted, read_refused}
use Rattle.contract.specs.Reading.{reading_tells}
use Rattle.rules.specs.Contract.{Terms}
use Rattle.rules.specs.Refusals.{on_success}
use Rattle.report.proofs.rates_length.Goals as goal

pub returns-in-Ok : goal.returns-in-Ok
unfolding on_success
returns-in-Ok c =
    let known = read_accepted _ c.in-Ok.c (sym c.read.ensures ∙ ap reading_tells c.in-Ok.is) in
    (rw known.accepts (ap (λ (x : Terms). 2 * x.dates) known.terms), omega (arith, known.valid.dates))

pub returns-in-Err : goal.returns-in-Err
unfolding on_success
returns-in-Err c = (rw (read_refused _ (sym c.read.ensures ∙ ap reading_tells c.in-Err.is)) refl, omega arith)
