-- `report::all_lines` meets its contract. Assumes nothing.
use Rattle.std.proofs.Common.{sym}
use Rattle.input.specs.Accepted.{both_read_lem, disagreed}
use Rattle.report.specs.Text.{put_eq}
use Rattle.report.proofs.Laws.{not_both, lines_read}
use Rattle.report.proofs.all_lines.Goals as goal

pub invariant_of-tables : goal.invariant_of-tables
invariant_of-tables c =
    let known = both_read_lem _ _ _ _ (sym c.in-Ok.ensures.tells) in
    record { tabled = rw known.terms c.requires.filled.tabled }

pub returns-in-Ok : goal.returns-in-Ok
returns-in-Ok c =
    let list = c.in-Ok.ensures.list in
    let known = both_read_lem c.args.bytes.now c.args.list.now _ _ (sym c.in-Ok.ensures.tells) in
    put_eq (lines_read c.args.statics.now c.args.mixeds.now c.args.dynamics.now known list) c.lines.ensures

pub returns-in_default : goal.returns-in_default
returns-in_default c =
    absurd (not_both (sym c.requires.filled.accepts)
    (sym (disagreed _ c.args.bytes.now c.args.list.now (sym c.in_default.ensures.tells))))
