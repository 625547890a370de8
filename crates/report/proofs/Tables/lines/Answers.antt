-- `report::Tables::lines` meets its contract. Assumes nothing.
use Rattle.std.proofs.Common.{◌≡◌, ◌*◌, ap, arith, lt-ltb, le-ltb}
use Rattle.rules.specs.Printed.{lines_of}
use Rattle.report.specs.Printing.{line_in, line_count_in}
use Rattle.report.specs.Tables.{lines_in}
use Rattle.report.specs.Text.{put_none, put_eq, put_most, put_line}
use Rattle.report.proofs.Tables.lines.Goals as goal

pub returns-then-self-lt2 : goal.returns-then-self-lt2
unfolding lines_in lines_of
returns-then-self-lt2 c = rw (le-ltb 1 c.args.self.now.agreement.contract.dates (omega arith)) (put_none _ _)

pub loop-k-init : goal.loop-k-init
unfolding lines_of
loop-k-init c = put_none _ _

pub line-requires-clause-room : goal.line-requires-clause-room
line-requires-clause-room c =
    let few = c.args.self.now.agreement.returns.count in
    omega (arith, few, c.returns_in-k-end.ensures, c.loop-k-test.true, c.loop-k.invariant.within, c.loop-k.invariant.long)

pub loop-k-preserved : goal.loop-k-preserved
loop-k-preserved c = put_line (line_in c.args.self.now) c.loop-k.invariant c.line.ensures

pub returns : goal.returns
unfolding lines_in
returns c =
    let few = c.args.self.now.agreement.returns.count in
    let e : c.loop-k.k ≡ line_count_in c.args.self.now =
    rw (lt-ltb 1 c.args.self.now.agreement.contract.dates (omega arith)) (omega (arith, c.returns_in-k-end.ensures)) in
    put_eq (ap (lines_of (line_in c.args.self.now)) e)
    (put_most {m = 126 * c.loop-k.k} (omega (arith, few, c.returns_in-k-end.ensures)) c.loop-k.invariant)
