-- `report::Text::numbers` meets its contract. Assumes nothing.
use Rattle.std.proofs.Common.{◌≡◌, ℕ, length, take, ap, sym, ◌∙◌, ◌*◌, arith}
use lib.Seq.{take-length}
use Rattle.report.specs.Text.{put_none, put_number, put_then, put_eq, put_most, numbered_lem, spaced}
use Rattle.report.proofs.Text.numbers.Goals as goal

pub loop-x-init : goal.loop-x-init
unfolding spaced
loop-x-init c = put_none _ _

pub loop-x-preserved : goal.loop-x-preserved
loop-x-preserved c = put_number _ c.loop-x-test.true c.loop-x.invariant c.number.ensures

pub returns : goal.returns
returns c =
    let xs = c.args.numbers.now in
    let i = c.loop-x.x-index in
    let e : i ≡ length xs = omega arith in
    let whole : spaced (take i xs) ≡ spaced xs = ap (λ (k : ℕ). spaced (take k xs)) e ∙ ap spaced (take-length xs) in
    put_eq (sym (numbered_lem xs))
    (put_then (put_eq whole (put_most {n = 21 * length xs} (omega arith) c.loop-x.invariant)) c.byte.ensures)
