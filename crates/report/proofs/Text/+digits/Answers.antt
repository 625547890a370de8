-- `report::Text::digits`, which calls itself, meets its contract. Assumes nothing.
use Rattle.std.proofs.Common.{◌-◌, ◌+◌, sym, arith}
use Rattle.report.specs.Text.{put_none, put_eq, put_then, put_most, digits_none, digits_one, digits_more}
use Rattle.report.proofs.Text.+digits.Goals as goal
use Rattle.report.proofs.Text.+digits.Goals.{then-x-ge10, else-x-ge10}

pub returns-then-places-eq0 : goal.returns-then-places-eq0
returns-then-places-eq0 t c = put_eq (sym (digits_none _ _ c.if-places-eq0.true)) (put_none _ _)

pub returns : goal.returns
returns t c = elim c.if-x-ge10.branch [
  | then-x-ge10 w ↦
      put_most {m = (c.args.places - 1) + 1} (omega (arith, c.if-places-eq0.false))
      (put_eq (sym (digits_more _ _ (omega (arith, c.if-places-eq0.false)) w.if-x-ge10.true))
      (put_then w.digits.ensures (rw w.self-is at c.byte.ensures)))
  | else-x-ge10 w ↦
      put_most {m = 1} (omega (arith, c.if-places-eq0.false))
      (put_eq (sym (digits_one _ _ (omega (arith, c.if-places-eq0.false)) w.if-x-ge10.false)) (rw w.self-is at c.byte.ensures))
]
