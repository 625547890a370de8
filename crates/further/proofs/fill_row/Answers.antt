-- `further::fill_row` meets its contract. Assumes nothing.
use mathlib.Core.Path.{◌∙◌}
use Rattle.further.proofs.Laws.{first_is}
use Rattle.further.proofs.fill_row.Goals as goal

pub returns-then-b-eq0 : goal.returns-then-b-eq0
returns-then-b-eq0 c =
    c.first_row.ensures ∙ first_is _ c.args.d _ _ c.if-b-eq0.true
