-- `date::admits_dynamic` meets its contract. Assumes nothing.
use lib.Dec.{leb}
use mathlib.Core.Path.{ap}
use Rattle.rules.specs.Date.{admits}
use Rattle.date.proofs.admits_dynamic.Goals as goal

pub returns : goal.returns
unfolding admits
returns c = ap (leb c.args.t) c.largest_amount.ensures
