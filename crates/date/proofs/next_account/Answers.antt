-- `date::next_account` meets its contract. Assumes nothing.
use Prim.Native.Nat.{min}
use mathlib.Core.Path.{ap, ◌∙◌}
use Rattle.rules.specs.Date.{next_account}
use Rattle.date.proofs.next_account.Goals as goal

pub returns : goal.returns
unfolding next_account
returns c = c.min.ensures ∙ ap (min c.args.top) c.lifted_account.ensures.0
