-- `input::bad_return` meets its contract. Assumes nothing.
use borrow.Author.Tests.{lt-ltb, le-ltb}
use mathlib.Core.Path.{ap, sym, ◌∙◌}
use mathlib.Core.Path.{sym, ◌∙◌}
use Rattle.rules.specs.Contract.{returns_of}
use Rattle.rules.specs.Refusals.{bad_return, outside}
use Rattle.input.proofs.bad_return.Goals as goal

pub returns-then-factor_of-gt-FACTOR_MOST : goal.returns-then-factor_of-gt-FACTOR_MOST
unfolding bad_return returns_of
returns-then-factor_of-gt-FACTOR_MOST c = rw (sym c.factor_of.ensures.0, lt-ltb _ _ c.if-factor_of-gt-FACTOR_MOST.true)

pub returns-else-factor_of-gt-FACTOR_MOST : goal.returns-else-factor_of-gt-FACTOR_MOST
unfolding bad_return returns_of
returns-else-factor_of-gt-FACTOR_MOST c = rw (sym c.factor_of.ensures.0, le-ltb _ _ c.if-factor_of-gt-FACTOR_MOST.false)
    (c.outside.ensures ∙ ap (outside 1 10000) c.weight_of.ensures.0)
