-- `walk::too_short` meets its contract. Assumes nothing.
use borrow.Author.Tests.{lt-ltb, le-ltb}
use mathlib.Core.Path.{refl, sym}
use Rattle.rules.specs.Refusals.{short}
use Rattle.walk.proofs.too_short.Goals as goal

pub returns-then-table-table_size : goal.returns-then-table-table_size
unfolding short
returns-then-table-table_size c = rw (sym c.table_size.ensures.0, lt-ltb _ _ c.if-table-table_size.true) refl

pub returns-else-table-table_size : goal.returns-else-table-table_size
unfolding short
returns-else-table-table_size c = rw (sym c.table_size.ensures.0, le-ltb _ _ c.if-table-table_size.false) refl
