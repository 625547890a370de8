-- `supplied::too_short` meets its contract. Assumes nothing.
use Prim.Native.Nat.{ℕ}
use borrow.Author.Tests.{lt-ltb, le-ltb}
use lib.Dec.{ltb}
use lib.ListN.{length}
use mathlib.Core.Path.{refl, ap, sym}
use Rattle.rules.specs.Refusals.{short}
use Rattle.supplied.proofs.too_short.Goals as goal

pub returns-then-work-work_size : goal.returns-then-work-work_size
unfolding short
returns-then-work-work_size c = rw (sym c.work_size.ensures.0, lt-ltb _ _ c.if-work-work_size.true) refl

pub returns-else-work-work_size : goal.returns-else-work-work_size
unfolding short
returns-else-work-work_size c =
    rw (le-ltb _ _ (rw c.work_size.ensures.0 at c.if-work-work_size.false))
    (ap (λ (n : ℕ). ltb (length c.args.table.now) n) c.table_size.ensures.0)
