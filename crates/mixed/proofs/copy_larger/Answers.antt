-- `mixed::copy_larger` meets its contract. Assumes nothing.
use lib.ListN.{set}
use Prim.Native.Nat.{◌+◌}
use mathlib.Core.Path.{refl, ◌∙◌}
use native.Mathlib.Omega.{arith}
use Rattle.slices.specs.Stored.{stored, stored_next}
use Rattle.mixed.proofs.copy_larger.Goals as goal

pub loop-i-init : goal.loop-i-init
unfolding stored
loop-i-init c = (omega arith, refl)

pub overflow_add-work : goal.overflow_add-work
overflow_add-work c = let few = c.requires.0.small c.loop-i.i c.loop-i-test.true in omega arith

pub larger-requires : goal.larger-requires
larger-requires c =
    let few = c.requires.0.small c.loop-i.i c.loop-i-test.true in (omega arith, c.requires.1)

pub loop-i-preserved : goal.loop-i-preserved
loop-i-preserved c = (omega arith, (λ i. set (c.loop-i.invariant.1 i) (c.args.low + c.loop-i.i) (c.larger.ensures i)) ∙ stored_next _ _ _ _)
