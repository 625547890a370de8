-- `dynamic::offer` meets its contract. Assumes nothing.
use mathlib.Core.Path.{ap, refl, ◌∙◌}
use native.Mathlib.Omega.{arith}
use Prim.Native.Nat.{◌+◌}
use lib.ListN.{set}
use Rattle.proportion.specs.Offers.{held_yet, raised}
use Rattle.slices.specs.Stored.{stored}
use Rattle.dynamic.proofs.offer.Goals as goal

pub loop-i-init : goal.loop-i-init
unfolding stored
loop-i-init c = (omega arith, refl)

pub larger-requires : goal.larger-requires
larger-requires c =
    let pre = c.requires in
    let i' = c.loop-i.i in
    let few = pre.small i' c.loop-i-test.true in
    let held = pre.held i' c.loop-i-test.true in
    (omega (arith, held_yet _ _ i' _ c.loop-i.invariant.1), omega arith)

pub loop-i-preserved : goal.loop-i-preserved
loop-i-preserved c =
    (omega arith, ap (set c.loop-i.best (c.args.low + c.loop-i.i)) c.larger.ensures ∙ raised _ _ _ _ c.loop-i.invariant.1 _ refl)
