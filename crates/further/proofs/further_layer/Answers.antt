-- `further::further_layer` meets its contract. Assumes nothing.
use mathlib.Core.Path.{refl}
use native.Mathlib.Omega.{arith}
use Rattle.slices.specs.Stored.{stored_none}
use Rattle.further.proofs.Laws.{layer_sums, layer_below, layer_next}
use Rattle.further.proofs.further_layer.Goals as goal

pub loop-b-init : goal.loop-b-init
loop-b-init c = (omega arith, stored_none _ _ _ _)

pub fill_row-requires : goal.fill_row-requires
fill_row-requires c =
    let pre = c.requires in
    let inv = c.loop-b.invariant in
    let more = c.loop-b-test.true in
    (layer_sums _ pre more inv.1, layer_below _ pre more inv.1, refl)

pub loop-b-preserved : goal.loop-b-preserved
loop-b-preserved c =
    (omega arith, layer_next _ c.requires c.loop-b-test.true c.loop-b.invariant.1 c.fill_row.ensures)
