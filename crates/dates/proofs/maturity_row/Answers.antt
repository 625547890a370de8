-- `dates::maturity_row` meets its contract. Assumes nothing.
use Prim.Native.Nat.{◌+◌, ◌*◌}
use lib.ListN.{set}
use mathlib.Core.Path.{refl, ◌∙◌}
use native.Mathlib.Omega.{arith}
use Rattle.slices.specs.Stored.{stored, stored_next}
use Rattle.dates.proofs.maturity_row.Goals as goal

pub loop-a-init : goal.loop-a-init
unfolding stored
loop-a-init c = (omega arith, refl)

pub loop-a-preserved : goal.loop-a-preserved
loop-a-preserved c =
    let args = c.args in
    let loop = c.loop-a in
    (omega arith, (λ i. set (loop.invariant.1 i) (args.w * args.stride + loop.a) (c.maturity_value.ensures.0 i)) ∙ stored_next _ _ _ _)
