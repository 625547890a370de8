-- `states::take_values` meets its contract. Assumes nothing.
use mathlib.Core.Path.{refl}
use native.Mathlib.Omega.{arith}
use Rattle.slices.specs.Stored.{stored, stored_more}
use Rattle.states.proofs.take_values.Goals as goal

pub loop-j-init : goal.loop-j-init
unfolding stored
loop-j-init c = (omega arith, refl)

pub loop-j-preserved : goal.loop-j-preserved
loop-j-preserved c = (omega arith, stored_more _ _ _ _ c.loop-j.invariant.1 refl)
