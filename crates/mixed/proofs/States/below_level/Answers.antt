-- `mixed::States::below_level` meets its contract. Assumes nothing.
use lib.ListN.{set}
use mathlib.Core.Path.{refl, ◌∙◌}
use native.Mathlib.Omega.{arith}
use Rattle.slices.specs.Stored.{stored, stored_push}
use Rattle.mixed.proofs.States.below_level.Goals as goal

pub loop-j-init : goal.loop-j-init
unfolding stored
loop-j-init c = (omega arith, refl)

pub loop-j-preserved : goal.loop-j-preserved
loop-j-preserved c =
    (omega arith, (λ i. set (c.loop-j.invariant.1 i) c.loop-j.j (c.state_key.ensures i)) ∙ stored_push _ _ _)
