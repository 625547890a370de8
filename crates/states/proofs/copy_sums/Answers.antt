-- `states::copy_sums` meets its contract. Assumes nothing.
use lib.ListN.{get_or}
use mathlib.Core.Logic.{inr}
use mathlib.Core.Path.{refl, ap, ◌∙◌}
use native.Mathlib.Omega.{arith}
use Prim.Native.Nat.{◌+◌, ◌/◌}
use Rattle.slices.specs.Stored.{stored, stored_more, stored_out}
use Rattle.states.proofs.copy_sums.Goals as goal

pub loop-j-init : goal.loop-j-init
unfolding stored
loop-j-init c = (omega arith, refl)

pub loop-j-preserved : goal.loop-j-preserved
loop-j-preserved c =
    let args = c.args in
    let loop = c.loop-j in
    let read = ap (λ xs. get_or xs (args.at + loop.j) 0) loop.invariant.1 ∙ stored_out _ _ _ _ (args.at + loop.j) (inr (omega arith)) in
    (omega arith, stored_more _ _ _ _ loop.invariant.1 (ap (λ x. args.cash + x / 8192) read))
