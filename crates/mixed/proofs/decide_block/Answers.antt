-- `mixed::decide_block` meets its contract. Assumes nothing.
use native.Mathlib.Omega.{arith}
use Rattle.date.specs.Behaviour.{behaviour_in}
use Rattle.mixed.proofs.Laws.{both_parts}
use Rattle.mixed.proofs.decide_block.Goals as goal

pub returns : goal.returns
returns c =
    let args = c.args in
    let pre = c.requires in
    both_parts (behaviour_in args.behaviour) args.best.now _ _ c.min-low.result (omega (arith, c.min-low.ensures)) pre.1.short
    (omega (arith, c.told-best))
    c.below_level.ensures c.from_level.ensures
