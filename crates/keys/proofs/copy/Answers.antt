-- `keys::copy` meets its contract. Assumes nothing.
use Rattle.std.proofs.Common.{◌≡◌, sym, refl, arith}
use Rattle.slices.specs.Stored.{stored, stored_more}
use Rattle.keys.proofs.copy.Goals as goal

pub loop-i-init : goal.loop-i-init
unfolding stored
loop-i-init c = (omega arith, refl)

pub overflow_add-best-in-loop-i : goal.overflow_add-best-in-loop-i
overflow_add-best-in-loop-i c = let few = c.requires.small c.loop-i.i c.loop-i-test.true in omega arith

pub loop-i-preserved : goal.loop-i-preserved
loop-i-preserved c = (omega arith, stored_more _ _ _ _ c.loop-i.invariant.1 refl)

pub returns : goal.returns
returns c = let e : c.loop-i.i ≡ c.args.n = omega arith in rw (sym e) c.loop-i.invariant.1
