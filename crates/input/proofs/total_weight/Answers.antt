-- `input::total_weight` meets its contract. Assumes nothing.
use mathlib.Core.Path.{◌≡◌, refl, sym}
use native.Mathlib.Omega.{arith}
use Rattle.decision.specs.Index.{sum, sum_next}
use Rattle.rules.specs.Contract.{returns_of}
use Rattle.input.proofs.total_weight.Goals as goal

pub loop-k-init : goal.loop-k-init
unfolding sum
loop-k-init c = (omega arith, refl, omega arith)

pub loop-k-preserved : goal.loop-k-preserved
unfolding returns_of
loop-k-preserved c = let f = (returns_of c.args.bytes.now).weight in
    (omega arith, omega (arith, sum_next f c.loop-k.k), omega arith)

pub returns : goal.returns
returns c = let e : c.loop-k.k ≡ c.args.count = omega arith in rw (sym e) c.loop-k.invariant.1
