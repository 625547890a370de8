-- `further::better_run` meets its contract. Assumes nothing.
use Prim.Native.Nat.{ℕ, ◌+◌, max}
use mathlib.Core.Path.{ap₂, ◌∙◌}
use native.Mathlib.Omega.{arith}
use Rattle.further.proofs.Run.{run_none, run_next, run_out, run_before}
use Rattle.further.proofs.better_run.Goals as goal

pub loop-i-init : goal.loop-i-init
loop-i-init c = (omega arith, run_none)

pub overflow_add-work : goal.overflow_add-work
overflow_add-work c =
    let start = c in
    let loop = c.loop-i in
    let l = c.loop-i-test.true in
    let stay_is = run_out loop.invariant.1 (start.args.stay + loop.i) (omega arith) in
    omega (arith, start.requires.3 loop.i l)

pub overflow_add-work-in-loop-i : goal.overflow_add-work-in-loop-i
overflow_add-work-in-loop-i c =
    let start = c in
    let loop = c.loop-i in
    let l = c.loop-i-test.true in
    let from_is = run_before loop.invariant.1 (start.args.from + loop.i) (omega arith) in
    omega (arith, start.requires.4 loop.i l)

pub larger-requires : goal.larger-requires
larger-requires c =
    let start = c in
    let loop = c.loop-i in
    let l = c.loop-i-test.true in
    let stay_is = run_out loop.invariant.1 (start.args.stay + loop.i) (omega arith) in
    let from_is = run_before loop.invariant.1 (start.args.from + loop.i) (omega arith) in
    (omega (arith, start.requires.3 loop.i l), omega (arith, start.requires.4 loop.i l))

pub loop-i-preserved : goal.loop-i-preserved
loop-i-preserved c =
    let start = c in
    let loop = c.loop-i in
    let stay_is = run_out loop.invariant.1 (start.args.stay + loop.i) (omega arith) in
    let from_is = run_before loop.invariant.1 (start.args.from + loop.i) (omega arith) in
    let v = c.larger.ensures ∙ ap₂ (λ (x y : ℕ). max (x + start.args.rest) (y + start.args.step)) stay_is from_is in
    (omega arith, run_next loop.invariant.1 _ v)
