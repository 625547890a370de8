-- `expect::add_all` meets its contract. Assumes nothing.
use Prim.Native.Nat.{ℕ, ◌+◌, ◌%◌, ◌≤◌, ◌<◌}
use mathlib.Core.Path.{◌≡◌, subst}
use native.Mathlib.Omega.{arith}
use Rattle.decision.specs.Index.{sum_append}
use Rattle.expect.specs.Expected.{Summed}
use Rattle.expect.proofs.Laws.{run_part, summed_adding, summed_more}
use Rattle.expect.proofs.add_all.Goals as goal

pub set_eight-requires : goal.set_eight-requires
set_eight-requires c = let pre = c.requires in (run_part pre.0 8 pre.1.some, pre.2)

pub loop-k-init : goal.loop-k-init
loop-k-init c = (c.requires.1.some, omega arith, c.set_eight.ensures, omega arith)

-- eight more are left
left : (k count : ℕ) → k < count → k % 8 ≡ 0 → count % 8 ≡ 0 → k + 8 ≤ count
left k count l m n = omega arith

pub add_eight-requires : goal.add_eight-requires
add_eight-requires c =
    let pre = c.requires in
    let loop = c.loop-k in
    let fits = left _ _ c.loop-k-test.true loop.invariant.1 pre.1.whole in
    (run_part pre.0 (loop.k + 8) fits, summed_adding pre.0 loop.invariant.2 pre.2 loop.invariant.0)

pub loop-k-preserved : goal.loop-k-preserved
loop-k-preserved c =
    let loop = c.loop-k in
    let run = c.requires.0 in
    let k = loop.k in (
      left _ _ c.loop-k-test.true loop.invariant.1 c.requires.1.whole,
      omega (arith, loop.invariant.1),
      summed_more (k + 8) _ loop.invariant.2 c.add_eight.ensures (omega (arith, run.short)) (λ j. sum_append _ k 8),
      omega arith,
    )

pub returns : goal.returns
returns c =
    let args = c.args in
    let loop = c.loop-k in
    let e : loop.k ≡ args.groups.now.count = omega arith in
    subst (Summed args.work.now args.groups.now loop.sums args.from args.n) e loop.invariant.2

pub returns-2 : goal.returns-2
returns-2 c =
    let args = c.args in
    let loop = c.loop-k in
    let run = c.requires.0 in
    let fits = left _ _ c.loop-k-test.true loop.invariant.1 c.requires.1.whole in
    let e : loop.k + 8 ≡ args.groups.now.count = omega arith in
    subst (Summed args.work.now args.groups.now c.add_eight.new.sums args.from args.n) e
    (summed_more (loop.k + 8) _ loop.invariant.2 c.add_eight.ensures (omega (arith, run.short)) (λ j. sum_append _ loop.k 8))
