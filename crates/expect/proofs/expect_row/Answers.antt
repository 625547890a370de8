-- `expect::expect_row` meets its contract. Assumes nothing.
use Prim.Native.Nat.{◌+◌}
use mathlib.Core.Path.{◌≡◌, refl, ap, ◌∙◌}
use native.Mathlib.Omega.{arith}
use Rattle.slices.specs.Stored.{stored}
use Rattle.expect.proofs.Laws.{row_part, row_more}
use Rattle.expect.proofs.expect_row.Goals as goal

pub loop-from-init : goal.loop-from-init
unfolding stored
loop-from-init c = (omega arith, refl)

pub expect_run-requires : goal.expect_run-requires
expect_run-requires c =
    let loop = c.loop-from in
    let n = c.min-n.result in
    let e = c.min-n.ensures in
    (row_part c.requires loop.work _ _ (loop.from + n) loop.invariant.1 (omega arith), omega arith)

pub loop-from-preserved : goal.loop-from-preserved
loop-from-preserved c =
    let loop = c.loop-from in
    let e : loop.from + c.min-n.result ≡ loop.from + 512 = omega (arith, c.min-n.ensures) in (
      omega arith,
      row_more c.requires c.args.average.discount loop.from c.min-n.result (omega arith) loop.invariant.1 c.expect_run.ensures
          ∙ ap (stored c.args.work.now c.args.to _) e,
    )

pub returns : goal.returns
returns c =
    let loop = c.loop-from in
    let e : loop.from ≡ c.args.stride = omega arith in
    loop.invariant.1 ∙ ap (stored c.args.work.now c.args.to _) e

pub returns-2 : goal.returns-2
returns-2 c =
    let loop = c.loop-from in
    let e : loop.from + c.min-n.result ≡ c.args.stride = omega (arith, c.min-n.ensures) in
    row_more c.requires c.args.average.discount loop.from c.min-n.result (omega arith) loop.invariant.1 c.expect_run.ensures
    ∙ ap (stored c.args.work.now c.args.to _) e
