-- `states::States::decide_down` meets its contract. Assumes nothing.
use mathlib.Core.Logic.{inl, inr}
use mathlib.Core.Path.{refl, sym}
use Prim.Native.Nat.{◌-◌, ◌*◌, ◌<◌}
use native.Mathlib.Nat.{le_trans}
use native.Mathlib.Omega.{arith}
use Rattle.slices.specs.Rows.{rows_before, rows_le}
use Rattle.states.proofs.Blocks.{decided_join}
use Rattle.states.proofs.Layers.{sums_left, ready_kept}
use Rattle.states.proofs.States.decide_down.Goals as goal

pub decide_row-requires : goal.decide_row-requires
decide_row-requires c =
    let stride = c.args.self.d.stride in
    let loop = c.loop-w in
    let few : loop.w - 1 < c.args.n = omega arith in
    let row = rows_before stride loop.w (omega arith) in
    ready_kept (c.requires.1 (loop.w - 1) few) loop.auto.work
    (λ i h. loop.invariant.1.rest i (inl (let below : i < loop.w * stride = omega arith in below)))
    (λ i h. loop.invariant.1.rest i (inr (le_trans c.requires.0.apart h)))

pub loop-w-preserved : goal.loop-w-preserved
loop-w-preserved c =
    let d = c.args.self.d in
    let loop = c.loop-w in
    let row = rows_before d.stride loop.w (omega arith) in
    let below = rows_le d.stride loop.w c.args.n loop.invariant.0 in
    let same = sums_left c.args.work.now loop.work d (λ i h. loop.invariant.1.rest i (inr (le_trans c.requires.0.apart h))) in (
      omega arith,
      decided_join same loop.invariant.1 c.decide_row.ensures (inr (sym row, refl, refl)) below (omega arith),
      c.decide_row.array_long,
    )
