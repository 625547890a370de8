-- `expect::expect_run` meets its contract. Assumes nothing.
use Prim.Native.Nat.{ℕ, ◌+◌, ◌*◌}
use mathlib.Core.Path.{ap, ◌∙◌}
use native.Mathlib.Omega.{arith}
use Rattle.rules.specs.Date.{discounted}
use Rattle.slices.specs.Stored.{stored_eq}
use Rattle.expect.proofs.Laws.{row_sum_le}
use Rattle.expect.proofs.expect_run.Goals as goal

pub store_sums-requires : goal.store_sums-requires
store_sums-requires c =
    let start = c in
    let pre = start.requires in
    let add-all = c.add_all in (
      pre.1,
      omega (arith, pre.0.room),
      pre.0.sums_small,
      λ j l. let x = row_sum_le pre.0 (start.args.p.from + j) (omega arith) in omega (arith, add-all.ensures.each j l),
    )

pub returns : goal.returns
returns c =
    let args = c.args in
    let add-all = c.add_all in
    let value : ℕ → ℕ = λ x. 8192 * discounted args.average.discount x in
    c.store_sums.ensures ∙ stored_eq _ _ _ _ args.p.n (λ j l. ap value (add-all.ensures.each j l))
