-- `expect::add_eight` meets its contract. Assumes nothing.
use Prim.Native.Nat.{ℕ, ◌+◌}
use lib.ListN.{set}
use mathlib.Core.Path.{◌≡◌, refl, ap₂, ◌∙◌}
use native.Mathlib.Omega.{arith}
use Rattle.decision.specs.Index.{sum, sum_append}
use Rattle.expect.specs.Expected.{term}
use Rattle.slices.specs.Stored.{stored, stored_push}
use Rattle.expect.proofs.Laws.{kept_yet}
use Rattle.expect.proofs.add_eight.Goals as goal

pub loop-j-init : goal.loop-j-init
unfolding stored
loop-j-init c = (omega arith, refl)

pub eight_products-requires : goal.eight_products-requires
eight_products-requires c =
    let run = c.requires.0 in
    (omega (arith, run.few), λ i l. run.reached i c.loop-j.j l c.loop-j-test.true)

pub overflow_add-sums : goal.overflow_add-sums
overflow_add-sums c =
    let start = c in
    let loop = c.loop-j in
    let read = kept_yet _ _ loop.j loop.invariant.1 in
    let small = start.requires.1.small loop.j c.loop-j-test.true in
    omega (arith, start.requires.0.few, c.eight_products.ensures.1)

pub loop-j-preserved : goal.loop-j-preserved
loop-j-preserved c =
    let loop = c.loop-j in
    let args = c.args in
    let f = term args.work.now args.groups.now (args.from + loop.j) in
    let eight : c.eight_products.result ≡ sum (λ e. f (args.k + e)) 8 =
    omega (arith, c.eight_products.ensures.0, sum_append f args.k 8) in
    let more = ap₂ (λ (x y : ℕ). x + y) (kept_yet _ _ loop.j loop.invariant.1) eight in
    (omega arith, (λ i. set (loop.invariant.1 i) loop.j (more i)) ∙ stored_push _ _ _)
