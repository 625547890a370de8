-- `expect::set_eight` meets its contract. Assumes nothing.
use Prim.Native.Nat.{ℕ, ◌+◌}
use lib.ListN.{set}
use mathlib.Core.Path.{◌≡◌, refl, ap, sym, ◌∙◌}
use native.Mathlib.Nat.{zero-add}
use native.Mathlib.Omega.{arith}
use Rattle.decision.specs.Index.{sum}
use Rattle.slices.specs.Stored.{stored, stored_push}
use Rattle.expect.proofs.Laws.{summed}
use Rattle.expect.proofs.set_eight.Goals as goal

pub loop-j-init : goal.loop-j-init
unfolding stored
loop-j-init c = (omega arith, refl)

pub eight_products-requires : goal.eight_products-requires
eight_products-requires c =
    let run = c.requires.0 in
    (run.few, λ i l. run.reached i c.loop-j.j l c.loop-j-test.true)

pub loop-j-preserved : goal.loop-j-preserved
unfolding sum
loop-j-preserved c =
    let loop = c.loop-j in
    let paid = c.args.groups.now.paid in
    let all = sym (ap (λ (x : ℕ). paid + x) (c.eight_products.ensures.0 ∙ zero-add _)) in
    (omega arith, (λ i. set (loop.invariant.1 i) loop.j (all i)) ∙ stored_push _ _ _)

pub returns : goal.returns
returns c =
    let pre = c.requires in
    let e : c.loop-j.j ≡ c.args.n = omega arith in
    summed _ (c.loop-j.invariant.1 ∙ ap (stored _ 0 _) e) (omega (arith, pre.0.short))
