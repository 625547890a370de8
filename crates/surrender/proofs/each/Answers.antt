-- `surrender::each` meets its contract. Assumes nothing.
use Prim.Native.Nat.{ℕ, ◌+◌, ◌-◌, ◌*◌}
use lib.ListN.{length, get_or}
use mathlib.Core.List.{List}
use mathlib.Core.Path.{◌≡◌, refl, ap, ap₂, sym, ◌∙◌}
use native.Mathlib.Nat.{le_refl}
use native.Mathlib.Omega.{arith}
use lib.Dec.{eqb}
use Rattle.std.proofs.lemmas.List.{length_push, get_or_push, get_or_append_left}
use Rattle.decision.proofs.Bits.{bit_le}
use Rattle.surrender.specs.Mapped.{draws}
use Rattle.surrender.proofs.Bits.{above, above_none, above_next, above_all, above_fits, bit_is}
use Rattle.surrender.proofs.each.Goals as goal
use Rattle.surrender.proofs.each.Goals.{In-Some}

pub loop-t-init : goal.loop-t-init
loop-t-init c =
    let args = c.args in
    let all : c.into_iter-t-iterator.result.iter.rest.now ≡ args.row.now = cc in
    rw all (le_refl _, λ i h. refl, sym (above_none (draws args.row.now args.account) (length args.row.now)))

-- one less is left
fewer : (c : In-Some) → length c.loop-t.t-iterator.iter.rest.now ≡ length c.next.new.self.iter.rest.now + 1
fewer c = ap length c.in-Some.ensures.steps ∙ length_push _ _

pub overflow_mul-bits : goal.overflow_mul-bits
overflow_mul-bits c =
    let args = c.args in
    let left = fewer (goal.at.overflow_mul-bits c).In-Some in
    let f = above_fits (draws args.row.now args.account) (length args.row.now) (length c.loop-t.t-iterator.iter.rest.now) c.requires
    (omega (arith, left)) in
    omega (arith, c.loop-t.invariant.2)

pub overflow_add-bits : goal.overflow_add-bits
overflow_add-bits c =
    let args = c.args in
    let left = fewer (goal.at.overflow_add-bits c).In-Some in
    let f = above_fits (draws args.row.now args.account) (length args.row.now) (length c.loop-t.t-iterator.iter.rest.now) c.requires
    (omega (arith, left)) in
    let one = eqb c.in-Some.field-0.now args.account in
    omega (arith, c.loop-t.invariant.2, c.from.ensures, bit_is one, bit_le one)

pub loop-t-smaller : goal.loop-t-smaller
loop-t-smaller c = let left = fewer (goal.at.loop-t-smaller c).In-Some in omega (arith, left)

pub loop-t-preserved : goal.loop-t-preserved
loop-t-preserved c =
    let args = c.args in
    let row = args.row.now in
    let inv = c.loop-t.invariant in
    let rest = c.next.new.self.iter.rest.now in
    let steps = c.in-Some.ensures.steps in
    let left = fewer (goal.at.loop-t-preserved c).In-Some in
    let k = length c.loop-t.t-iterator.iter.rest.now in
    let f = draws row args.account in
    let before : k - 1 ≡ length rest = omega (arith, left) in
    let met : c.in-Some.field-0.now ≡ get_or row (length rest) 0 =
    sym (get_or_push rest c.in-Some.field-0.now 0 (length rest) refl)
    ∙ sym (ap (λ (xs : List ℕ). get_or xs (length rest) 0) steps)
    ∙ inv.1 (length rest) (omega (arith, left)) in
    let added = c.from.ensures ∙ bit_is _ in
    let next = above_next f (length row) k (omega (arith, left)) inv.0 in (
      omega (arith, left, inv.0),
      λ i h. sym (get_or_append_left rest _ 0 i h) ∙ sym (ap (λ (xs : List ℕ). get_or xs i 0) steps) ∙ inv.1 i (omega (arith, left)),
      ap₂ (λ (x y : ℕ). 2 * x + y) inv.2 (added ∙ rw (met, before) refl) ∙ next ∙ ap (above f (length row)) before,
    )

pub returns : goal.returns
returns c =
    let f = draws c.args.row.now c.args.account in
    let n = length c.args.row.now in
    c.loop-t.invariant.2 ∙ ap (above f n) c.in-None.ensures.steps.0 ∙ above_all f n
