-- `supplied::follow_row` meets its contract. Assumes nothing.
use Prim.Native.Nat.{ℕ, ◌+◌, ◌*◌}
use lib.ListN.{length, get_or, set}
use mathlib.Core.List.{List}
use mathlib.Core.Path.{◌≡◌, refl, ap, ap₂, sym, ◌∙◌}
use native.Mathlib.Nat.{le_trans, le_of_eq, zero-add}
use native.Mathlib.Omega.{arith}
use Rattle.keys.specs.Sums.{sums}
use Rattle.worth.specs.Worth.{worth_over}
use Rattle.rules.specs.Date.{free_amount}
use Rattle.slices.specs.Rows.{cells, rows_step}
use Rattle.slices.specs.Stored.{stored, stored_next, length_stored}
use Rattle.supplied.specs.Followed.{followed_on}
use Rattle.supplied.proofs.Laws.{row_room, row_entry, amount_within, row_sums, row_layers}
use Rattle.supplied.proofs.follow_row.Goals as goal

pub overflow_mul-row : goal.overflow_mul-row
overflow_mul-row c =
    let args = c.args in
    let e = rows_step args.d.stride args.w in
    omega (arith, c.requires.layers.room)

pub loop-a-init : goal.loop-a-init
unfolding stored
loop-a-init c = (omega arith, refl)

pub overflow_add-i : goal.overflow_add-i
overflow_add-i c =
    let args = c.args in
    let w₀ = args.w in
    let pre = c.requires in
    let loop = c.loop-a in
    let a' = loop.a in
    let lw : length loop.work ≡ length args.work.now = ap length loop.invariant.1 ∙ length_stored _ _ _ _ in
    let p = row_room w₀ pre a' c.loop-a-test.true in
    let q = row_entry w₀ pre a' c.loop-a-test.true in
    omega arith

pub offset_bounds-layer-i : goal.offset_bounds-layer-i
offset_bounds-layer-i c =
    let args = c.args in
    let w₀ = args.w in
    let pre = c.requires in
    let loop = c.loop-a in
    let a' = loop.a in
    let lw : length loop.work ≡ length args.work.now = ap length loop.invariant.1 ∙ length_stored _ _ _ _ in
    let p = row_room w₀ pre a' c.loop-a-test.true in
    let q = row_entry w₀ pre a' c.loop-a-test.true in
    omega arith

pub bounds-layer-i : goal.bounds-layer-i
bounds-layer-i c =
    let args = c.args in
    let w₀ = args.w in
    let pre = c.requires in
    let loop = c.loop-a in
    let a' = loop.a in
    let lw : length loop.work ≡ length args.work.now = ap length loop.invariant.1 ∙ length_stored _ _ _ _ in
    let p = row_room w₀ pre a' c.loop-a-test.true in
    let q = row_entry w₀ pre a' c.loop-a-test.true in
    omega arith

-- the amount that is followed
amount_is : (layer : List ℕ) (stride w a : ℕ) {t : ℕ} → t ≡ get_or layer (w * stride + a) 0 → t ≡ cells layer 0 stride w a
amount_is layer stride w a e = e ∙ ap (λ (i : ℕ). get_or layer i 0) (sym (zero-add (w * stride + a)))

pub worth-requires : goal.worth-requires
worth-requires c =
    let args = c.args in
    let pre = c.requires in
    let loop = c.loop-a in
    let taken = c.loop-a-test.true in
    let amount = amount_is args.layer.now args.d.stride args.w loop.a c.from-t.ensures in (
      rw loop.invariant.1 (row_layers args.w pre _ loop.a loop.invariant.0),
      taken,
      le_trans (le_of_eq amount) (amount_within args.w pre loop.a taken),
    )

pub offset_bounds-work-i : goal.offset_bounds-work-i
offset_bounds-work-i c =
    let args = c.args in
    let w₀ = args.w in
    let pre = c.requires in
    let loop = c.loop-a in
    let a' = loop.a in
    let loop-test = c.loop-a-test in
    let lw : length loop.work ≡ length args.work.now = ap length loop.invariant.1 ∙ length_stored _ _ _ _ in
    let p = row_room w₀ pre a' loop-test.true in
    let q = row_entry w₀ pre a' loop-test.true in
    omega arith

pub bounds-work-i : goal.bounds-work-i
bounds-work-i c =
    let args = c.args in
    let w₀ = args.w in
    let pre = c.requires in
    let loop = c.loop-a in
    let a' = loop.a in
    let loop-test = c.loop-a-test in
    let lw : length loop.work ≡ length args.work.now = ap length loop.invariant.1 ∙ length_stored _ _ _ _ in
    let p = row_room w₀ pre a' loop-test.true in
    let q = row_entry w₀ pre a' loop-test.true in
    omega arith

pub loop-a-preserved : goal.loop-a-preserved
loop-a-preserved c =
    let args = c.args in
    let pre = c.requires in
    let loop = c.loop-a in
    let a' = loop.a in
    let kept = ap (λ (xs : List ℕ). sums xs args.d) loop.invariant.1 ∙ row_sums args.w pre _ a' loop.invariant.0 in
    let value =
    c.worth.ensures
    ∙ ap₂ (λ (e : ℕ → ℕ → ℕ) (t : ℕ). worth_over e args.d.rate (free_amount args.d.level a') args.w a' t) kept
    (amount_is args.layer.now args.d.stride args.w a' c.from-t.ensures) in
    (omega arith, (λ i. set (loop.invariant.1 i) (args.w * args.d.stride + a') (value i)) ∙ stored_next _ _ _ _)

pub shape_of-work : goal.shape_of-work
shape_of-work c = ap length c.loop-a.invariant.1 ∙ length_stored _ _ _ _

pub returns : goal.returns
returns c =
    let args = c.args in
    let e : c.loop-a.a ≡ args.d.stride = omega arith in
    c.loop-a.invariant.1
    ∙ ap (stored args.work.now (args.w * args.d.stride) (followed_on args.d args.work.now args.layer.now args.w)) e
