-- Layers of rows in a slice: the entry of (w, a) stands at base + (w × stride + a). Assumes nothing.
use Rattle.std.specs.Prelude.{List, ◌⊎◌, ◌≡◌, ℕ, zero, suc, ◌+◌, ◌-◌, ◌*◌, ◌/◌, ◌%◌, ◌≤◌, ◌<◌, length, get_or}
use Rattle.std.proofs.Common.{inl, inr, ap, ap₂, sym, ◌∙◌, zero-add, mul-le-mul_right, mod-lt, div-add-mod', div-lt_iff_lt-mul, arith}
use Rattle.std.proofs.Math.Path.{fun_ext}
use Rattle.decision.specs.Layers.{low_digit, high_digit, two_digits}
use Rattle.slices.specs.Stored.{stored, stored_in, stored_out, stored_join}

-- the layer at base holds f w a in the entry of (w, a), in the rows below n
pub record Layer (xs : List ℕ) (base stride n : ℕ) (f : ℕ → ℕ → ℕ) : Type 0 where
  pub cell : (w a : ℕ) → w < n → a < stride → get_or xs (base + (w * stride + a)) 0 ≡ f w a

-- f by the entry's number in its layer
unfoldable pub flat : ℕ → (ℕ → ℕ → ℕ) → ℕ → ℕ
flat stride f e = f (e / stride) (e % stride)

pub flat_at : (stride : ℕ) (f : ℕ → ℕ → ℕ) (w a : ℕ) → a < stride → flat stride f (w * stride + a) ≡ f w a
unfolding flat
flat_at stride f w a l = ap₂ f (high_digit w a stride l) (low_digit w a stride l)

-- the entry stands within the rows, and before the next row
pub within_rows : (stride n w a : ℕ) → w < n → a < stride → w * stride + a < n * stride
within_rows stride n w a h l = two_digits w a n stride h l

pub rows_step : (stride w : ℕ) → w * stride + stride ≡ (w + 1) * stride
rows_step stride w = omega arith

pub rows_le : (stride w n : ℕ) → w ≤ n → w * stride ≤ n * stride
rows_le stride w n h = mul-le-mul_right stride h

-- a layer stored whole
pub layer_stored : (xs : List ℕ) (base stride n : ℕ) (f : ℕ → ℕ → ℕ) → base + n * stride ≤ length xs
    → Layer (stored xs base (flat stride f) (n * stride)) base stride n f
layer_stored xs base stride n f h = record {
  cell = λ w a i l.
      stored_in xs base (flat stride f) (n * stride) (w * stride + a) h (within_rows stride n w a i l) ∙ flat_at stride f w a l;
}

-- a layer that a store elsewhere leaves as it was
pub layer_kept : (xs : List ℕ) (base stride n at m : ℕ) (f : ℕ → ℕ → ℕ) (g : ℕ → ℕ)
    → (base + n * stride ≤ at) ⊎ (at + m ≤ base) → Layer xs base stride n f → Layer (stored xs at g m) base stride n f
layer_kept xs base stride n at m f g o x = record {
  cell = λ w a i l. stored_out xs at g m (base + (w * stride + a))
      (apart w a (within_rows stride n w a i l) o) ∙ x.cell w a i l;
}
  where
    apart : (w a : ℕ) → w * stride + a < n * stride → (base + n * stride ≤ at) ⊎ (at + m ≤ base)
        → (base + (w * stride + a) < at) ⊎ (at + m ≤ base + (w * stride + a))
    apart w a l (inl h) = inl (omega arith)
    apart w a l (inr h) = inr (omega arith)

-- what stands in the entry of (w, a)
abbrev pub cells : List ℕ → ℕ → ℕ → ℕ → ℕ → ℕ
cells xs base stride w a = get_or xs (base + (w * stride + a)) 0

-- every entry of a layer, by its number
pub layer_flat : (xs : List ℕ) (stride n : ℕ) (f : ℕ → ℕ → ℕ) → 0 < stride → Layer xs 0 stride n f
    → (e : ℕ) → e < n * stride → get_or xs e 0 ≡ flat stride f e
unfolding flat
layer_flat xs stride n f pos x e h =
    let i : 0 + (e / stride * stride + e % stride) ≡ e = let d = div-add-mod' e stride in omega arith in
    ap (λ (j : ℕ). get_or xs j 0) (sym i) ∙ x.cell (e / stride) (e % stride) ((div-lt_iff_lt-mul pos).1 h) (mod-lt e pos)

-- a store before a layer leaves every entry of it
pub cells_kept : (xs : List ℕ) (at n base stride : ℕ) (f : ℕ → ℕ) → at + n ≤ base
    → cells (stored xs at f n) base stride ≡ cells xs base stride
cells_kept xs at n base stride f h = fun_ext (λ w. fun_ext (λ a. stored_out xs at f n (base + (w * stride + a)) (inr (omega arith))))

-- the row before
pub rows_before : (stride w : ℕ) → 1 ≤ w → w * stride ≡ (w - 1) * stride + stride
rows_before stride zero h = absurd (omega arith)
rows_before stride (suc w) h = let e : suc w - 1 ≡ w = omega arith in rw e (omega arith)

-- one more row of a layer at the start of a slice
pub row_next : (xs : List ℕ) (stride b : ℕ) (f : ℕ → ℕ → ℕ) (g : ℕ → ℕ) → ((a : ℕ) → a < stride → g a ≡ f b a)
    → stored (stored xs 0 (flat stride f) (b * stride)) (b * stride) g stride ≡ stored xs 0 (flat stride f) ((b + 1) * stride)
row_next xs stride b f g h =
    ap (λ (at : ℕ). stored (stored xs 0 (flat stride f) (b * stride)) at g stride) (sym (zero-add (b * stride)))
    ∙ stored_join xs 0 (flat stride f) g (b * stride) stride (λ a l. h a l ∙ sym (flat_at stride f b a l))
    ∙ ap (stored xs 0 (flat stride f)) (rows_step stride b)
