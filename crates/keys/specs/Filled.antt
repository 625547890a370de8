-- A part of a slice filled with one number. Assumes nothing.
use Rattle.std.specs.Prelude.{List, ◌⊎◌, ◌≡◌, ℕ, ◌+◌, ◌-◌, ◌≤◌, ◌<◌, length, get_or, replicate}
use Rattle.std.proofs.Common.{inl, inr, ap, ◌∙◌, arith}
use Rattle.std.proofs.lemmas.List.{length-replicate, get_or-replicate}
use borrow.Rule.Slice.PartMut.{mid_of, put_mid, mid_len}
use Rattle.slices.specs.Parts.{put_long, put_in, put_below, put_above}
use Rattle.slices.specs.Stored.{stored, is_stored}

pub filled : (l ys : List ℕ) (at n v : ℕ) → at + n ≤ length l → ys ≡ replicate (length (mid_of at (at + n - at) l)) v
    → put_mid at (at + n - at) l ys ≡ stored l at (λ (i : ℕ). v) n
filled l ys at n v fits e =
    is_stored l (put_mid at (at + n - at) l ys) at (λ (i : ℕ). v) n
    (put_long at (at + n) l ys (omega arith) fits long)
    fits
    (λ k h. put_in at (at + n) l ys (omega arith) fits long k (omega arith)
    ∙ ap (λ (xs : List ℕ). get_or xs k 0) e
    ∙ get_or-replicate _ k v 0 (let m = part in omega arith))
    outside
  where
    part : length (mid_of at (at + n - at) l) ≡ at + n - at
    part = mid_len at (at + n) l fits

    long : length ys ≡ at + n - at
    long = ap length e ∙ length-replicate {A = ℕ} _ v ∙ part

    outside : (j : ℕ) → (j < at) ⊎ (at + n ≤ j) → get_or (put_mid at (at + n - at) l ys) j 0 ≡ get_or l j 0
    outside j (inl h) = put_below at (at + n) l ys (omega arith) fits long j h
    outside j (inr h) = put_above at (at + n) l ys (omega arith) fits long j h
