-- What the states of a block hold while numbers are offered to them. Assumes nothing.
use Rattle.std.specs.Prelude.{◌≡◌, ℕ, ◌+◌, ◌-◌, ◌<◌, ◌≤◌, max, ◌⊎◌, List, length, set, slice_index, slice_index_or, slice_set}
use Rattle.std.proofs.Common.{inl, inr, ap, ◌∙◌, le_refl, le_of_eq, le_trans, arith}
use Rattle.std.proofs.Math.Decide.{dec_le}
use Rattle.slices.specs.Stored.{stored, length_stored, stored_in, stored_out, stored_next}
use Rattle.keys.specs.Most.{most}
use Rattle.proportion.specs.Held.{Held, key_most}

-- ---- one number after the other
module _ (best₀ : List ℕ) (low i : ℕ) (f : ℕ → ℕ) {best : List ℕ} (e : best ≡ stored best₀ low f i) where
  -- a state that nothing was offered to yet
  pub held_yet : slice_index_or best (low + i) 0 ≡ slice_index best₀ (low + i)
  held_yet = ap (λ (xs : List ℕ). slice_index xs (low + i)) e ∙ stored_out best₀ low f i (low + i) (inr (le_refl (low + i)))

  pub raised : (c : ℕ) → max (slice_index best₀ (low + i)) c ≡ f i → slice_set best (low + i) (max (slice_index best (low + i)) c)
      ≡ stored best₀ low f (i + 1)
  raised c p = (λ j. set (e j) (low + i) ((ap (λ (x : ℕ). max x c) held_yet ∙ p) j)) ∙ stored_next best₀ low f i

-- ---- what is held
module _ {g : ℕ → ℕ → ℕ} {best : List ℕ} {n : ℕ} {count : ℕ → ℕ} (count' : ℕ → ℕ) (h : Held g best n count) where
  -- more amounts, none of which gains
  pub held_same : ((j : ℕ) → j < n → most (g j) (count j) ≡ most (g j) (count' j)) → Held g best n count'
  held_same same = record { long = h.long; small = h.small; each = λ j l. h.each j l ∙ same j l }

  pub held_as : ((j : ℕ) → j < n → count j ≡ count' j) → Held g best n count'
  held_as same = held_same (λ j l. ap (most (g j)) (same j l))

-- k numbers offered, each of which is the largest of the amounts tried next, and small
module _ {g : ℕ → ℕ → ℕ} {best best' : List ℕ} {n low k : ℕ} {count : ℕ → ℕ} (count' c : ℕ → ℕ) (h : Held g best n count)
    (e : best' ≡ stored best low (λ i. max (slice_index best (low + i)) (c i)) k) (short : n ≤ 512) (fits : low + k ≤ n)
    (few : (i : ℕ) → i < k → c i ≤ key_most)
    (joins : (i : ℕ) → i < k → max (most (g (low + i)) (count (low + i))) (c i) ≡ most (g (low + i)) (count' (low + i)))
    (else : (j : ℕ) → (j < low) ⊎ (low + k ≤ j) → j < n → count j ≡ count' j)
  where
    abbrev f : ℕ → ℕ
    f i = max (slice_index best (low + i)) (c i)

    entry : (j : ℕ) → slice_index best' j ≡ slice_index (stored best low f k) j
    entry j = ap (λ (xs : List ℕ). slice_index xs j) e

    inside : (j : ℕ) → low ≤ j → j < low + k → slice_index best' j ≡ f (j - low)
    inside j p l =
        let z : j ≡ low + (j - low) = omega arith in
        entry j ∙ ap (λ (x : ℕ). slice_index (stored best low f k) x) z
        ∙ stored_in best low f k (j - low) (omega (arith, h.long)) (omega arith)

    pub offered : Held g best' n count'
    offered = record {
      long = omega (arith, ap length e ∙ length_stored best low f k, h.long);
      small = λ j l. small j l (dec_le low j) (dec_le (low + k) j);
      each = λ j l. each j l (dec_le low j) (dec_le (low + k) j);
    }
      where
        out : (j : ℕ) → (j < low) ⊎ (low + k ≤ j) → slice_index best' j ≡ slice_index best j
        out j o = entry j ∙ stored_out best low f k j o

        small : (j : ℕ) → j < n → Dec (low ≤ j) → Dec (low + k ≤ j) → slice_index best' j ≤ key_most
        small j l (no p) d = le_trans (le_of_eq (out j (inl (omega arith)))) (h.small j l)
        small j l (yes p) (yes d) = le_trans (le_of_eq (out j (inr d))) (h.small j l)
        small j l (yes p) (no d) =
            let z : low + (j - low) ≡ j = omega arith in
            let a = h.small (low + (j - low)) (omega arith) in
            let b = few (j - low) (omega arith) in
            omega (arith, inside j p (omega arith))

        each : (j : ℕ) → j < n → Dec (low ≤ j) → Dec (low + k ≤ j) → slice_index best' j ≡ most (g j) (count' j)
        each j l (no p) d = out j (inl (omega arith)) ∙ h.each j l ∙ ap (most (g j)) (else j (inl (omega arith)) l)
        each j l (yes p) (yes d) = out j (inr d) ∙ h.each j l ∙ ap (most (g j)) (else j (inr d) l)
        each j l (yes p) (no d) =
            let z : low + (j - low) ≡ j = omega arith in
            inside j p (omega arith)
            ∙ ap (λ (x : ℕ). max x (c (j - low))) (h.each (low + (j - low)) (omega arith))
            ∙ joins (j - low) (omega arith)
            ∙ ap (λ (x : ℕ). most (g x) (count' x)) z
