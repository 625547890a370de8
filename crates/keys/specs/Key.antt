-- A value and an amount as one number: the larger key is the larger value and, at a tie, the smaller amount. Assumes nothing.
use Rattle.std.specs.Prelude.{◌≡◌, ℕ, ◌+◌, ◌-◌, ◌*◌, ◌/◌, ◌%◌, ◌<◌, ◌≤◌, Bool, T, ◌⊎◌}
use Rattle.std.proofs.Common.{inl, inr, ap, sym, le_trans, le_of_eq, le_antisymm, arith}
use Rattle.std.proofs.Math.Decide.{dec_le}
use Rattle.decision.specs.Choice.{largest, smallest_best, Best}
use Rattle.decision.proofs.Choice.{best_is}

-- no amount is above it
abbrev pub amount_most : ℕ
amount_most = 8191

unfoldable pub key : ℕ → ℕ → ℕ
key v t = v * 8192 + (8191 - t)

-- ---- taken apart
pub key_value : (v t : ℕ) → key v t / 8192 ≡ v
unfolding key
key_value v t = omega arith

pub key_amount : (v t : ℕ) → t ≤ amount_most → 8191 - key v t % 8192 ≡ t
unfolding key
key_amount v t h = omega arith

-- ---- a value more, the amount as it is
pub key_add : (c v t : ℕ) → key (c + v) t ≡ 8192 * v + key c t
unfolding key
key_add c v t = omega arith

-- what is left of a larger amount, for an amount
pub key_left : (v t w : ℕ) → t ≤ w → w ≤ amount_most → key v t ≡ (w - t) + key v w
unfolding key
key_left v t w h l = omega arith

pub key_small : (v t most : ℕ) → v ≤ most → key v t ≤ 8192 * most + 8191
unfolding key
key_small v t most h = omega arith

-- ---- which key is larger
pub key_le : (v u t s : ℕ) → (v < u) ⊎ ((v ≤ u) × (s ≤ t)) → key v t ≤ key u s
unfolding key
key_le v u t s (inl h) = omega arith
key_le v u t s (inr (h, l)) = omega arith

-- k is the largest key of the amounts up to the limit that pass
pub record Top (ok : ℕ → Bool) (f : ℕ → ℕ) (limit k : ℕ) : Type 0 where
  pub has : (t : ℕ) × (t ≤ limit) × T (ok t) × (k ≡ key (f t) t)
  pub above : (t : ℕ) → t ≤ limit → T (ok t) → key (f t) t ≤ k

-- "the recorded amount is the smallest among the best ones", and its worth: both from the largest key
pub top_is_best : {ok : ℕ → Bool} {f : ℕ → ℕ} {limit k : ℕ} → Top ok f limit k → k ≡ key (largest ok f limit) (smallest_best ok f limit)
top_is_best {ok} {f} {limit} {k} x = go x.has
  where
    go : (t : ℕ) × (t ≤ limit) × T (ok t) × (k ≡ key (f t) t) → k ≡ key (largest ok f limit) (smallest_best ok f limit)
    go (t, l, p, e) = le_antisymm (le_trans (le_of_eq e) low)
        (le_trans (le_of_eq (ap (λ (v : ℕ). key v c) (sym b.worth))) (x.above c b.within b.passes))
      where
        c : ℕ
        c = smallest_best ok f limit

        b : Best ok f limit c (largest ok f limit)
        b = best_is ok f limit t l p

        low : key (f t) t ≤ key (largest ok f limit) c
        low = elim (dec_le c t) [
          | yes h ↦ key_le _ _ _ _ (inr (b.most t l p, h))
          | no h ↦ key_le _ _ _ _
              (inl (b.smallest t (omega arith) p))
        ]
