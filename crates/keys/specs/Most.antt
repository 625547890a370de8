-- The largest of f 0 to f (n - 1): what a search that takes one number after the other holds. Assumes nothing.
use Rattle.std.specs.Prelude.{◌≡◌, ℕ, zero, suc, ◌+◌, ◌<◌, ◌≤◌, max, refl}
use Rattle.std.proofs.Common.{ap₂, sym, ◌∙◌, add-zero, add-suc, le_refl, le_trans, add-one, arith}
use Rattle.std.proofs.Math.Nat.{le-max_left, le-max_right, max-eq_left}
use Rattle.std.proofs.Math.Decide.{dec_le}

-- 0 where there are none
unfoldable pub most : (ℕ → ℕ) → ℕ → ℕ
most f zero = 0
most f (suc n) = max (most f n) (f n)

pub most_next : (f : ℕ → ℕ) (n : ℕ) → max (most f n) (f n) ≡ most f (n + 1)
unfolding most
most_next f n = rw add-one

pub le_most : (f : ℕ → ℕ) (n t : ℕ) → t < n → f t ≤ most f n
unfolding most
le_most f zero t l = absurd (omega arith)
le_most f (suc n) t l = go (dec_le n t) (le_most f n t)
  where
    go : Dec (n ≤ t) → (t < n → f t ≤ most f n) → f t ≤ max (most f n) (f n)
    go (yes h) before = let e : t ≡ n = omega arith in rw e (le-max_right _ _)
    go (no h) before = le_trans (before (omega arith)) (le-max_left _ _)

-- one of them
pub most_has : (f : ℕ → ℕ) (n : ℕ) → 0 < n → (t : ℕ) × (t < n) × (most f n ≡ f t)
unfolding most
most_has f zero h = absurd (omega arith)
most_has f (suc zero) h = (0, omega arith, omega arith)
most_has f (suc (suc n)) h = go (most_has f (suc n) (omega arith)) (dec_le (most f (suc n)) (f (suc n)))
  where
    go : {k : ℕ} → (t : ℕ) × (t < suc n) × (k ≡ f t) → Dec (k ≤ f (suc n)) → (t : ℕ) × (t < suc (suc n)) × (max k (f (suc n)) ≡ f t)
    go (t, l, e) (yes p) = (suc n, omega arith, omega arith)
    go (t, l, e) (no p) = (t, omega arith, omega arith)

pub most_small : (f : ℕ → ℕ) (n v : ℕ) → ((t : ℕ) → t < n → f t ≤ v) → most f n ≤ v
unfolding most
most_small f zero v h = omega arith
most_small f (suc n) v h =
    let a = most_small f n v (λ t l. h t (omega arith)) in
    let b = h n (le_refl (suc n)) in
    omega arith

pub most_le : (f : ℕ → ℕ) (m n : ℕ) → m ≤ n → most f m ≤ most f n
most_le f m n h = most_small f m (most f n) (λ t l. le_most f n t (omega arith))

-- one more that is not above what is held
pub most_same : (f : ℕ → ℕ) (n : ℕ) → f n ≤ most f n → most f n ≡ most f (n + 1)
most_same f n h = sym (max-eq_left h) ∙ most_next f n

pub most_eq : (f g : ℕ → ℕ) (n : ℕ) → ((t : ℕ) → t < n → f t ≡ g t) → most f n ≡ most g n
unfolding most
most_eq f g zero h = refl
most_eq f g (suc n) h = ap₂ max (most_eq f g n (λ t l. h t (omega arith))) (h n (le_refl (suc n)))

-- two ranges that meet
pub most_join : (f : ℕ → ℕ) (m n : ℕ) → most f (m + n) ≡ max (most f m) (most (λ t. f (m + t)) n)
unfolding most
most_join f m zero = rw (add-zero m) (omega arith)
most_join f m (suc n) = let e = most_join f m n in rw (add-suc m n) (omega arith)

-- each larger by the same
pub most_shift : (f g : ℕ → ℕ) (c n : ℕ) → ((t : ℕ) → t < n → f t ≡ g t + c) → 0 < n → most f n ≡ most g n + c
unfolding most
most_shift f g c zero h l = absurd (omega arith)
most_shift f g c (suc zero) h l = let e = h 0 (omega arith) in omega arith
most_shift f g c (suc (suc n)) h l =
    let before = most_shift f g c (suc n) (λ t m. h t (omega arith)) (omega arith) in
    let last = h (suc n) (omega arith) in
    omega arith
