-- A sum whose terms are put together by a key. Assumes nothing.
use Rattle.std.specs.Prelude.{Bool, true, false, cond, ◌&&◌, ◌≡◌, refl, ℕ, zero, suc, ◌+◌, ◌*◌, ◌≤◌, ◌<◌, max, eqb}
use Rattle.std.proofs.Common.{ap, sym, ◌∙◌, le_trans, zero-mul, arith, eqb→eq}
use Rattle.std.proofs.Math.Nat.{le-max_left, le-max_right}
use Rattle.std.proofs.Math.Decide.{dec_le}
use Rattle.std.proofs.Math.Dec.{eqb_refl}
use Rattle.decision.specs.Index.{sum, sum_eq, sum_add, sum_times, sum_zeros, true_is, false_is}

-- the largest of f 0, f 1, .. f (n - 1); 0 where there is none
unfoldable pub most : (ℕ → ℕ) → ℕ → ℕ
most f zero = 0
most f (suc n) = max (most f n) (f n)

pub le_most : (f : ℕ → ℕ) (n k : ℕ) → k < n → f k ≤ most f n
unfolding most
le_most f zero k l = absurd (omega arith)
le_most f (suc n) k l = go (dec_le (suc k) n) (le_most f n k)
  where
    go : Dec (suc k ≤ n) → (k < n → f k ≤ most f n) → f k ≤ max (most f n) (f n)
    go (yes h) before = le_trans (before h) (le-max_left _ _)
    go (no h) before = let e : k ≡ n = omega arith in rw e (le-max_right _ _)

-- ---- the terms of one key
cond_times : (b : Bool) (x y : ℕ) → cond b x 0 * y ≡ cond b (x * y) 0
cond_times true x y = refl
cond_times false x y = zero-mul y

cond_and : (a b : Bool) (x : ℕ) → cond (a && b) x 0 ≡ cond b (cond a x 0) 0
cond_and true true x = refl
cond_and true false x = refl
cond_and false true x = refl
cond_and false false x = refl

-- of all indexes below n only j counts
sum_pick : (h : ℕ → ℕ) (j n : ℕ) → j < n → sum (λ y. cond (eqb j y) (h y) 0) n ≡ h j
unfolding sum
sum_pick h j zero l = absurd (omega arith)
sum_pick h j (suc n) l = go (dec_le (suc j) n) (sum_pick h j n)
  where
    other : (y : ℕ) → (j ≡ y → ⊥) → cond (eqb j y) (h y) 0 ≡ 0
    other y differ = ap (λ (b : Bool). cond b (h y) 0) (false_is (eqb j y) (λ t. differ (eqb→eq j y t)))

    here : (y : ℕ) → j ≡ y → cond (eqb j y) (h y) 0 ≡ h j
    here y e = rw (sym e) (ap (λ (b : Bool). cond b (h j) 0) (true_is (eqb j j) (eqb_refl j)))

    go : Dec (suc j ≤ n) → (j < n → sum (λ y. cond (eqb j y) (h y) 0) n ≡ h j)
        → sum (λ y. cond (eqb j y) (h y) 0) n + cond (eqb j n) (h n) 0 ≡ h j
    go (yes m) picked = let before = picked m in let last = other n (λ e. omega arith) in omega arith
    go (no m) picked =
        let before = sum_zeros (λ y. cond (eqb j y) (h y) 0) n (λ y i. other y (λ x. omega arith)) in
        let last = here n (omega arith) in
        omega arith

-- two sums in the other order
pub sum_swap : (f : ℕ → ℕ → ℕ) (m n : ℕ) → sum (λ y. sum (λ k. f k y) n) m ≡ sum (λ k. sum (λ y. f k y) m) n
unfolding sum
sum_swap f zero n = sym (sum_zeros (λ k. 0) n (λ k l. refl))
sum_swap f (suc m) n =
    ap (λ (x : ℕ). x + sum (λ k. f k m) n) (sum_swap f m n) ∙ sym (sum_add (λ k. sum (λ y. f k y) m) (λ k. f k m) n)

-- key by key
pub sum_grouped : (key : ℕ → ℕ) (h : ℕ → ℕ → ℕ) (n m : ℕ) → ((k : ℕ) → k < n → key k < m)
    → sum (λ y. sum (λ k. cond (eqb (key k) y) (h k y) 0) n) m ≡ sum (λ k. h k (key k)) n
sum_grouped key h n m l =
    sum_swap (λ k y. cond (eqb (key k) y) (h k y) 0) m n ∙ sum_eq _ _ n (λ k i. sum_pick (h k) (key k) m (l k i))

-- BY TWO KEYS: the weights of the indexes that have both are added first, and their sum meets the value once
pub sum_by_keys : (first second weight : ℕ → ℕ) (f : ℕ → ℕ → ℕ) (n m l : ℕ) → ((k : ℕ) → k < n → first k < m)
    → ((k : ℕ) → k < n → second k < l)
    → sum (λ w. sum (λ x. sum (λ k. cond (eqb (first k) w && eqb (second k) x) (weight k) 0) n * f w x) l) m
    ≡ sum (λ k. weight k * f (first k) (second k)) n
sum_by_keys first second weight f n m l below small =
    sum_eq _ _ m (λ w i. sum_eq _ _ l (λ x j. each w x) ∙ sum_grouped second (λ k x. cond (eqb (first k) w) (weight k * f w x) 0) n l small)
    ∙ sum_grouped first (λ k w. weight k * f w (second k)) n m below
  where
    each : (w x : ℕ)
        → sum (λ k. cond (eqb (first k) w && eqb (second k) x) (weight k) 0) n * f w x
        ≡ sum (λ k. cond (eqb (second k) x) (cond (eqb (first k) w) (weight k * f w x) 0) 0) n
    each w x =
        sym (sum_times _ (f w x) n)
        ∙ sum_eq _ _ n (λ k i.
        cond_times (eqb (first k) w && eqb (second k) x) (weight k) (f w x)
        ∙ cond_and (eqb (first k) w) (eqb (second k) x) (weight k * f w x))
