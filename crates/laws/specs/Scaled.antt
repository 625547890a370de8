-- One date with every amount of money k times as many units: what is rounded down loses no more than it did. On plain numbers.
-- Assumes nothing.
use Rattle.std.specs.Prelude.{◌⊎◌, ◌≡◌, ℕ, zero, suc, ◌+◌, ◌-◌, ◌*◌, ◌/◌, ◌≤◌, ◌<◌, min, max}
use Rattle.std.proofs.Common.{inl, inr, ap, sym, ◌∙◌, zero-le, le_trans, le_of_eq, mul-le-mul_left, mul-add, mul_assoc, mul_left_comm}
use Rattle.std.proofs.Common.{mul-zero, div-mul-le_self, le-div_iff_mul-le, eq-zero-or-pos, arith, lit<, eqb→eq}
use Rattle.std.proofs.Math.Decide.{dec_le}
use Rattle.std.proofs.Math.Nat.{mul-sub, zero-div, mul-lt-mul_of_pos_left, mul-div-mul_left}
use Rattle.std.proofs.Math.Dec.{T, eqb_refl}
use Rattle.decision.specs.Index.{sum}
use Rattle.rules.specs.Contract.{Terms, Returns}
use Rattle.rules.specs.Date.{Behaviour, static, mixed, dynamic, free_amount, admits, penalty, cash, guarantee_after, balance_after}
use Rattle.rules.specs.Date.{lifted_account, next_account, excess, excess_paid, maturity_value, death_payment, death_share, discounted}
use Rattle.rules.specs.FixedTerm.{mean_by_list}
use Rattle.laws.specs.Date.{mixed_is, dynamic_is, is_dynamic, admits_free, admits_surrender, guarantee_free, guarantee_above}
use Rattle.laws.specs.Rising.{surrender_ends}

-- ---- sizes
pub min_scales : (k a b : ℕ) → k * min a b ≡ min (k * a) (k * b)
min_scales k a b = go (dec_le a b)
  where
    go : Dec (a ≤ b) → k * min a b ≡ min (k * a) (k * b)
    go (yes l) = let m = mul-le-mul_left k l in let e : min a b ≡ a = omega arith in rw e (omega arith)
    go (no l) =
        let h : b ≤ a = omega arith in
        let m = mul-le-mul_left k h in
        let e : min a b ≡ b = omega arith in
        rw e (omega arith)

pub max_scales : (k a b : ℕ) → k * max a b ≡ max (k * a) (k * b)
max_scales k a b = go (dec_le a b)
  where
    go : Dec (a ≤ b) → k * max a b ≡ max (k * a) (k * b)
    go (yes l) = let m = mul-le-mul_left k l in let e : max a b ≡ b = omega arith in rw e (omega arith)
    go (no l) =
        let h : b ≤ a = omega arith in
        let m = mul-le-mul_left k h in
        let e : max a b ≡ a = omega arith in
        rw e (omega arith)

-- k × what is rounded down is at most k times as much, rounded down
pub floor_scales : (k n : ℕ) {d : ℕ} → 0 < d → k * (n / d) ≤ k * n / d
floor_scales k n {d} some =
    (le-div_iff_mul-le some).1 (le_trans (le_of_eq (mul_assoc k (n / d) d)) (mul-le-mul_left k (div-mul-le_self n d)))

-- ---- returns
pub lifted_scales : (k fee balance factor : ℕ) → k * lifted_account fee balance factor ≤ lifted_account fee (k * balance) factor
unfolding lifted_account
lifted_scales k fee balance factor =
    le_trans (floor_scales k (balance * factor * (10000 - fee)) {d = 100000000} (lit< tt))
    (le_of_eq (ap (λ (n : ℕ). n / 100000000)
    (sym (mul_assoc k (balance * factor) (10000 - fee)) ∙ ap (λ (n : ℕ). n * (10000 - fee)) (sym (mul_assoc k balance factor)))))

pub account_scales : (k fee top balance factor : ℕ)
    → k * next_account fee top balance factor ≤ next_account fee (k * top) (k * balance) factor
unfolding next_account
account_scales k fee top balance factor =
    rw (min_scales k top (lifted_account fee balance factor)) (let l = lifted_scales k fee balance factor in omega arith)

pub excess_scales : (k fee top balance factor : ℕ) → k * excess fee top balance factor ≤ excess fee (k * top) (k * balance) factor
unfolding excess
excess_scales k fee top balance factor =
    rw (mul-sub k (lifted_account fee balance factor) top) (let l = lifted_scales k fee balance factor in omega arith)

pub excess_paid_scales : (k fee top balance factor : ℕ)
    → k * excess_paid fee top balance factor ≤ excess_paid fee (k * top) (k * balance) factor
unfolding excess_paid
excess_paid_scales k fee top balance factor =
    le_trans (le_of_eq (mul_left_comm k 10000 _)) (mul-le-mul_left 10000 (excess_scales k fee top balance factor))

-- ---- payments
pub maturity_scales : (k w a : ℕ) → k * maturity_value w a ≡ maturity_value (k * w) (k * a)
unfolding maturity_value
maturity_scales k w a = mul_left_comm k 10000 (max w a) ∙ ap (λ (n : ℕ). 10000 * n) (max_scales k w a)

pub death_scales : (k w a over : ℕ) → k * death_payment w a over ≡ death_payment (k * w) (k * a) (k * over)
unfolding death_payment
death_scales k w a over =
    mul-add k (10000 * max w a) (10000 * over)
    ∙ (λ i. (mul_left_comm k 10000 (max w a) ∙ ap (λ (n : ℕ). 10000 * n) (max_scales k w a)) i + mul_left_comm k 10000 over i)

pub share_scales : (k rate value payment : ℕ) → k * death_share rate value payment ≤ death_share rate (k * value) (k * payment)
unfolding death_share
share_scales k rate value payment =
    le_trans (floor_scales k ((10000 - rate) * value + rate * payment) {d = 10000} (lit< tt))
    (le_of_eq (ap (λ (n : ℕ). n / 10000)
    (mul-add k ((10000 - rate) * value) (rate * payment)
    ∙ (λ i. mul_left_comm k (10000 - rate) value i + mul_left_comm k rate payment i))))

-- ---- means
sum_scales : (k : ℕ) (weight f : ℕ → ℕ) (n : ℕ) → k * sum (λ j. weight j * f j) n ≡ sum (λ j. weight j * (k * f j)) n
unfolding sum
sum_scales k weight f zero = omega arith
sum_scales k weight f (suc n) =
    mul-add k (sum (λ j. weight j * f j) n) (weight n * f n)
    ∙ (λ i. sum_scales k weight f n i + mul_left_comm k (weight n) (f n) i)

pub mean_scales : (k : ℕ) (c : Terms) (rs : Returns) (f : ℕ → ℕ) → k * mean_by_list c rs f ≤ mean_by_list c rs (λ j. k * f j)
unfolding mean_by_list discounted
mean_scales k c rs f =
    le_trans (floor_scales k (c.discount * sum (λ j. rs.weight j * f j) rs.count) {d = 10000000000} (lit< tt))
    (le_of_eq (ap (λ (n : ℕ). n / 10000000000)
    (mul_left_comm k c.discount _ ∙ ap (λ (n : ℕ). c.discount * n) (sum_scales k rs.weight f rs.count))))

-- ---- withdrawals
pub free_scales : (k level a : ℕ) → k * free_amount level a ≡ free_amount (k * level) (k * a)
unfolding free_amount
free_scales k level a = min_scales k level a

pub cash_scales : (k rate m t : ℕ) → k * cash rate m t ≡ cash rate (k * m) (k * t)
unfolding cash penalty
cash_scales k rate m t =
    mul-sub k (10000 * t) (rate * (t - m))
    ∙ (λ i. mul_left_comm k 10000 t i - (mul_left_comm k rate (t - m) ∙ ap (λ (n : ℕ). rate * n) (mul-sub k t m)) i)

pub balance_scales : (k w t : ℕ) → k * balance_after w t ≡ balance_after (k * w) (k * t)
unfolding balance_after
balance_scales k w t = mul-sub k w t

module _ {k : ℕ} (some : 0 < k) where
  -- the amount, k times, is open too
  pub admits_scales : (b : Behaviour) (m w t : ℕ) → T (admits b m w t) → T (admits b (k * m) (k * w) (k * t))
  unfolding admits
  admits_scales static m w t p = rw (eqb→eq t m p) (eqb_refl (k * m))
  admits_scales mixed m w t p = go (mixed_is m w t p)
    where
      go : (t ≡ m) ⊎ ((m < w) × (t ≡ w)) → T (admits mixed (k * m) (k * w) (k * t))
      go (inl e) = rw e (admits_free mixed (k * m) (k * w))
      go (inr (l, e)) = rw e (admits_surrender (k * m) (k * w) (mul-lt-mul_of_pos_left l some))
  admits_scales dynamic m w t p =
      is_dynamic (k * m) (k * w) (k * t) (rw (sym (max_scales k w m)) (mul-le-mul_left k (dynamic_is m w t p)))

  -- up to m the guarantee falls by whole money ..
  free_guarantee_scales : (m w a t : ℕ) → t ≤ m → k * guarantee_after m w a t ≡ guarantee_after (k * m) (k * w) (k * a) (k * t)
  free_guarantee_scales m w a t l =
      ap (λ (n : ℕ). k * n) (guarantee_free m w a t l) ∙ mul-sub k a t
      ∙ sym (guarantee_free (k * m) (k * w) (k * a) (k * t) (mul-le-mul_left k l))

  -- .. and above it the share that is left loses no more than it did
  share_left_scales : (w a t : ℕ) → k * (a * (w - t) / w) ≤ k * a * (k * w - k * t) / (k * w)
  share_left_scales w a t = go (eq-zero-or-pos w)
    where
      go : (w ≡ 0) ⊎ (0 < w) → k * (a * (w - t) / w) ≤ k * a * (k * w - k * t) / (k * w)
      go (inl e) = let z : w - t ≡ 0 = omega arith in rw z (rw (mul-zero, zero-div, mul-zero) zero-le)
      go (inr p) =
          let whole =
          ap (λ (n : ℕ). k * a * n / (k * w)) (sym (mul-sub k w t))
          ∙ ap (λ (n : ℕ). n / (k * w)) (mul_assoc k a (k * (w - t)) ∙ ap (λ (n : ℕ). k * n) (mul_left_comm a k (w - t)))
          ∙ mul-div-mul_left (k * (a * (w - t))) w some in
          le_trans (floor_scales k (a * (w - t)) p) (le_of_eq (sym whole))

  pub guarantee_scales : (m w a t : ℕ) → k * guarantee_after m w a t ≤ guarantee_after (k * m) (k * w) (k * a) (k * t)
  guarantee_scales m w a t = go (dec_le t m)
    where
      go : Dec (t ≤ m) → k * guarantee_after m w a t ≤ guarantee_after (k * m) (k * w) (k * a) (k * t)
      go (yes l) = le_of_eq (free_guarantee_scales m w a t l)
      go (no l) =
          let h : m < t = omega arith in
          let coarse = ap (λ (n : ℕ). k * n) (guarantee_above m w a t h) ∙ min_scales k (a - t) (a * (w - t) / w) in
          let fine = guarantee_above (k * m) (k * w) (k * a) (k * t) (mul-lt-mul_of_pos_left h some) in
          let e = mul-sub k a t in
          let share = share_left_scales w a t in
          rw (coarse, fine) (omega arith)

  -- under mixed choices it loses nothing: surrender leaves none
  pub mixed_guarantee_scales : (m w a t : ℕ) → T (admits mixed m w t)
      → k * guarantee_after m w a t ≡ guarantee_after (k * m) (k * w) (k * a) (k * t)
  mixed_guarantee_scales m w a t p = go (mixed_is m w t p)
    where
      go : (t ≡ m) ⊎ ((m < w) × (t ≡ w)) → k * guarantee_after m w a t ≡ guarantee_after (k * m) (k * w) (k * a) (k * t)
      go (inl e) = free_guarantee_scales m w a t (le_of_eq e)
      go (inr (l, e)) =
          rw (e, surrender_ends m w a l, surrender_ends (k * m) (k * w) (k * a) (mul-lt-mul_of_pos_left l some)) (mul-zero k)
