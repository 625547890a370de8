-- What an amount is worth, case by case, and the best amount of each behaviour. Assumes nothing.
use Rattle.std.specs.Prelude.{◌⊎◌, ◌≡◌, refl}
use Rattle.std.proofs.Common.{inl, inr, ap, ap₂, sym, ◌∙◌, le_trans, mul-le-mul_left, le-div_iff_mul-le, mul-zero, eqb→eq}
use Prim.Native.Nat.{ℕ, ◌+◌, ◌-◌, ◌*◌, ◌/◌, ◌≤◌, ◌<◌, min, max}
use Rattle.std.proofs.Math.Nat.{le_of_eq, min-eq_left, min-eq_right, max-eq_left, max-eq_right, le-max_left, le-max_right}
use Rattle.std.proofs.Math.Nat.{div-le_of_le-mul, sub-add-eq, zero-div, min-zero}
use Rattle.std.proofs.Math.Decide.{dec_le}
use native.Mathlib.Omega.{arith}
use Rattle.std.proofs.Math.Dec.{T}
use Rattle.rules.specs.Date.{Behaviour, static, mixed, dynamic, free_amount}
use Rattle.rules.specs.Date.{largest_amount, admits, penalty, cash, balance_after, guarantee_after}
use Rattle.laws.specs.Date.{guarantee_free, guarantee_above, admits_free, mixed_is, is_dynamic, admits_surrender}
use Rattle.keys.specs.Key.{amount_most, key, key_add, key_left, Top, top_is_best}
use Rattle.keys.specs.Most.{most, le_most, most_has, most_join, most_shift}
use Rattle.worth.specs.Further.{further, further_key, further_most}
use Rattle.worth.specs.Worth.{worth_over, best_value, best_amount, best_key, key_over}

-- ---- up to m
pub cash_free : (rate m t : ℕ) → t ≤ m → cash rate m t ≡ 10000 * t
unfolding cash penalty
cash_free rate m t h = let z : t - m ≡ 0 = omega arith in rw z (omega arith)

pub free_is : (e : ℕ → ℕ → ℕ) (rate m w a t : ℕ) → t ≤ m → worth_over e rate m w a t ≡ 10000 * t + e (w - t) (a - t)
unfolding worth_over balance_after
free_is e rate m w a t h = ap₂ (λ (x g : ℕ). x + e (w - t) g) (cash_free rate m t h) (guarantee_free m w a t h)

-- ---- above m
-- where the account is no more than the guarantee, the share in proportion is the smaller
share_smaller : (w a t : ℕ) → 0 < w → t ≤ w → w ≤ a → a * (w - t) / w ≤ a - t
share_smaller w a t pos h l =
    let d : w ≡ t + (w - t) = omega arith in
    let g : a ≡ t + (a - t) = omega arith in
    div-le_of_le-mul w (scaled t (w - t) (a - t) w a d g (omega arith))
  where
    -- (t + x) × (t + y) with x ≤ y, in the sides that are compared
    scaled : (t x y w a : ℕ) → w ≡ t + x → a ≡ t + y → x ≤ y → a * x ≤ w * y
    scaled t x y w a p q k = let m = mul-le-mul_left t k in rw (p, q) (omega arith)

pub above_is : (e : ℕ → ℕ → ℕ) (rate m w a t : ℕ) → m < t → t ≤ w → w ≤ a → worth_over e rate m w a t
    ≡ cash rate m t + e (w - t) (a * (w - t) / w)
unfolding worth_over balance_after
above_is e rate m w a t h l k =
    ap (λ (g : ℕ). cash rate m t + e (w - t) g)
    (guarantee_above m w a t h ∙ min-eq_right (share_smaller w a t (omega arith) l k))

-- where it is no less, the difference is
difference_smaller : (w a t : ℕ) → 0 < w → t ≤ w → a ≤ w → a - t ≤ a * (w - t) / w
difference_smaller w a t pos h l = (le-div_iff_mul-le pos).1 (go (dec_le t a))
  where
    scaled : (t x y w a : ℕ) → w ≡ t + x → a ≡ t + y → y ≤ x → y * w ≤ a * x
    scaled t x y w a p q k = let m = mul-le-mul_left t k in rw (p, q) (omega arith)

    go : Dec (t ≤ a) → (a - t) * w ≤ a * (w - t)
    go (yes k) =
        let d : w ≡ t + (w - t) = omega arith in
        let g : a ≡ t + (a - t) = omega arith in
        scaled t (w - t) (a - t) w a d g (omega arith)
    go (no k) = let z : a - t ≡ 0 = omega arith in rw z (omega arith)

-- s further than m + 1: the cash of m + 1, and what s further is worth from there
further_is : (e : ℕ → ℕ → ℕ) (rate m w a s : ℕ) → rate ≤ 10000 → m + 1 + s ≤ w → a ≤ w
    → worth_over e rate m w a (m + 1 + s) ≡ 10000 * m + (10000 - rate) + ((10000 - rate) * s + e (w - m - 1 - s) (a - (m + 1) - s))
unfolding worth_over balance_after cash penalty
further_is e rate m w a s h l k =
    let t = m + 1 + s in
    let b : w - t ≡ w - m - 1 - s = omega arith in
    let g : guarantee_after m w a t ≡ a - (m + 1) - s =
    guarantee_above m w a t (omega arith) ∙ min-eq_left (difference_smaller w a t (omega arith) l k) ∙ sub-add-eq a (m + 1) s in
    ap₂ (λ (x y : ℕ). 10000 * t - rate * (t - m) + e x y) b g
    ∙ split (10000 * m + (10000 - rate)) ((10000 - rate) * s) _ (cash_split rate (10000 - rate) m s (omega arith))
  where
    cash_split : (rate k m s : ℕ) → rate + k ≡ 10000 → 10000 * (m + 1 + s) - rate * (m + 1 + s - m) ≡ 10000 * m + k + k * s
    cash_split rate k m s p =
        let z : m + 1 + s - m ≡ 1 + s = omega arith in
        let q : (rate + k) * (1 + s) ≡ 10000 * (1 + s) = ap (λ (x : ℕ). x * (1 + s)) p in
        rw z (omega arith)

    split : {x : ℕ} (y z v : ℕ) → x ≡ y + z → x + v ≡ y + (z + v)
    split y z v p = omega arith

-- the whole account, above m
pub surrender_is : (e : ℕ → ℕ → ℕ) (rate m w a : ℕ) → m < w → worth_over e rate m w a w ≡ cash rate m w + e 0 0
unfolding worth_over balance_after
surrender_is e rate m w a h =
    let z : w - w ≡ 0 = omega arith in
    let none : a * (w - w) / w ≡ 0 = ap (λ (x : ℕ). a * x / w) z ∙ ap (λ (x : ℕ). x / w) (mul-zero a) ∙ zero-div w in
    ap₂ (λ (x g : ℕ). cash rate m w + e x g) z (guarantee_above m w a w h ∙ ap (min (a - w)) none ∙ min-zero (a - w))

-- ---- the largest key of each behaviour is that of the value and the recorded amount
module _ (e : ℕ → ℕ → ℕ) (rate level w a : ℕ) where
  abbrev m : ℕ
  m = free_amount level a

  found : {k : ℕ} (b : Behaviour) → Top (admits b m w) (worth_over e rate m w a) (largest_amount m w) k → k ≡ best_key b e rate level w a
  unfolding best_value best_amount
  found b x = top_is_best x

  -- "Static: m only"
  pub static_key : key_over e rate m w a m ≡ best_key static e rate level w a
  unfolding admits largest_amount
  static_key = found static (record {
    has = (m, omega arith, admits_free static m w, refl);
    above = λ t l p. le_of_eq (ap (key_over e rate m w a) (eqb→eq t m p));
  })

  -- "Mixed: m and, when W is above m, also W"
  pub mixed_key : w ≤ m → key_over e rate m w a m ≡ best_key mixed e rate level w a
  unfolding largest_amount
  mixed_key h = found mixed (record {
    has = (m, omega arith, admits_free mixed m w, refl);
    above = λ t l p. only t (mixed_is m w t p);
  })
    where
      only : (t : ℕ) → (t ≡ m) ⊎ ((m < w) × (t ≡ w)) → key_over e rate m w a t ≤ key_over e rate m w a m
      only t (inl z) = le_of_eq (ap (key_over e rate m w a) z)
      only t (inr (k, z)) = absurd (omega arith)

  pub surrender_key : m < w → max (key_over e rate m w a m) (key_over e rate m w a w) ≡ best_key mixed e rate level w a
  unfolding largest_amount
  surrender_key h = found mixed (record {
    has = go (dec_le (key_over e rate m w a m) (key_over e rate m w a w));
    above = λ t l p. upto t (mixed_is m w t p);
  })
    where
      g : ℕ → ℕ
      g = key_over e rate m w a

      go : Dec (g m ≤ g w) → (t : ℕ) × (t ≤ max w m) × T (admits mixed m w t) × (max (g m) (g w) ≡ g t)
      go (yes l) = (w, omega arith, admits_surrender m w h, max-eq_right l)
      go (no l) = (m, omega arith, admits_free mixed m w, max-eq_left (omega arith))

      upto : (t : ℕ) → (t ≡ m) ⊎ ((m < w) × (t ≡ w)) → g t ≤ max (g m) (g w)
      upto t (inl z) = le_trans (le_of_eq (ap g z)) (le-max_left _ _)
      upto t (inr (k, z)) = le_trans (le_of_eq (ap g z)) (le-max_right _ _)

  -- "Dynamic: 0 to the larger of W and m"
  pub dynamic_key : most (key_over e rate m w a) (max w m + 1) ≡ best_key dynamic e rate level w a
  unfolding largest_amount
  dynamic_key = found dynamic (record {
    has = go (most_has (key_over e rate m w a) (max w m + 1) (omega arith));
    above = λ t l p. le_most (key_over e rate m w a) (max w m + 1) t (omega arith);
  })
    where
      go : {k : ℕ} → (t : ℕ) × (t < max w m + 1) × (k ≡ key_over e rate m w a t)
          → (t : ℕ) × (t ≤ max w m) × T (admits dynamic m w t) × (k ≡ key_over e rate m w a t)
      go (t, l, z) = (t, omega arith, is_dynamic m w t (omega arith), z)

-- ---- above m where account and guarantee fall alike: s are the sums times 8,192
pub further_joins : (e s : ℕ → ℕ → ℕ) (rate m w a : ℕ) → rate ≤ 10000 → m < w → a ≤ w → w ≤ amount_most
    → ((x y : ℕ) → x ≤ w → y ≤ a → s x y ≡ 8192 * e x y)
    → max (most (key_over e rate m w a) (m + 1))
    (further_key s (8192 * (10000 - rate)) (w - m - 1) (a - (m + 1)) + key (10000 * m + (10000 - rate)) w)
    ≡ most (key_over e rate m w a) (w + 1)
further_joins e s rate m w a h l k small same =
    let n : m + 1 + (w - m - 1 + 1) ≡ w + 1 = omega arith in
    ap (max (most g (m + 1)))
    (ap (λ (x : ℕ). x + key c w) (further_most s step b (a - (m + 1)))
    ∙ sym (most_shift (λ x. g (m + 1 + x)) (further s step b (a - (m + 1))) (key c w) (b + 1) each (omega arith)))
    ∙ sym (most_join g (m + 1) (b + 1))
    ∙ ap (most g) n
  where
    g : ℕ → ℕ
    g = key_over e rate m w a

    b : ℕ
    b = w - m - 1

    c : ℕ
    c = 10000 * m + (10000 - rate)

    step : ℕ
    step = 8192 * (10000 - rate)

    sorted : (k x z r y : ℕ) → 8192 * (k * x + z) + (r + y) ≡ 8192 * z + (8192 * k * x + r) + y
    sorted k x z r y = omega arith

    each : (x : ℕ) → x < b + 1 → g (m + 1 + x) ≡ further s step b (a - (m + 1)) x + key c w
    each x p =
        let r : w - (m + 1 + x) ≡ w - m - 1 - x = omega arith in
        ap (λ (v : ℕ). key v (m + 1 + x)) (further_is e rate m w a x h (omega arith) k)
        ∙ key_add c _ (m + 1 + x)
        ∙ ap (λ (y : ℕ). 8192 * ((10000 - rate) * x + e (w - m - 1 - x) (a - (m + 1) - x)) + y)
        (key_left c (m + 1 + x) w (omega arith) small ∙ ap (λ (y : ℕ). y + key c w) r)
        ∙ sorted (10000 - rate) x _ (w - m - 1 - x) (key c w)
        ∙ ap (λ (y : ℕ). y + (8192 * (10000 - rate) * x + (w - m - 1 - x)) + key c w)
        (sym (same (w - m - 1 - x) (a - (m + 1) - x) (omega arith) (omega arith)))
