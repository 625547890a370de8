-- The guarantee in proportion, by a reciprocal. Assumes nothing.
use Rattle.std.proofs.Common.{◌≡◌, ℕ, ◌+◌, ◌-◌, ◌*◌, ◌/◌, ◌%◌, ◌<◌, ◌≤◌, sym, ap, ◌∙◌, le_trans, le_of_eq, mul-le-mul_right, mod-lt}
use Rattle.std.proofs.Common.{mul-le-mul, mul-le-mul_left, div-add-mod', le-div_iff_mul-le, div-mul-le_self, arith}
use native.Mathlib.Nat.{div-le_of_le-mul, div-div-eq-div-mul}
use Rattle.decision.specs.Layers.{high_digit}

-- it is no larger than before, and rises with the guarantee before
pub share_le : (a x w : ℕ) → x ≤ w → a * x / w ≤ a
share_le a x w h = div-le_of_le-mul w (let p = mul-le-mul_left a h in omega arith)

pub share_rises : (a b x w : ℕ) → 1 ≤ w → a ≤ b → a * x / w ≤ b * x / w
share_rises a b x w some h = (le-div_iff_mul-le some).1 (le_trans (div-mul-le_self (a * x) w) (mul-le-mul_right x h))

-- a quotient from its parts
quotient_is : (q r w n : ℕ) → q * w + r ≡ n → r < w → q ≡ n / w
quotient_is q r w n e h = sym (ap (λ (z : ℕ). z / w) (sym e) ∙ high_digit q r w h)

-- 2^40 / w rounded up
inverse_up : (w : ℕ) → 1 ≤ w → (1099511627776 + w - 1) / w * w ≡ 1099511627776 + (w - 1 - (1099511627776 + w - 1) % w)
inverse_up w h = go ((1099511627776 + w - 1) / w) ((1099511627776 + w - 1) % w) (div-add-mod' (1099511627776 + w - 1) w)
    (mod-lt (1099511627776 + w - 1) h)
  where
    go : (q r : ℕ) → q * w + r ≡ 1099511627776 + w - 1 → r < w → q * w ≡ 1099511627776 + (w - 1 - r)
    go q r e l = omega arith

-- n / w from the high part of n × inverse
by_inverse : (n w inverse e : ℕ) → inverse * w ≡ 1099511627776 + e → e < w → w ≤ 4000 → n ≤ 16004000 → n * inverse / 1099511627776 ≡ n / w
by_inverse n w inverse e p h l m =
    ap (λ (z : ℕ). z / 1099511627776) (quotient_is (n * inverse) 0 w (w * (n * inverse)) (omega arith) (omega arith))
    ∙ div-div-eq-div-mul (w * (n * inverse)) w 1099511627776
    ∙ sym (go (n / w) (n % w) (div-add-mod' n w) (mod-lt n (omega arith)))
  where
    go : (g r : ℕ) → g * w + r ≡ n → r < w → g ≡ w * (n * inverse) / (w * 1099511627776)
    go g r d k =
        let q : n * (inverse * w) ≡ n * (1099511627776 + e) = ap (λ (z : ℕ). n * z) p in
        let d' : (g * w + r) * 1099511627776 ≡ n * 1099511627776 = ap (λ (z : ℕ). z * 1099511627776) d in
        let small : n * e ≤ 64016000000 = mul-le-mul {n₂ = 16004000} {m₂ = 4000} m (omega arith) in
        quotient_is g (r * 1099511627776 + n * e) (w * 1099511627776) (w * (n * inverse)) (omega arith) (omega arith)

module _ (w inverse : ℕ) (some : 1 ≤ w) (most : w ≤ 4000) (inverse_is : inverse ≡ (1099511627776 + w - 1) / w) where
  pub share_is : (a x : ℕ) → a ≤ 4001 → x ≤ w → a * (x * inverse) / 1099511627776 ≡ a * x / w
  share_is a x h l =
      let n : a * x ≤ 16004000 = mul-le-mul {n₂ = 4001} {m₂ = 4000} h (omega arith) in
      let p : a * (x * inverse) ≡ a * x * inverse = omega arith in
      ap (λ (z : ℕ). z / 1099511627776) p
      ∙ ap (λ (z : ℕ). a * x * z / 1099511627776) inverse_is
      ∙ by_inverse (a * x) w _ (w - 1 - (1099511627776 + w - 1) % w) (inverse_up w some) (omega arith) most n

  -- .. which fits 64 bits
  pub step_small : (x : ℕ) → x ≤ w → x * inverse ≤ 1099511631776
  step_small x l =
      let u = inverse_up w some in
      let m : x * ((1099511627776 + w - 1) / w) ≤ w * ((1099511627776 + w - 1) / w) = mul-le-mul_right _ l in
      le_trans (le_of_eq (ap (λ (z : ℕ). x * z) inverse_is)) (omega arith)

  pub share_small : (a x : ℕ) → a ≤ 4001 → x ≤ w → a * (x * inverse) ≤ 4399146038735776
  share_small a x h l = mul-le-mul {n₂ = 4001} {m₂ = 1099511631776} h (step_small x l)
