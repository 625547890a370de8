-- Runs of bits and the bits of a word: how many are set, and what number they make. Assumes nothing.
use mathlib.Core.Bool.{Bool, true, false}
use mir.Val.{bool_byte}
use mathlib.Core.Path.{◌≡◌, refl, ap, sym, ◌∙◌, fun_ext}
use Prim.Native.Nat.{ℕ, zero, suc, ◌+◌, ◌-◌, ◌*◌, ◌/◌, ◌%◌, ◌^◌, ◌≤◌, ◌<◌}
use native.Mathlib.Nat.{le_refl, pow-le-pow_right, pow-succ', two-pow-succ, div-div-eq-div-mul, div-eq_of_lt, zero-add, zero-div}
use native.Mathlib.Omega.{arith}
use lib.Count as Count
use Rattle.decision.specs.Index.{sum, sum_eq, sum_append, sum_zeros, sum_next}
use Rattle.decision.specs.Bits.{bit, from_bits, set_bits, bit_of, ones}
use Rattle.decision.proofs.Bits.{bit_le, pow_add, bits_lt, bits_cons}
use Rattle.decision.specs.Layers.{high_digit}

sum_most_lem : (f : ℕ → ℕ) (n : ℕ) → ((k : ℕ) → f k ≤ 1) → sum f n ≤ n
unfolding sum
sum_most_lem f zero h = omega arith
sum_most_lem f (suc n) h = let before = sum_most_lem f n h in let last = h n in omega arith

-- ---- how many are set: none, and all
module _ (f : ℕ → Bool) where
  pub set_none : set_bits f 0 ≡ 0
  unfolding set_bits sum
  set_none = refl

  pub set_next : (k : ℕ) → set_bits f (k + 1) ≡ set_bits f k + bit (f k)
  unfolding set_bits
  set_next k = sum_next (λ j. bit (f j)) k

  pub set_most : (n : ℕ) → set_bits f n ≤ n
  unfolding set_bits
  set_most n = sum_most_lem (λ k. bit (f k)) n (λ k. bit_le (f k))

  pub unset_bits : (n : ℕ) → set_bits f n ≡ 0 → from_bits f n ≡ 0
  unfolding set_bits from_bits sum
  unset_bits zero e = refl
  unset_bits (suc n) e =
      let before = unset_bits n (omega arith) in
      let last : bit (f n) ≡ 0 = omega arith in
      rw (before, last) (omega arith)

  pub all_bits : (n : ℕ) → set_bits f n ≡ n → from_bits f n + 1 ≡ 2 ^ n
  unfolding set_bits from_bits sum
  all_bits zero e = omega arith
  all_bits (suc n) e =
      let most = set_most n in
      let one = bit_le (f n) in
      let before = all_bits n (omega arith) in
      let last : bit (f n) ≡ 1 = omega arith in
      let p = two-pow-succ n in
      rw last (omega arith)

  pow_pos : (d : ℕ) → 0 < 2 ^ d
  pow_pos d = pow-le-pow_right {n = 2} (omega arith) {i = 0} {j = d} (omega arith)

  -- .. as the highest number of a word, moved down
  pub all_ones : (n : ℕ) → n ≤ 64 → set_bits f n ≡ n → 18446744073709551615 / 2 ^ (64 - n) ≡ from_bits f n
  all_ones n few e =
      let d = 64 - n in
      let x = from_bits f n in
      let word : 2 ^ n * 2 ^ d ≡ 18446744073709551616 = sym (pow_add n d) ∙ ap (λ (k : ℕ). 2 ^ k) (let z : n + d ≡ 64 = omega arith in z) in
      let all : (x + 1) * 2 ^ d ≡ 18446744073709551616 = ap (λ (y : ℕ). y * 2 ^ d) (all_bits n e) ∙ word in
      let some = pow_pos d in
      let digits : 18446744073709551615 ≡ x * 2 ^ d + (2 ^ d - 1) = omega arith in
      rw digits (high_digit x (2 ^ d - 1) (2 ^ d) (omega arith))

pub bit_is : (b : Bool) → bool_byte b ≡ bit b
unfolding bit
bit_is true = refl
bit_is false = refl

-- ---- a run of n bits, from the last down
module _ (f : ℕ → Bool) (n : ℕ) where
  abbrev pub above : ℕ → ℕ
  above k = from_bits (λ i. f (k + i)) (n - k)

  pub above_none : above n ≡ 0
  unfolding from_bits sum
  above_none = let z : n - n ≡ 0 = omega arith in rw z

  pub above_next : (k : ℕ) → 1 ≤ k → k ≤ n → 2 * above k + bit (f (k - 1)) ≡ above (k - 1)
  above_next k l h =
      let m : n - (k - 1) ≡ suc (n - k) = omega arith in
      let first : k - 1 + 0 ≡ k - 1 = omega arith in
      let rest : ◌≡◌ {A = ℕ → Bool} (λ i. f (k - 1 + suc i)) (λ i. f (k + i)) =
      fun_ext (λ i. ap f (let e : k - 1 + suc i ≡ k + i = omega arith in e)) in
      rw (m, bits_cons (λ i. f (k - 1 + i)) (n - k), first, rest) (omega arith)

  pub above_all : above 0 ≡ from_bits f n
  above_all =
      ap (λ (g : ℕ → Bool). from_bits g (n - 0)) (fun_ext (λ i. ap f (zero-add i)))
      ∙ ap (from_bits f) (let e : n - 0 ≡ n = omega arith in e)

  -- one bit more fits a word
  pub above_fits : (k : ℕ) → n ≤ 64 → 1 ≤ k → 2 * above k + 1 < 2 ^ 64
  above_fits k few some =
      let l = bits_lt (λ i. f (k + i)) (n - k) in
      let fewer : n - k ≤ 63 = omega arith in
      let p : 2 ^ (n - k) ≤ 2 ^ 63 = pow-le-pow_right (omega arith) fewer in
      omega arith

-- ---- the bits of a word
half_bit : (x k : ℕ) → bit_of x (1 + k) ≡ bit_of (x / 2) k
unfolding bit_of
half_bit x k =
    let e : 1 + k ≡ suc k = omega arith in
    rw (e, pow-succ' 2 k, ← div-div-eq-div-mul x 2 (2 ^ k))

sum_one : (f : ℕ → ℕ) → sum f 1 ≡ f 0
unfolding sum
sum_one f = omega arith

pub ones_half : (x : ℕ) → x < 2 ^ 64 → ones x ≡ x % 2 + ones (x / 2)
unfolding ones bit_of
ones_half x l =
    let low : sum (bit_of x) 1 ≡ x % 2 = sum_one (bit_of x) ∙ bit_zero in
    let high : sum (λ k. bit_of x (64 + k)) 1 ≡ 0 = sum_one (λ k. bit_of x (64 + k)) ∙ bit_last in
    let rest = sum_eq (λ k. bit_of x (1 + k)) (bit_of (x / 2)) 64 (λ k h. half_bit x k) in
    let from_low = sum_append (bit_of x) 1 64 in
    let to_high = sum_append (bit_of x) 64 1 in
    omega arith
  where
    bit_zero : bit_of x 0 ≡ x % 2
    bit_zero = omega arith

    bit_last : bit_of x 64 ≡ 0
    bit_last = let z : x / 2 ^ 64 ≡ 0 = div-eq_of_lt l in rw z

pub ones_none : ones 0 ≡ 0
unfolding ones bit_of
ones_none = sum_zeros _ 64 (λ k h. rw (zero-div (2 ^ k)))

pub ones_le : (x : ℕ) → ones x ≤ 64
unfolding ones bit_of
ones_le x = sum_most_lem (bit_of x) 64 (λ k. omega arith)

-- .. and the count that the machine makes
counted_none : Count.ones 0 ≡ 0
unfolding Count.ones
counted_none = refl

pub ones_same : (x : ℕ) → x < 2 ^ 64 → Count.ones x ≡ ones x
ones_same x l = go x x (le_refl x) l
  where
    go : (n x : ℕ) → x ≤ n → x < 2 ^ 64 → Count.ones x ≡ ones x
    go zero x h l = let z : x ≡ 0 = omega arith in rw z (counted_none ∙ sym ones_none)
    go (suc n) x h l =
        Count.ones_step x ∙ ap (λ (z : ℕ). x % 2 + z) (go n (x / 2) (omega arith) (omega arith)) ∙ sym (ones_half x l)
