-- Bits by an index, in words of 64 with the lowest bit first. Assumes nothing.
use Rattle.std.specs.Prelude.{Bool, true, false, List, ◌++◌, ◌≡◌, replicate}
use Rattle.std.proofs.Math.Path.{ap, sym, fun_ext}
use Rattle.std.proofs.Common.{ap₂, ◌∙◌, add_assoc, mul_assoc, mul-add, mul_left_comm, pow-suc}
use Prim.Native.Nat.{ℕ, zero, suc, ◌+◌, ◌-◌, ◌*◌, ◌/◌, ◌%◌, ◌^◌, ◌≤◌, ◌<◌, min}
use Rattle.std.proofs.Math.Nat.{add-zero, pow-succ', two-pow-succ, pow-le-pow_right, div-div-eq-div-mul, div-eq_of_lt}
use Rattle.std.proofs.Math.Decide.{dec_le}
use native.Mathlib.Omega.{arith}
use Rattle.decision.specs.Index.{sum, sum_eq, sum_append, sum_zeros, tabulate_zeros, get_d_tabulate}
use Rattle.decision.specs.Bits.{bit, from_bits, words_for, bits_in, word_of, words_of, set_bits, bit_of, bit_at, ones}

-- ---- a number and its bits
pub bit_le : (b : Bool) → bit b ≤ 1
unfolding bit
bit_le true = omega arith
bit_le false = omega arith

pub pow_add : (a b : ℕ) → 2 ^ (a + b) ≡ 2 ^ a * 2 ^ b
pow_add a zero = rw (add-zero a) (omega arith)
pow_add a (suc b) =
    let e : a + suc b ≡ suc (a + b) = omega arith in
    rw (e, pow-suc 2 (a + b), pow-suc 2 b, pow_add a b) (mul_assoc (2 ^ a) (2 ^ b) 2)

-- two runs of bits that meet
pub bits_append : (f : ℕ → Bool) (a b : ℕ) → from_bits f (a + b) ≡ from_bits f a + 2 ^ a * from_bits (λ k. f (a + k)) b
unfolding from_bits sum
bits_append f a zero = rw (add-zero a) (omega arith)
bits_append f a (suc b) =
    let e : a + suc b ≡ suc (a + b) = omega arith in
    let before = bits_append f a b in
    let s = sum (λ k. bit (f (a + k)) * 2 ^ k) b in
    let x = bit (f (a + b)) in
    rw (e, before, pow_add a b, mul_left_comm x (2 ^ a) (2 ^ b), mul-add (2 ^ a) s (x * 2 ^ b)) (add_assoc _ _ _)

pub bits_lt : (f : ℕ → Bool) (n : ℕ) → from_bits f n < 2 ^ n
unfolding from_bits sum bit
bits_lt f zero = omega arith
bits_lt f (suc n) = go (f n) (bits_lt f n) (two-pow-succ n)
  where
    go : (b : Bool) → sum (λ k. bit (f k) * 2 ^ k) n < 2 ^ n → 2 ^ suc n ≡ 2 ^ n + 2 ^ n
        → sum (λ k. bit (f k) * 2 ^ k) n + bit b * 2 ^ n < 2 ^ suc n
    go true h p = omega arith
    go false h p = omega arith

-- a bit below all others
pub bits_cons : (f : ℕ → Bool) (n : ℕ) → from_bits f (suc n) ≡ bit (f 0) + 2 * from_bits (λ k. f (suc k)) n
unfolding from_bits sum
bits_cons f n =
    let rest : ◌≡◌ {A = ℕ → Bool} (λ k. f (1 + k)) (λ k. f (suc k)) =
    fun_ext (λ k. ap f (let e : 1 + k ≡ suc k = omega arith in e)) in
    ap (from_bits f) (let e : suc n ≡ 1 + n = omega arith in e)
    ∙ bits_append f 1 n
    ∙ ap₂ ◌+◌ one (ap (λ (g : ℕ → Bool). 2 * from_bits g n) rest)
  where
    one : from_bits f 1 ≡ bit (f 0)
    one = omega arith

-- .. is read first, and the others behind it
low_bit : (b : Bool) (x : ℕ) → bit_of (bit b + 2 * x) 0 ≡ bit b
unfolding bit_of bit
low_bit true x = omega arith
low_bit false x = omega arith

next_bit : (b : Bool) (x k : ℕ) → bit_of (bit b + 2 * x) (suc k) ≡ bit_of x k
unfolding bit_of
next_bit b x k =
    let half : (bit b + 2 * x) / 2 ≡ x = let l = bit_le b in omega arith in
    rw (pow-succ' 2 k, ← div-div-eq-div-mul (bit b + 2 * x) 2 (2 ^ k), half)

pub bit_back : (f : ℕ → Bool) (n k : ℕ) → k < n → bit_of (from_bits f n) k ≡ bit (f k)
bit_back f zero k l = absurd (omega arith)
bit_back f (suc n) zero l = rw (bits_cons f n) (low_bit (f 0) _)
bit_back f (suc n) (suc k) l = rw (bits_cons f n) (next_bit (f 0) _ k ∙ bit_back (λ j. f (suc j)) n k (omega arith))

pub bit_above : (f : ℕ → Bool) (n k : ℕ) → n ≤ k → bit_of (from_bits f n) k ≡ 0
unfolding bit_of
bit_above f n k l =
    let p = bits_lt f n in
    let q : 2 ^ n ≤ 2 ^ k = pow-le-pow_right (omega arith) l in
    let z : from_bits f n / 2 ^ k ≡ 0 = div-eq_of_lt (omega arith) in
    rw z

-- a word that was made of bits has as many set as they are
pub ones_bits : (f : ℕ → Bool) (n : ℕ) → n ≤ 64 → ones (from_bits f n) ≡ set_bits f n
unfolding ones set_bits
ones_bits f n l =
    let e : 64 ≡ n + (64 - n) = omega arith in
    let x = from_bits f n in
    ap (sum (bit_of x)) e
    ∙ sum_append (bit_of x) n (64 - n)
    ∙ ap₂ ◌+◌ (sum_eq _ _ n (λ k h. bit_back f n k h)) (sum_zeros _ (64 - n) (λ k h. bit_above f n (n + k) (omega arith)))
    ∙ add-zero (sum (λ k. bit (f k)) n)

-- ---- words
module _ (f : ℕ → Bool) (n : ℕ) where
  -- what has been counted behind j words
  counted : (j : ℕ) → sum (λ j. ones (word_of f n j)) j ≡ set_bits f (min n (64 * j))
  unfolding sum word_of set_bits
  counted zero = ap (set_bits f) (let e : 0 ≡ min n (64 * 0) = omega arith in e)
  counted (suc j) = go (dec_le (64 * j) n) (counted j)
    where
      go : Dec (64 * j ≤ n) → sum (λ j. ones (word_of f n j)) j ≡ set_bits f (min n (64 * j))
          → sum (λ j. ones (word_of f n j)) j + ones (word_of f n j) ≡ set_bits f (min n (64 * suc j))
      go (yes h) e =
          let all : min n (64 * suc j) ≡ min n (64 * j) + bits_in n j = omega arith in
          let to : min n (64 * j) ≡ 64 * j = omega arith in
          let last = ones_bits (λ k. f (64 * j + k)) (bits_in n j) (omega arith) in
          rw (all, to) (ap₂ ◌+◌ (e ∙ ap (set_bits f) to) last ∙ sym (sum_append (λ k. bit (f k)) (64 * j) (bits_in n j)))
      go (no h) e =
          let none : bits_in n j ≡ 0 = omega arith in
          let same : min n (64 * suc j) ≡ min n (64 * j) = omega arith in
          rw (none, same) (ap₂ ◌+◌ e (ones_bits (λ k. f (64 * j + k)) 0 (omega arith)) ∙ add-zero (set_bits f (min n (64 * j))))

  pub words_count : sum (λ j. ones (word_of f n j)) (words_for n) ≡ set_bits f n
  unfolding words_for
  words_count = counted ((n + 63) / 64) ∙ ap (set_bits f) (omega arith)

  -- every bit can be read back
  pub word_back : (e : ℕ) (rest : List ℕ) → e < n → bit_at (words_of f n ++ rest) e ≡ bit (f e)
  unfolding bit_at words_of word_of words_for
  word_back e rest l =
      let w : e / 64 < (n + 63) / 64 = omega arith in
      let k : e % 64 < min 64 (n - 64 * (e / 64)) = omega arith in
      let i : 64 * (e / 64) + e % 64 ≡ e = omega arith in
      let in_word = bit_back (λ k. f (64 * (e / 64) + k)) (bits_in n (e / 64)) (e % 64) k in
      rw (get_d_tabulate ((n + 63) / 64) (e / 64) (word_of f n) rest w, in_word, i)

  -- .. and the bits behind them are clear
  pub word_unused : (e : ℕ) (rest : List ℕ) → n ≤ e → e < 64 * words_for n → bit_at (words_of f n ++ rest) e ≡ 0
  unfolding bit_at words_of word_of words_for
  word_unused e rest l h =
      let w : e / 64 < (n + 63) / 64 = omega arith in
      let k : min 64 (n - 64 * (e / 64)) ≤ e % 64 = omega arith in
      let in_word = bit_above (λ k. f (64 * (e / 64) + k)) (bits_in n (e / 64)) (e % 64) k in
      rw (get_d_tabulate ((n + 63) / 64) (e / 64) (word_of f n) rest w, in_word)

-- ---- no bit set
module _ (f : ℕ → Bool) (n : ℕ) (none : (e : ℕ) → e < n → f e ≡ false) where
  pub bits_unset : set_bits f n ≡ 0
  unfolding set_bits bit
  bits_unset = sum_zeros _ n (λ k l. rw (none k l))

  pub words_none : words_of f n ≡ replicate (words_for n) 0
  unfolding words_of word_of from_bits bit
  words_none = tabulate_zeros _ _ (λ j h. sum_zeros _ (bits_in n j) (λ k l. rw (none (64 * j + k) (omega arith)) (omega arith)))
