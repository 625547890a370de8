-- Bits by an index, in words of 64 with the lowest bit first. Assumes nothing.
use Rattle.std.specs.Prelude.{Bool, cond, List, get_or}
use Prim.Native.Nat.{ℕ, ◌+◌, ◌-◌, ◌*◌, ◌/◌, ◌%◌, ◌^◌, min}
use Rattle.decision.specs.Index.{sum, tabulate}

-- 1 for a bit that is set, 0 for one that is clear
unfoldable pub bit : Bool → ℕ
bit b = cond b 1 0

-- the number whose bits are f 0, f 1, .. f (n - 1), the lowest first: the sum of its bits times powers of two
unfoldable pub from_bits : (ℕ → Bool) → ℕ → ℕ
from_bits f n = sum (λ k. bit (f k) * 2 ^ k) n

-- how many words n bits take
unfoldable pub words_for : ℕ → ℕ
words_for n = (n + 63) / 64

-- how many of n bits word j has
abbrev pub bits_in : ℕ → ℕ → ℕ
bits_in n j = min 64 (n - 64 * j)

-- word j of n bits: those that it has, and zeros above them
unfoldable pub word_of : (ℕ → Bool) → ℕ → ℕ → ℕ
word_of f n j = from_bits (λ k. f (64 * j + k)) (min 64 (n - 64 * j))

-- the words of n bits
unfoldable pub words_of : (ℕ → Bool) → ℕ → List ℕ
words_of f n = tabulate (words_for n) (word_of f n)

-- how many of n bits are set
unfoldable pub set_bits : (ℕ → Bool) → ℕ → ℕ
set_bits f n = sum (λ k. bit (f k)) n

-- bit k of a number, and bit e of a list of words
unfoldable pub bit_of : ℕ → ℕ → ℕ
bit_of x k = x / 2 ^ k % 2

unfoldable pub bit_at : List ℕ → ℕ → ℕ
bit_at words e = bit_of (get_or words (e / 64) 0) (e % 64)

-- how many bits of a word are set
unfoldable pub ones : ℕ → ℕ
ones x = sum (bit_of x) 64
