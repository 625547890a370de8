-- What the states of a block hold while amounts are tried. Assumes nothing.
use Rattle.std.specs.Prelude.{◌≡◌, ℕ, ◌+◌, ◌^◌, ◌<◌, ◌≤◌, max, cond, List, length, nat_lt, slice_index}
use Rattle.slices.specs.Stored.{stored}
use Rattle.rules.specs.Date.{free_amount}
use Rattle.keys.specs.declared.Date.{Date}
use Rattle.keys.specs.declared.Block.{Block}
use Rattle.keys.specs.Most.{most}
use Rattle.keys.specs.Sums.{sums}
use Rattle.worth.specs.Worth.{key_over}

-- the amount that state j withdraws without penalty
abbrev pub free_of : Date → Block → ℕ → ℕ
free_of d s j = free_amount d.level (s.from + j)

-- the key of amount t for state j
abbrev pub key_at : List ℕ → Date → Block → ℕ → ℕ → ℕ
key_at work d s j t = key_over (sums work d) d.rate (free_of d s j) s.w (s.from + j) t

-- what no key passes
abbrev pub key_most : ℕ
key_most = 2 ^ 60

-- the first n states hold the largest key of their first `count` amounts
pub record Held (g : ℕ → ℕ → ℕ) (best : List ℕ) (n : ℕ) (count : ℕ → ℕ) : Type 0 where
  pub long : 512 ≤ length best
  pub small : (j : ℕ) → j < n → slice_index best j ≤ key_most
  pub each : (j : ℕ) → j < n → slice_index best j ≡ most (g j) (count j)

-- n states from `low` on, each raised to f i where that is more than it holds
abbrev pub raised_to : List ℕ → ℕ → (ℕ → ℕ) → ℕ → List ℕ
raised_to best low f n = stored best low (λ i. max (slice_index best (low + i)) (f i)) n

-- how many amounts were tried of state j: all of them below state x, else those up to m
abbrev pub tried_below : Date → Block → ℕ → ℕ → ℕ
tried_below d s x j = cond (nat_lt j x) (max s.w (free_of d s j) + 1) (free_of d s j + 1)
