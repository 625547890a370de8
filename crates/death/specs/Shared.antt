-- States whose values are to become their shares, by the death rate of the period. Assumes nothing.
use Rattle.std.specs.Prelude.{List, ◌≡◌, ℕ, ◌+◌, ◌-◌, ◌*◌, ◌/◌, ◌%◌, ◌≤◌, ◌<◌, length, get_or}
use Rattle.slices.specs.Rows.{cells}
use Rattle.rules.specs.Contract.{top_most, rate_most}
use Rattle.laws.specs.Narrow.{low_most}

-- what a rate leaves of a value, in two halves: (10,000 − rate) × 2 ^ 64 / 10,000, rounded up
pub record Halves (rate high low : ℕ) : Type 0 where
  pub some : 1 ≤ rate
  pub rate_is : rate ≤ rate_most
  pub high_is : high ≡ (10000 - rate) * 4294967296 / 10000
  pub low_is : low ≡ ((10000 - rate) * 4294967296 % 10000 * 4294967296 + 9999) / 10000

-- n states that are to be shared, from index `from` on
pub record Run (work : List ℕ) (from n paid step : ℕ) : Type 0 where
  pub few : n ≤ top_most + 1
  pub paid_small : paid ≤ rate_most * (top_most + 1)
  pub step_small : step ≤ rate_most
  pub room : from + n ≤ length work
  pub small : (j : ℕ) → j < n → get_or work (from + j) 0 ≤ low_most

-- a row that is to be shared
pub record Row (work : List ℕ) (stride w : ℕ) : Type 0 where
  pub account : w ≤ top_most
  pub width : stride ≤ top_most + 1
  pub room : w * stride + stride ≤ length work
  pub small : (a : ℕ) → a < stride → cells work 0 stride w a ≤ low_most

-- .. and the rows below n
pub record Rows (work : List ℕ) (rate stride n : ℕ) : Type 0 where
  pub rate_is : rate ≤ rate_most
  pub few : n ≤ top_most + 1
  pub width : stride ≤ top_most + 1
  pub room : n * stride ≤ length work
  pub small : (w a : ℕ) → w < n → a < stride → cells work 0 stride w a ≤ low_most
