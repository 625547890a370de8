-- One date back: the first layer holds the next date's values before, and this date's after. Assumes nothing.
use Rattle.std.specs.Prelude.{List, ◌≡◌, ℕ, ◌+◌, ◌*◌, ◌≤◌, ◌<◌, length, get_or}
use Rattle.slices.specs.Rows.{cells}
use Rattle.rules.specs.Contract.{Terms, Returns, Rates}
use Rattle.rules.specs.Date.{Behaviour}
use Rattle.rules.specs.FixedTerm.{rate_in, layer_size}
use Rattle.laws.specs.Date.{shared}
use Rattle.expect.specs.Expected.{expected, Values}
use Rattle.keys.specs.declared.Date.{Date}
use Rattle.keys.specs.Sums.{Sums, sums}
use Rattle.worth.specs.Worth.{best_value, best_amount}

-- date i, where the next one is valued
pub record OneDate (c : Terms) (i : ℕ) (work : List ℕ) : Type 0 where
  pub before : i < c.dates
  pub first : Values c i work

-- its two layers, with its penalty rate
abbrev pub date_of : Terms → ℕ → Date
date_of c i = record { base = layer_size c; stride = c.premium + 1; level = c.level; rate = rate_in c i }

-- the second layer holds its discounted sums, by the death rate of the period that begins on it
pub record Summed (c : Terms) (rs : Returns) (rate : ℕ) (work work' : List ℕ) (d : Date) : Type 0 where
  pub long : length work' ≡ length work
  pub layers : Sums work' d (c.top + 1)
  pub sums_are : (w a : ℕ) → w ≤ c.top → a ≤ c.premium
      → sums work' d w a ≡ expected c rs (shared rate (cells work 0 (c.premium + 1))) w a
  pub rest : (x : ℕ) → layer_size c + layer_size c ≤ x → get_or work' x 0 ≡ get_or work x 0

-- its states are decided: the values, and the amounts as far as the table goes
pub record Dated (b : Behaviour) (c : Terms) (rs : Returns) (ds : Rates) (i : ℕ) (work table work' table' : List ℕ) : Type 0 where
  pub long : length work' ≡ length work
  pub long_table : length table' ≡ length table
  pub values : (w a : ℕ) → w ≤ c.top → a ≤ c.premium
      → cells work' 0 (c.premium + 1) w a
      ≡ best_value b (expected c rs (shared (ds i) (cells work 0 (c.premium + 1)))) (rate_in c i) c.level w a
  pub amounts : (w a : ℕ) → w ≤ c.top → a ≤ c.premium → w * (c.premium + 1) + a < length table
      → cells table' 0 (c.premium + 1) w a
      ≡ best_amount b (expected c rs (shared (ds i) (cells work 0 (c.premium + 1)))) (rate_in c i) c.level w a
  pub rest : (x : ℕ) → layer_size c + layer_size c ≤ x → get_or work' x 0 ≡ get_or work x 0
