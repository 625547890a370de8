-- A path that can be walked, and what is told of it. Assumes nothing.
use Rattle.std.specs.Prelude.{List, ◌++◌, ◌≡◌, ℕ, ◌≤◌, ◌<◌, get_or, length, drop}
use Rattle.rules.specs.Contract.{Terms, Returns, returns_of}
use Rattle.rules.specs.Product.{walk_cash}
use Rattle.rules.specs.Refusals.{Verdict, on_success}
use Rattle.laws.specs.Accepted.{Valid, ValidReturns}
use Rattle.laws.specs.Terms.{living_term, table_size}

-- a path that can be walked
pub record Walking (c : Terms) (list table path : List ℕ) : Type 0 where
  pub valid : Valid c
  pub returns : ValidReturns (returns_of list)
  pub entries : table_size c ≤ length table
  pub long : length path ≡ c.dates
  pub numbers : (j : ℕ) → j < c.dates → get_or path j 0 < (returns_of list).count

-- the outcome of a verdict, and the cash slice
pub record Walked (c : Terms) (rs : Returns) (v : Verdict) (table path cashes : List ℕ) (told : Verdict) (cashes' : List ℕ) : Type 0 where
  pub outcome_is : told ≡ v
  pub cash_is : cashes' ≡ on_success v (walk_cash (living_term c rs) table path ++ drop c.dates cashes) cashes
