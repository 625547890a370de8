-- Record, list and rates that were read. Assumes nothing.
use Rattle.std.specs.Prelude.{List, ℕ, ◌*◌, ◌≤◌, length}
use Rattle.rules.specs.Contract.{Terms, returns_of, rate_bytes, rates_of}
use Rattle.laws.specs.Accepted.{ValidInput}

pub record Given (c : Terms) (list rates : List ℕ) : Type 0 where
  pub valid : ValidInput c (returns_of list) (rates_of rates)
  pub long : rate_bytes * c.dates ≤ length rates
