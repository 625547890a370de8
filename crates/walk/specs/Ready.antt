-- Terms and returns that were read can be walked. Assumes nothing.
use Rattle.std.specs.Prelude.{List, ℕ}
use Rattle.rules.specs.Contract.{Terms}
use Rattle.laws.specs.Accepted.{Valid}
use Rattle.input.specs.Accepted.{Both}
use Rattle.returns.specs.Counted.{Counted, counted}

pub record Ready (c : Terms) (count : ℕ) (list : List ℕ) : Type 0 where
  pub valid : Valid c
  pub counted : Counted list count

pub ready : {bytes list : List ℕ} {c : Terms} {n : ℕ} → Both bytes list c n → Ready c n list
ready known = record { valid = known.valid; counted = counted known.count known.returns }
