-- What the loops of a map hold: the state of an entry, and the bits so far. Assumes nothing.
use Rattle.std.specs.Prelude.{Bool, List, ◌≡◌, ℕ, ◌+◌, ◌/◌, ◌%◌, ◌≤◌, ◌<◌, eqb, length, get_or}
use Rattle.decision.specs.Bits.{from_bits}
use Rattle.rules.specs.Contract.{Terms}
use Rattle.rules.specs.Date.{free_amount}
use Rattle.rules.specs.FixedTerm.{layer_size}
use Rattle.rules.specs.Map.{surrendered, map_size}
use Rattle.surrender.specs.declared.State.{State}
use Rattle.surrender.specs.declared.Run.{Run}
use Rattle.laws.specs.Terms.{table_size, frame}

-- the state of entry e, over all dates
abbrev pub state_of : Terms → ℕ → State
state_of c e = record { account = e % layer_size c / (c.premium + 1); guarantee = e % layer_size c % (c.premium + 1) }

-- which amounts of a part of a row are the whole account
abbrev pub draws : List ℕ → ℕ → ℕ → Bool
draws row account k = eqb (get_or row k 0) account

-- the first r of the n states from `at` on have an account above m, and the others do not
pub record Open (level : ℕ) (at : State) (n r : ℕ) : Type 0 where
  pub within : r ≤ n
  pub above : (k : ℕ) → k < r → free_amount level (at.guarantee + k) < at.account
  pub others : (k : ℕ) → r ≤ k → k < n → at.account ≤ free_amount level (at.guarantee + k)

-- a run of at most 64 entries
pub record Wording (c : Terms) (table : List ℕ) (from n : ℕ) (at : State) : Type 0 where
  pub few : n ≤ 64
  pub room : from + n ≤ length table
  pub within : from + n ≤ table_size c
  pub begins : at ≡ state_of c from

pub record Worded (c : Terms) (table : List ℕ) (from n : ℕ) (r : Run) : Type 0 where
  pub bits_are : r.bits ≡ from_bits (λ k. surrendered (frame c) table (from + k)) n
  pub ends : r.next ≡ state_of c (from + n)

-- a table and a map that are long enough
pub record MapRoom (c : Terms) (table map : List ℕ) : Type 0 where
  pub entries : table_size c ≤ length table
  pub words : map_size (frame c) ≤ length map
