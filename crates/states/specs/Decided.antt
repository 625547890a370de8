-- The states of a date, decided block by block: the rows from the last one down, each from its first guarantee on. Assumes nothing.
use Rattle.std.specs.Prelude.{Bool, true, List, ◌⊎◌, ◌≡◌, ℕ, ◌+◌, ◌*◌, ◌≤◌, ◌<◌, length, get_or}
use Rattle.slices.specs.Rows.{cells, flat}
use Rattle.rules.specs.Date.{Behaviour, dynamic}
use Rattle.date.specs.Behaviour.{behaviour_in}
use Rattle.keys.specs.declared.Date.{Date}
use Rattle.keys.specs.declared.Block.{Block}
use Rattle.keys.specs.Sums.{Sums, Span, sums}
use Rattle.worth.specs.Worth.{best_value, best_amount}
use Rattle.worth.specs.Further.{Furthered}
use Rattle.proportion.specs.Share.{Rising}
use Rattle.dynamic.specs.Block.{Row}
use Rattle.states.specs.declared.States.{States}

-- row w is to be decided, or the rest of it
pub record Ready (x : States) (work : List ℕ) (w : ℕ) : Type 0 where
  pub layers : Sums work x.d (w + 1)
  pub row : behaviour_in x.behaviour ≡ dynamic → Row work x.d w x.rising

-- .. a block of it
pub record Deciding (x : States) (work : List ℕ) (s : Block) : Type 0 where
  pub span : Span work x.d s
  pub row : behaviour_in x.behaviour ≡ dynamic → Row work x.d s.w x.rising

-- what the dynamic behaviour reads beside the sums of n rows, and whether these rise
pub record Prepared (work work' : List ℕ) (d : Date) (n : ℕ) (rising : Bool) : Type 0 where
  pub long : length work' ≡ length work
  pub kept : (i : ℕ) → n * d.stride ≤ i → get_or work' i 0 ≡ get_or work i 0
  pub furthered : Furthered work' d n
  pub rises : rising ≡ true → Rising (cells work d.base d.stride) d.stride n
  pub tested : Rising (cells work d.base d.stride) d.stride n → rising ≡ true

-- the entries from `low` to `end` are decided over the sums e: values in the first layer, amounts as far as the table goes
pub record Decided (b : Behaviour) (e : ℕ → ℕ → ℕ) (work table work' table' : List ℕ) (d : Date) (low end : ℕ) : Type 0 where
  pub long : length work' ≡ length work
  pub long_table : length table' ≡ length table
  pub values : (i : ℕ) → low ≤ i → i < end → get_or work' i 0 ≡ flat d.stride (best_value b e d.rate d.level) i
  pub amounts : (i : ℕ) → low ≤ i → i < end → i < length table → get_or table' i 0 ≡ flat d.stride (best_amount b e d.rate d.level) i
  pub rest : (i : ℕ) → (i < low) ⊎ (end ≤ i) → get_or work' i 0 ≡ get_or work i 0
  pub rest_table : (i : ℕ) → (i < low) ⊎ (end ≤ i) → get_or table' i 0 ≡ get_or table i 0

-- .. over the sums that stood there
abbrev pub Turned : States → (work table work' table' : List ℕ) → (low end : ℕ) → Type 0
Turned x work table work' table' low end = Decided (behaviour_in x.behaviour) (sums work x.d) work table work' table' x.d low end
