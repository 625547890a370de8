-- The dynamic behaviour, a block of states at a time: what the functions hand to each other. Assumes nothing.
use Rattle.std.specs.Prelude.{Bool, true, List, ◌≡◌, ℕ, ◌+◌, ◌-◌, ◌^◌, ◌≤◌, ◌<◌, min, length, get_or}
use Rattle.slices.specs.Rows.{cells}
use Rattle.keys.specs.declared.Date.{Date}
use Rattle.keys.specs.declared.Block.{Block}
use Rattle.worth.specs.Further.{Furthered}
use Rattle.proportion.specs.Held.{free_of, key_most}
use Rattle.proportion.specs.Share.{Rising}

-- n numbers from `at` on, each with `add` more, for the states from `low` on
pub record Offering (best work : List ℕ) (low at n add : ℕ) : Type 0 where
  pub within : low + n ≤ 512
  pub room : at + n ≤ length work
  pub more : add < 2 ^ 59
  pub small : (i : ℕ) → i < n → get_or work (at + i) 0 < 2 ^ 59
  pub held : (i : ℕ) → i < n → get_or best (low + i) 0 ≤ key_most

-- how many amounts were tried of state j: those below t, as far as its guarantee goes
abbrev pub tried_to : Block → ℕ → ℕ → ℕ
tried_to s t j = min t (s.from + j + 1)

-- ---- withdrawing further: n states from `low` on that withdraw m without penalty, their guarantees up to the account
pub record Alike (d : Date) (s : Block) (low n m : ℕ) : Type 0 where
  pub within : low + n ≤ s.n
  pub below : m < s.w
  pub upto : (i : ℕ) → i < n → s.from + (low + i) ≤ s.w
  pub free : (i : ℕ) → i < n → free_of d s (low + i) ≡ m
  pub aligned : (i : ℕ) → i < n → s.from + low - (m + 1) + i ≡ s.from + (low + i) - (m + 1)

-- ---- a row that is to be decided reads the rows below
pub record Row (work : List ℕ) (d : Date) (w : ℕ) (rising : Bool) : Type 0 where
  pub furthered : Furthered work d w
  pub rises : rising ≡ true → Rising (cells work d.base d.stride) d.stride (w + 1)
