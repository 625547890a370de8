-- Request (vii): the groups of the returns that lead from a balance to one row of a layer. Assumes nothing.
use Rattle.std.specs.Prelude.{Bool, cond, ◌&&◌, List, ◌≡◌, ℕ, ◌+◌, ◌-◌, ◌*◌, ◌%◌, ◌≤◌, ◌<◌, ltb, eqb, get_or, set}
use Rattle.decision.specs.Index.{sum}
use Rattle.rules.specs.Contract.{Terms, Returns, top_most, weight_most}
use Rattle.rules.specs.Date.{next_account, excess_paid}
use Rattle.returns.specs.Sorted.{Ordered}

-- what the returns pay on arrival, by weight, which no guarantee changes
unfoldable pub paid_sum : Terms → Returns → ℕ → ℕ
paid_sum c rs balance = sum (λ k. rs.weight k * excess_paid c.fee c.top balance (rs.factor k)) rs.count

-- what no return pays, by weight
abbrev pub paid_most : ℕ
paid_most = weight_most * (30000 * top_most)

-- where the row starts to which return k leads
abbrev pub start_held : Terms → Returns → ℕ → ℕ → ℕ → ℕ
start_held c rs balance stride k = next_account c.fee c.top balance (rs.factor k) * stride

-- one return more, to the last of n groups or after it
abbrev pub again : List ℕ → ℕ → ℕ → Bool
again starts n start = ltb 0 n && eqb (get_or starts (n - 1) 0) start

pub record Joined (starts weights : List ℕ) (n start weight : ℕ) (starts' weights' : List ℕ) (n' : ℕ) : Type 0 where
  pub number : n' ≡ cond (again starts n start) n (n + 1)
  pub starts_are : starts' ≡ cond (again starts n start) starts (set starts n start)
  pub weights_are : weights'
      ≡ cond (again starts n start) (set weights (n - 1) (get_or weights (n - 1) 0 + weight)) (set weights n weight)

-- a balance whose returns are to be grouped, sorted by factor
pub record Grouping (c : Terms) (rs : Returns) (balance stride : ℕ) : Type 0 where
  pub returns : Ordered rs
  pub balance_is : balance ≤ top_most
  pub stride_is : stride ≤ top_most + 1

-- the start of a row of the layer
pub record RowStart (top stride x : ℕ) : Type 0 where
  pub account : ℕ
  pub within : account ≤ top
  pub start : x ≡ account * stride

-- WHAT THE GROUPS ARE: every sum over the rows is that of the returns; each row has one group, from the lowest account up, before
-- those of weight 0 that make their number a multiple of eight
pub record Grouped (c : Terms) (rs : Returns) (balance stride : ℕ) (starts weights : List ℕ) (count paid : ℕ) : Type 0 where
  pub few : count ≤ 64
  pub some : 8 ≤ count
  pub eights : count % 8 ≡ 0
  pub paid_is : paid ≡ paid_sum c rs balance
  pub sums : (f : ℕ → ℕ)
      → sum (λ g. get_or weights g 0 * f (get_or starts g 0)) count ≡ sum (λ k. rs.weight k * f (start_held c rs balance stride k)) rs.count
  pub rows : (g : ℕ) → g < count → RowStart c.top stride (get_or starts g 0)
  pub rising : (g h : ℕ) → g < h → h < count → 0 < get_or weights h 0 → get_or starts g 0 < get_or starts h 0
