-- The discounted sum for a balance and a guarantee, where v gives the next date's values. Assumes nothing.
use Rattle.std.specs.Prelude.{List, ◌≡◌, ℕ, ◌+◌, ◌*◌, ◌%◌, ◌≤◌, ◌<◌, get_or, length}
use Rattle.std.proofs.Common.{ap, sym, ◌∙◌, le_trans, add-le-add, arith}
use Rattle.decision.specs.Index.{sum, sum_eq, sum_add, weighted_le}
use Rattle.slices.specs.Rows.{cells}
use Rattle.rules.specs.Contract.{Terms, Returns, returns_of, rate_most, weight_total, weight_most, returns_most}
use Rattle.rules.specs.Date.{next_account, excess_paid, death_payment, death_share, discounted}
use Rattle.rules.specs.FixedTerm.{mean_by_list, mean_by_account, layer_size}
use Rattle.rules.proofs.ByList.{by_account_is_by_list}
use Rattle.laws.specs.Accepted.{Valid, ValidReturns}
use Rattle.laws.specs.Date.{account_le, excess_paid_le, shared}
use Rattle.laws.specs.ByList.{mean_by_account_same}
use Rattle.laws.specs.Bounds.{mean_le, state_most, value_room, value_most_lem, entry_most}
use Rattle.laws.specs.Narrow.{low_most}
use Rattle.returns.specs.Grouped.{paid_sum}
use Rattle.returns.specs.declared.Groups.{Groups}

-- account by account
unfoldable pub expected : Terms → Returns → (ℕ → ℕ → ℕ) → ℕ → ℕ → ℕ
expected c rs v balance a = mean_by_account c rs balance (λ w over. 10000 * over + v w a)

-- the value that return k reaches, with what it pays on arrival
abbrev pub reached_from : Terms → Returns → (ℕ → ℕ → ℕ) → ℕ → ℕ → ℕ → ℕ
reached_from c rs v balance a k =
    excess_paid c.fee c.top balance (rs.factor k) + v (next_account c.fee c.top balance (rs.factor k)) a

-- return by return
pub expected_listed : (c : Terms) (rs : Returns) (v : ℕ → ℕ → ℕ) (balance a : ℕ)
    → expected c rs v balance a ≡ mean_by_list c rs (reached_from c rs v balance a)
unfolding expected mean_by_account mean_by_list excess_paid
expected_listed c rs v balance a = ap (discounted c.discount) (by_account_is_by_list c rs balance (λ w over. 10000 * over + v w a))

-- a sum as the second layer holds it: times 8,192, so that it can be added to a key, which holds an amount below 8,192 beside a value
abbrev pub scaled : (ℕ → ℕ → ℕ) → ℕ → ℕ → ℕ
scaled e balance a = 8192 * e balance a

-- the two parts of its sum: what the returns pay on arrival, and the values of the states that they lead to
unfoldable pub state_sum : Terms → Returns → (ℕ → ℕ → ℕ) → ℕ → ℕ → ℕ
state_sum c rs v balance a = sum (λ k. rs.weight k * v (next_account c.fee c.top balance (rs.factor k)) a) rs.count

pub two_sums : (c : Terms) (rs : Returns) (v : ℕ → ℕ → ℕ) (balance a : ℕ)
    → paid_sum c rs balance + state_sum c rs v balance a ≡ sum (λ k. rs.weight k * reached_from c rs v balance a k) rs.count
unfolding paid_sum state_sum
two_sums c rs v balance a = sym (sum_eq _ _ rs.count (λ k l. omega arith) ∙ sum_add _ _ rs.count)

-- ---- what the loops hand to each other: k is the number of a group of returns
-- weight × value in the row that starts at the k-th start
abbrev pub term : List ℕ → Groups → ℕ → ℕ → ℕ
term work gs a k = get_or gs.weights k 0 * get_or work (get_or gs.starts k 0 + a) 0

-- what no product of a weight and a value of a layer passes, which has 32 bits
abbrev pub product_most : ℕ
product_most = weight_most * low_most

-- the value that group k reaches with guarantee a: in the slice, and of 32 bits
pub record Reached (work : List ℕ) (gs : Groups) (a k : ℕ) : Type 0 where
  pub light : get_or gs.weights k 0 ≤ weight_most
  pub within : get_or gs.starts k 0 + a < length work
  pub small : get_or work (get_or gs.starts k 0 + a) 0 ≤ low_most

-- n guarantees, from `from` on, over the first groups
pub record Run (work : List ℕ) (gs : Groups) (count from n : ℕ) : Type 0 where
  pub few : count ≤ returns_most
  pub short : n ≤ 512
  pub reached : (k j : ℕ) → k < count → j < n → Reached work gs (from + j) k

-- n sums to which group k is to be added
pub record Adding (sums : List ℕ) (n k : ℕ) : Type 0 where
  pub small : (j : ℕ) → j < n → get_or sums j 0 ≤ product_most * (k + 1)

-- the sums of n guarantees over the first k groups, with what is paid on arrival
pub record Summed (work : List ℕ) (gs : Groups) (sums : List ℕ) (from n k : ℕ) : Type 0 where
  pub each : (j : ℕ) → j < n → get_or sums j 0 ≡ gs.paid + sum (term work gs (from + j)) k

-- groups that are added eight at a time
pub record Eights (count : ℕ) : Type 0 where
  pub some : 8 ≤ count
  pub whole : count % 8 ≡ 0

-- a row to be filled at `to`, from rows that lie before it
pub record Row (work : List ℕ) (gs : Groups) (most to stride : ℕ) : Type 0 where
  pub eights : Eights gs.count
  pub most_is : most ≤ low_most
  pub paid_small : gs.paid ≤ product_most
  pub sums_small : gs.paid + weight_total * most ≤ weight_total * entry_most
  pub total : sum (λ k. get_or gs.weights k 0) gs.count ≡ weight_total
  pub light : (k : ℕ) → k < gs.count → get_or gs.weights k 0 ≤ weight_most
  pub small : (k a : ℕ) → k < gs.count → a < stride → get_or work (get_or gs.starts k 0 + a) 0 ≤ most
  pub below : (k : ℕ) → k < gs.count → get_or gs.starts k 0 + stride ≤ to
  pub room : to + stride ≤ length work

-- a slice with room for two layers
pub record Layers (c : Terms) (work : List ℕ) : Type 0 where
  pub valid : Valid c
  pub room : layer_size c + layer_size c ≤ length work

-- no value of the first layer is above `most`
abbrev pub Within : Terms → List ℕ → ℕ → Type 0
Within c work most = (w a : ℕ) → w ≤ c.top → a ≤ c.premium → cells work 0 (c.premium + 1) w a ≤ most

-- .. which holds the values of date i + 1
pub record Values (c : Terms) (i : ℕ) (work : List ℕ) : Type 0 where
  pub layers : Layers c work
  pub small : Within c work (state_most c (i + 1))

-- .. and those of date 1, before the first return, whose period has this death rate
pub record Starting (c : Terms) (rate : ℕ) (work list : List ℕ) : Type 0 where
  pub returns : ValidReturns (returns_of list)
  pub rate_is : rate ≤ rate_most
  pub first : Values c 0 work

-- a balance whose row is to be filled, over the values of date i + 1
pub record Balance (c : Terms) (i : ℕ) (rs : Returns) (work : List ℕ) (discount most balance stride size : ℕ) : Type 0 where
  pub returns : ValidReturns rs
  pub layers : Layers c work
  pub discount_is : discount ≡ c.discount
  pub most_is : most ≡ state_most c (i + 1)
  pub small : Within c work most
  pub balance_is : balance ≤ c.top
  pub stride_is : stride ≡ c.premium + 1
  pub size_is : size ≡ (c.top + 1) * stride

-- what is paid on arrival is on average at most 20,000 × top
pub paid_sum_le : (c : Terms) (rs : Returns) (balance : ℕ) → ValidReturns rs → balance ≤ c.top
    → paid_sum c rs balance ≤ weight_total * (20000 * c.top)
unfolding paid_sum
paid_sum_le c rs balance returns h =
    weighted_le rs.weight _ rs.count returns.total (λ k l.
    excess_paid_le c.fee c.top balance (rs.factor k) h (returns.factor k l))

-- a discounted sum over the values of date i + 1 is within the bound on an entry
pub expected_le : (c : Terms) (rs : Returns) (v : ℕ → ℕ → ℕ) (i balance a : ℕ) → Valid c → ValidReturns rs → balance ≤ c.top
    → ((w : ℕ) → w ≤ c.top → v w a ≤ state_most c (i + 1)) → expected c rs v balance a ≤ entry_most
expected_le c rs v i balance a valid returns top h =
    let room = le_trans (value_room c valid (i + 1) (omega arith)) (value_most_lem valid) in
    rw (expected_listed c rs v balance a)
    (mean_le entry_most valid returns (λ k l.
    let paid = excess_paid_le c.fee c.top balance (rs.factor k) top (returns.factor k l) in
    le_trans (add-le-add paid (h _ (account_le c.fee c.top balance (rs.factor k)))) room))

-- only the values that it can reach count
pub expected_same : (c : Terms) (rs : Returns) (v v' : ℕ → ℕ → ℕ) (balance a : ℕ) → ((w : ℕ) → w ≤ c.top → v w a ≡ v' w a)
    → expected c rs v balance a ≡ expected c rs v' balance a
unfolding expected
expected_same c rs v v' balance a h = mean_by_account_same c rs balance (λ w over l. ap (λ (z : ℕ). 10000 * over + z) (h w l))

pub shared_same : (c : Terms) (rs : Returns) (rate : ℕ) (v v' : ℕ → ℕ → ℕ) (balance a : ℕ) → ((w : ℕ) → w ≤ c.top → v w a ≡ v' w a)
    → expected c rs (shared rate v) balance a ≡ expected c rs (shared rate v') balance a
shared_same c rs rate v v' balance a h =
    expected_same c rs _ _ balance a (λ w l. ap (λ (z : ℕ). death_share rate z (death_payment w a 0)) (h w l))
