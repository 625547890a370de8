-- Values, amounts and accounts of an accepted contract fit the widths of the slices. Assumes nothing.
use Rattle.std.specs.Prelude.{◌≡◌, ℕ, suc, ◌+◌, ◌-◌, ◌*◌, ◌^◌, ◌≤◌, ◌<◌, T}
use Rattle.std.proofs.Common.{ap, ◌∙◌, mul-le-mul, mul-le-mul_left, mul-le-mul_right, mul_comm, mul_assoc, arith}
use Rattle.std.proofs.Math.Nat.{le_trans, div-le_of_le-mul, sub-le-sub_left, max-le, min-le_left}
use Rattle.decision.specs.Index.{weighted_le}
use Rattle.decision.specs.Process.{reached, Table, table_value, start_table_value, Decides}
use Rattle.decision.proofs.Optimal.{recorded_best}
use Rattle.decision.proofs.Bounds.{value_bounded, start_bounded, table_bounded, start_table_bounded}
use Rattle.rules.specs.Contract.{Terms, Returns, Rates, top_most, dates_most, factor_most, discount_most, weight_total}
use Rattle.rules.specs.Date.{Behaviour, dynamic, lifted_account, next_account, excess_paid, maturity_value, discounted}
use Rattle.rules.specs.Product.{state_value, recorded_amount, contract_value}
use Rattle.rules.specs.FixedTerm.{State, Held, InRange, free_in, admissible_in, rate_in, cash_in, after_in, reach_by, paid_by, death_by}
use Rattle.rules.specs.FixedTerm.{mean_by_list, held_by_list, held_by_account, process_of, fixed_term}
use Rattle.rules.proofs.ByList.{mean_by_list_lem}
use Rattle.laws.specs.Accepted.{Valid, ValidReturns, ValidInput}
use Rattle.laws.specs.Date.{admits_within, amount_most_lem, excess_paid_le, period_le, share_le, death_le}
use Rattle.laws.specs.FixedTerm.{opened, closed}
use Rattle.laws.specs.Terms.{start_held}

-- a discounted average is at most the largest value reached
pub discounted_average : (d s x : ℕ) → d ≤ discount_most → s ≤ weight_total * x → discounted d s ≤ x
unfolding discounted
discounted_average d s x h l = div-le_of_le-mul 10000000000 (le_trans (mul-le-mul h l) (omega arith))

pub mean_le : {c : Terms} {rs : Returns} {f : ℕ → ℕ} (x : ℕ) → Valid c → ValidReturns rs → ((k : ℕ) → k < rs.count → f k ≤ x)
    → mean_by_list c rs f ≤ x
unfolding mean_by_list
mean_le {c} {rs} x v r h = discounted_average c.discount _ x v.discount (weighted_le rs.weight _ rs.count r.total h)

-- what no state's value passes on date i: 10,000 × top at maturity, and 20,000 × top for each decision to come with the arrival
-- after it
abbrev pub state_most : Terms → ℕ → ℕ
state_most c i = 10000 * c.top + (c.dates - i) * (20000 * c.top)

-- what no value reached passes, nor a contract's: for each period 10,000 × the most that a factor makes of top
abbrev pub value_most : Terms → ℕ
value_most c = factor_most * (c.top * c.dates)

-- .. of the largest contract: the bound on an entry of a working slice
abbrev pub entry_most : ℕ
entry_most = factor_most * (top_most * dates_most)

pub value_most_lem : {c : Terms} → Valid c → value_most c ≤ entry_most
value_most_lem v = mul-le-mul_left factor_most (mul-le-mul v.top v.dates)

-- with what is paid on arrival, a value is within them, from date 1 on
pub value_room : (c : Terms) → Valid c → (i : ℕ) → 1 ≤ i → 20000 * c.top + state_most c i ≤ value_most c
value_room c v i l =
    let fewer = mul-le-mul_right (20000 * c.top) (sub-le-sub_left l c.dates) in
    let n : c.dates ≡ suc (c.dates - 1) = omega (arith, v.dates_least) in
    let e : c.top * c.dates ≡ (c.dates - 1) * c.top + c.top =
    ap (λ (x : ℕ). c.top * x) n ∙ (let z = mul_comm c.top (c.dates - 1) in omega arith) in
    omega (arith, mul_assoc (c.dates - 1) 20000 c.top, mul_comm (c.dates - 1) 20000)

-- admissible amounts are at most top
pub amount_le : {c : Terms} → Valid c → (b : Behaviour) (s : State) (t : ℕ) → InRange c s → T (admissible_in c b s t) → t ≤ c.top
unfolding admissible_in free_in
amount_le {c} v b s t g p = amount_most_lem c.level g.account (le_trans g.guarantee v.premium) (admits_within b _ _ t p)

-- .. and what a state pays at maturity is at most 10,000 × top
pub ends : {c : Terms} → Valid c → (s : State) → InRange c s → maturity_value s.account s.guarantee ≤ 10000 * c.top
unfolding maturity_value
ends v s g = mul-le-mul_left 10000 (max-le g.account (le_trans g.guarantee v.premium))

-- amounts and accounts fit 16 bits
pub amount_fits : {c : Terms} → Valid c → (b : Behaviour) (s : State) (t : ℕ) → InRange c s → T (admissible_in c b s t) → t < 2 ^ 16
amount_fits v b s t g p = let l = amount_le v b s t g p in omega (arith, v.top)

pub account_fits : {c : Terms} → Valid c → (rs : Returns) (h : Held) (k : ℕ) → (reach_by c rs h k).account < 2 ^ 16
unfolding reach_by next_account
account_fits {c} v rs h k = let l = min-le_left c.top (lifted_account c.fee h.balance (rs.factor k)) in omega (arith, v.top)

module _ (c : Terms) (rs : Returns) (ds : Rates) (v : ValidInput c rs ds) where
  -- what is withdrawn, with what is paid on the arrival after it
  arrives : (b : Behaviour) (i : ℕ) (s : State) (t k : ℕ) → InRange c s → T (admissible_in c b s t) → k < rs.count
      → (process_of c rs ds).cash i s t + (process_of c rs ds).paid ((process_of c rs ds).after i s t) k ≤ 20000 * c.top
  unfolding process_of cash_in after_in paid_by
  arrives b i s t k g p l =
      period_le (rate_in c i) (free_in c s) c.fee c.top s.account t (rs.factor k) g.account (amount_le v.terms b s t g p)
      (v.returns.factor k l)

  -- what the first return pays on arrival
  starts : (k : ℕ) → k < rs.count → (process_of c rs ds).paid (start_held c) k ≤ 20000 * c.top
  unfolding process_of paid_by
  starts k l = excess_paid_le c.fee c.top c.premium (rs.factor k) v.terms.premium (v.returns.factor k l)

  -- a death pays no more than 10,000 × top, with what is paid on arrival
  dies : (h : Held) (k x : ℕ) → InRange c (reach_by c rs h k) → paid_by c rs h k + 10000 * c.top ≤ x → death_by c rs h k ≤ x
  unfolding death_by reach_by paid_by excess_paid
  dies h k x g room = le_trans (death_le _ _ _ c.top g.account (le_trans g.guarantee v.terms.premium)) room

  within : (i : ℕ) (h : Held) (x : State → ℕ) (y : ℕ) → ((k : ℕ) → k < rs.count → InRange c (reach_by c rs h k))
      → ((k : ℕ) → k < rs.count → paid_by c rs h k + 10000 * c.top ≤ y)
      → ((k : ℕ) → k < rs.count → reached (process_of c rs ds) x h k ≤ y) → held_by_account c rs ds i h x ≤ y
  unfolding held_by_list
  within i h x y range room g =
      rw (mean_by_list_lem c rs ds i h x)
      (mean_le y v.terms v.returns (λ k l. share_le y (v.rates.rate i) (g k l) (dies h k y (range k l) (room k l))))

  -- a state's value is at most a bound in N and top
  pub state_value_le : (b : Behaviour) (i : ℕ) (s : State) → InRange c s → state_value (fixed_term c rs ds) b i s ≤ state_most c i
  unfolding state_value fixed_term process_of
  state_value_le b =
      value_bounded (process_of c rs ds) (admissible_in c b) (opened c rs ds b) (InRange c) (closed c rs ds b) (10000 * c.top)
      (20000 * c.top)
      (ends v.terms) v.returns.count_least (arrives b) starts within

  -- .. also where a table is followed
  pub table_value_le : (d : Table State)
      → ((i : ℕ) (s : State) → Decides (process_of c rs ds) (InRange c) i s → T (admissible_in c dynamic s (d i s)))
      → (i : ℕ) (s : State) → 1 ≤ i → i ≤ c.dates → InRange c s
      → table_value (process_of c rs ds) d i s ≤ state_most c i
  unfolding process_of
  table_value_le d admits i s l m g =
      table_bounded (process_of c rs ds) (admissible_in c dynamic) (opened c rs ds dynamic) (InRange c) (closed c rs ds dynamic)
      (10000 * c.top)
      (20000 * c.top) (ends v.terms) v.returns.count_least (arrives dynamic) starts within d admits i s l m g

  -- the contract's, with what the first return pays on arrival
  pub contract_value_le : (b : Behaviour) → contract_value (fixed_term c rs ds) b ≤ 20000 * c.top + state_most c 1
  unfolding contract_value fixed_term process_of
  contract_value_le b =
      start_bounded (process_of c rs ds) (admissible_in c b) (opened c rs ds b) (InRange c) (closed c rs ds b) (10000 * c.top)
      (20000 * c.top)
      (ends v.terms) v.returns.count_least (arrives b) starts within

  pub table_start_le : (d : Table State)
      → ((i : ℕ) (s : State) → Decides (process_of c rs ds) (InRange c) i s → T (admissible_in c dynamic s (d i s)))
      → start_table_value (process_of c rs ds) d ≤ 20000 * c.top + state_most c 1
  unfolding process_of
  table_start_le d admits =
      start_table_bounded (process_of c rs ds) (admissible_in c dynamic) (opened c rs ds dynamic) (InRange c) (closed c rs ds dynamic)
      (10000 * c.top) (20000 * c.top) (ends v.terms) v.returns.count_least (arrives dynamic) starts within d admits
      v.terms.dates_least

  pub recorded_fits : (b : Behaviour) (i : ℕ) (s : State) → i < c.dates → InRange c s → recorded_amount (fixed_term c rs ds) b i s < 2 ^ 16
  unfolding recorded_amount fixed_term process_of
  recorded_fits b i s l g =
      amount_fits v.terms b s _ g (recorded_best (process_of c rs ds) (admissible_in c b) (opened c rs ds b) i s l).passes
