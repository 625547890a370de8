-- The best of a date over the next date's values is the rules' value and recorded amount. Assumes nothing.
use Rattle.std.specs.Prelude.{List, ◌≡◌, ℕ, suc, ◌+◌, ◌-◌, ◌*◌, ◌≤◌, ◌<◌, length, get_or}
use Rattle.std.proofs.Common.{sym, ◌∙◌}
use Rattle.decision.specs.Process.{worth, recorded}
use Rattle.decision.proofs.Optimal.{value_step, value_last}
use Rattle.slices.specs.Rows.{cells}
use Rattle.rules.specs.Contract.{Terms, Returns, Rates, rate_most}
use Rattle.rules.specs.Date.{Behaviour, maturity_value}
use Rattle.rules.specs.Product.{state_value, recorded_amount}
use Rattle.laws.specs.Accepted.{ValidInput}
use Rattle.laws.specs.Date.{share_excess, shared}
use Rattle.laws.specs.ByList.{mean_by_account_same}
use Rattle.laws.specs.Bounds.{state_most, state_value_le}
use Rattle.rules.specs.FixedTerm.{State, free_in, admissible_in, rate_in, cash_in, after_in, value_with, held_by_account, process_of}
use Rattle.rules.specs.FixedTerm.{layer_size, fixed_term}
use Rattle.expect.specs.Expected.{expected}
use Rattle.worth.specs.Worth.{worth_over, best_value, best_amount, value_same, amount_same}

abbrev pub at : ℕ → ℕ → State
at w a = record { account = w; guarantee = a }

-- the values of date i by account and guarantee
abbrev pub values_on : Terms → Returns → Rates → Behaviour → ℕ → ℕ → ℕ → ℕ
values_on c rs ds b i w a = state_value (fixed_term c rs ds) b i (at w a)

-- the discounted sum of the rules, over values v of the next date
abbrev pub expected_on : Terms → Returns → Rates → ℕ → (State → ℕ) → ℕ → ℕ → ℕ
expected_on c rs ds i v balance a = held_by_account c rs ds i (record { balance = balance; guarantee = a }) v

-- SHARED ONCE: the share of a value that is reached is the excess and the share of the state's value, so the sum is one over states
-- that were shared before
pub shared_expects : (c : Terms) (rs : Returns) (ds : Rates) (i : ℕ) (v : State → ℕ) (balance a : ℕ) → ds i ≤ rate_most
    → expected_on c rs ds i v balance a ≡ expected c rs (shared (ds i) (λ (x y : ℕ). v (at x y))) balance a
unfolding held_by_account value_with expected
shared_expects c rs ds i v balance a small = mean_by_account_same c rs balance (λ w over l. share_excess (ds i) w a over (v (at w a)) small)

pub value_back : (c : Terms) (rs : Returns) (ds : Rates) (b : Behaviour) (i w a : ℕ) → ds i ≤ rate_most → i < c.dates
    → best_value b (expected c rs (shared (ds i) (values_on c rs ds b (suc i)))) (rate_in c i) c.level w a ≡ values_on c rs ds b i w a
unfolding state_value fixed_term process_of admissible_in free_in cash_in after_in worth best_value worth_over
value_back c rs ds b i w a small l =
    value_same b _ (expected_on c rs ds i (state_value (fixed_term c rs ds) b (suc i))) (rate_in c i) c.level w a (λ x y p q.
    sym (shared_expects c rs ds i _ x y small))
    ∙ sym (value_step (process_of c rs ds) (admissible_in c b) i (at w a) l)

pub amount_back : (c : Terms) (rs : Returns) (ds : Rates) (b : Behaviour) (i w a : ℕ) → ds i ≤ rate_most
    → best_amount b (expected c rs (shared (ds i) (values_on c rs ds b (suc i)))) (rate_in c i) c.level w a
    ≡ recorded_amount (fixed_term c rs ds) b i (at w a)
unfolding state_value recorded_amount recorded fixed_term process_of admissible_in free_in cash_in after_in worth best_amount worth_over
amount_back c rs ds b i w a small =
    amount_same b _ (expected_on c rs ds i (state_value (fixed_term c rs ds) b (suc i))) (rate_in c i) c.level w a (λ x y p q.
    sym (shared_expects c rs ds i _ x y small))

pub maturity_is : (c : Terms) (rs : Returns) (ds : Rates) (b : Behaviour) (w a : ℕ) → values_on c rs ds b c.dates w a ≡ maturity_value w a
unfolding state_value fixed_term process_of
maturity_is c rs ds b w a = value_last (process_of c rs ds) (admissible_in c b) (at w a)

-- no value is above what a contract's values can be
pub values_most : (c : Terms) (rs : Returns) (ds : Rates) (b : Behaviour) → ValidInput c rs ds
    → (i w a : ℕ) → w ≤ c.top → a ≤ c.premium → values_on c rs ds b i w a ≤ state_most c i
values_most c rs ds b v i w a h k = state_value_le c rs ds v b i (at w a) (record { account = h; guarantee = k })

-- ---- what the loop over the dates holds: the dates above i are valued, and recorded as far as the table goes
pub record Valued (b : Behaviour) (c : Terms) (rs : Returns) (ds : Rates) (work table work' table' : List ℕ) (i : ℕ) : Type 0 where
  pub long : length work' ≡ length work
  pub long_table : length table' ≡ length table
  pub values : (w a : ℕ) → w ≤ c.top → a ≤ c.premium → cells work' 0 (c.premium + 1) w a ≡ values_on c rs ds b (suc i) w a
  pub amounts : (j w a : ℕ) → i < j → j < c.dates → w ≤ c.top → a ≤ c.premium
      → (j - 1) * layer_size c + (w * (c.premium + 1) + a) < length table
      → get_or table' ((j - 1) * layer_size c + (w * (c.premium + 1) + a)) 0 ≡ recorded_amount (fixed_term c rs ds) b j (at w a)
  pub rest : (x : ℕ) → layer_size c + layer_size c ≤ x → get_or work' x 0 ≡ get_or work x 0
  pub rest_table : (x : ℕ) → (c.dates - 1) * layer_size c ≤ x → get_or table' x 0 ≡ get_or table x 0

pub record Starting (c : Terms) (work : List ℕ) : Type 0 where
  pub room : layer_size c + layer_size c ≤ length work
  pub mature : (w a : ℕ) → w ≤ c.top → a ≤ c.premium → cells work 0 (c.premium + 1) w a ≡ maturity_value w a
