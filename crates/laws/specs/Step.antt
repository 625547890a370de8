-- Document 02 (i): what the penalty step does to the rate, and "A step of zero gives the old figures." Assumes nothing.
use Rattle.std.specs.Prelude.{List, ◌++◌, ◌≡◌, ℕ, suc, ◌-◌, ◌*◌, ◌≤◌}
use Rattle.std.proofs.Common.{ap, ◌∙◌, le_refl, sub-le, mul-le-mul, arith}
use Rattle.std.proofs.Math.Nat.{sub-le-sub_left}
use Rattle.rules.specs.Contract.{Terms, Returns, Rates, bytes_of}
use Rattle.rules.specs.Date.{Behaviour, free_amount, rate_on, penalty, cash, guarantee_after, balance_after}
use Rattle.rules.specs.Product.{Product, state_value, contract_value, value_layer, amount_layers, supplied_value, supplied_layer, walk_cash}
use Rattle.rules.specs.FixedTerm.{State, Held, free_in, rate_in, cash_in, process_of, fixed_term}
use Rattle.rules.specs.Booking.{booking_bytes}

-- ---- the rate
-- date 1 has the record's own rate
pub rate_first : (rate step : ℕ) → rate_on rate step 1 ≡ rate
unfolding rate_on
rate_first rate step = omega arith

-- the rate never rises from a date to the next
pub rate_falls : (rate step i : ℕ) → rate_on rate step (suc i) ≤ rate_on rate step i
unfolding rate_on
rate_falls rate step i =
    let l : (i - 1) * step ≤ (suc i - 1) * step = mul-le-mul (omega arith) (le_refl step) in
    sub-le-sub_left l rate

-- .. so no date has more than the record's
pub rate_le : (rate step i : ℕ) → rate_on rate step i ≤ rate
unfolding rate_on
rate_le rate step i = sub-le _ _

-- with step 0 it is the record's on every date
pub rate_zero : (rate i : ℕ) → rate_on rate 0 i ≡ rate
unfolding rate_on
rate_zero rate i = omega arith

-- ---- "A step of zero gives the old figures."
-- a product whose amounts pay by another rule, and is the same in all else
abbrev pub paying : {S H : Type 0} → (ℕ → S → ℕ → ℕ) → Product S H → Product S H
paying pays X = record {
  process = record {
    dates = X.process.dates;
    start = X.process.start;
    returns = X.process.returns;
    limit = X.process.limit;
    cash = pays;
    after = X.process.after;
    reach = X.process.reach;
    paid = X.process.paid;
    by_list = X.process.by_list;
    by_state = X.process.by_state;
    final = X.process.final;
  };
  admissible = X.admissible;
  surrender = X.surrender;
  layout = X.layout;
}

-- the contract with one penalty rate, the record's, on every date, as document 01 has it
unfoldable pub one_rate : Terms → Returns → Rates → Product State Held
one_rate c rs ds = paying (λ i s t. cash c.penalty (free_in c s) t) (fixed_term c rs ds)

rate_is : (c : Terms) → c.step ≡ 0 → (i : ℕ) → rate_in c i ≡ c.penalty
rate_is c none i = ap (λ (s : ℕ). rate_on c.penalty s i) none ∙ rate_zero c.penalty i

module _ (c : Terms) (rs : Returns) (ds : Rates) (none : c.step ≡ 0) where
  -- the whole product, so all that is said of it
  pub step_zero : fixed_term c rs ds ≡ one_rate c rs ds
  unfolding fixed_term process_of cash_in one_rate
  step_zero j = paying (λ i s t. cash (rate_is c none i j) (free_in c s) t) (fixed_term c rs ds)

  -- values: of the contract, of every state, of the first layer left
  pub step_zero_value : (b : Behaviour) → contract_value (fixed_term c rs ds) b ≡ contract_value (one_rate c rs ds) b
  step_zero_value b = ap (λ (X : Product State Held). contract_value X b) step_zero

  pub step_zero_state : (b : Behaviour) (i : ℕ) (s : State) → state_value (fixed_term c rs ds) b i s ≡ state_value (one_rate c rs ds) b i s
  step_zero_state b i s = ap (λ (X : Product State Held). state_value X b i s) step_zero

  pub step_zero_layer : (b : Behaviour) → value_layer (fixed_term c rs ds) b ≡ value_layer (one_rate c rs ds) b
  step_zero_layer b = ap (λ (X : Product State Held). value_layer X b) step_zero

  -- the table
  pub step_zero_table : (b : Behaviour) → amount_layers (fixed_term c rs ds) b ≡ amount_layers (one_rate c rs ds) b
  step_zero_table b = ap (λ (X : Product State Held). amount_layers X b) step_zero

  -- a supplied table
  pub step_zero_supplied : (table : List ℕ) → supplied_value (fixed_term c rs ds) table ≡ supplied_value (one_rate c rs ds) table
  step_zero_supplied table = ap (λ (X : Product State Held). supplied_value X table) step_zero

  pub step_zero_supplied_layer : (table : List ℕ) → supplied_layer (fixed_term c rs ds) table ≡ supplied_layer (one_rate c rs ds) table
  step_zero_supplied_layer table = ap (λ (X : Product State Held). supplied_layer X table) step_zero

  -- a walk
  pub step_zero_walk : (table path : List ℕ) → walk_cash (fixed_term c rs ds) table path ≡ walk_cash (one_rate c rs ds) table path
  step_zero_walk table path = ap (λ (X : Product State Held). walk_cash X table path) step_zero

-- a booking
pub step_zero_booking : (c : Terms) → c.step ≡ 0 → (date w a t : ℕ)
    → booking_bytes c date w a t
    ≡ bytes_of 4 (cash c.penalty (free_amount c.level a) t)
    ++ bytes_of 4 (penalty c.penalty (free_amount c.level a) t)
    ++ bytes_of 2 (balance_after w t)
    ++ bytes_of 2 (guarantee_after (free_amount c.level a) w a t)
    ++ bytes_of 4 0
unfolding booking_bytes
step_zero_booking c none date w a t = rw (rate_is c none date)
