-- Document 02 (v): "Zero rates, as the program uses, give the earlier values"; where the holder is sure to die in the first period
-- the behaviour does not matter. Assumes nothing.
use Rattle.std.specs.Prelude.{List, ◌≡◌, refl, ℕ, zero, suc, ◌+◌, ◌*◌, get_or, replicate}
use Rattle.std.proofs.Common.{ap, ◌∙◌, arith}
use Rattle.decision.specs.Process.{reached, start_value, start_table_value}
use Rattle.rules.specs.Contract.{Terms, Returns, Rates, word, terms_of, returns_of, rate_bytes, rates_of}
use Rattle.rules.specs.Date.{Behaviour, death_payment, death_share}
use Rattle.rules.specs.Product.{Product, state_value, contract_value, value_layer, amount_layers, supplied_value, supplied_layer}
use Rattle.rules.specs.FixedTerm.{State, Held, death_by, mean_by_list, held_by_list, mean_by_account, value_with, held_by_account}
use Rattle.rules.specs.FixedTerm.{process_of, fixed_term}
use Rattle.rules.proofs.ByList.{mean_by_list_lem}
use Rattle.rules.specs.Refusals.{verdict, on_success, record_checks}
use Rattle.rules.specs.Printed.{zero_rate_bytes, program_of}
use Rattle.laws.specs.Date.{share_living, share_certain}
use Rattle.laws.specs.Terms.{start_held, living_term}

-- a product that expects and averages by other rules, and is the same in all else
abbrev pub expecting : {S H : Type 0} → (ℕ → H → (ℕ → ℕ) → ℕ) → (ℕ → H → (S → ℕ) → ℕ) → Product S H → Product S H
expecting expects means X = record {
  process = record {
    dates = X.process.dates;
    start = X.process.start;
    returns = X.process.returns;
    limit = X.process.limit;
    cash = X.process.cash;
    after = X.process.after;
    reach = X.process.reach;
    paid = X.process.paid;
    by_list = expects;
    by_state = means;
    final = X.process.final;
  };
  admissible = X.admissible;
  surrender = X.surrender;
  layout = X.layout;
}

-- the contract without death, as it is up to (iv)
unfoldable pub deathless : Terms → Returns → Product State Held
deathless c rs =
    expecting (λ i h. mean_by_list c rs)
    (λ i h v. mean_by_account c rs h.balance (λ w over. 10000 * over + v (record { account = w; guarantee = h.guarantee })))
    (living_term c rs)

-- ---- zero rates
module _ (c : Terms) (rs : Returns) (ds : Rates) (none : (i : ℕ) → ds i ≡ 0) where
  shared_none : (i value payment : ℕ) → death_share (ds i) value payment ≡ value
  shared_none i value payment = ap (λ (r : ℕ). death_share r value payment) (none i) ∙ share_living value payment

  -- the whole product, so all that is said of it
  pub zero_rates_lem : fixed_term c rs ds ≡ deathless c rs
  unfolding fixed_term process_of held_by_list held_by_account value_with deathless
  zero_rates_lem j =
      expecting (λ i h x. mean_by_list c rs (λ k. shared_none i (x k) (death_by c rs h k) j))
      (λ i h v. mean_by_account c rs h.balance (λ w over.
      shared_none i (10000 * over + v (record { account = w; guarantee = h.guarantee })) (death_payment w h.guarantee over) j))
      (living_term c rs)

  -- values: of the contract, of every state, of the first layer left
  pub zero_rates_value : (b : Behaviour) → contract_value (fixed_term c rs ds) b ≡ contract_value (deathless c rs) b
  zero_rates_value b = ap (λ (X : Product State Held). contract_value X b) zero_rates_lem

  pub zero_rates_state : (b : Behaviour) (i : ℕ) (s : State) → state_value (fixed_term c rs ds) b i s ≡ state_value (deathless c rs) b i s
  zero_rates_state b i s = ap (λ (X : Product State Held). state_value X b i s) zero_rates_lem

  pub zero_rates_layer : (b : Behaviour) → value_layer (fixed_term c rs ds) b ≡ value_layer (deathless c rs) b
  zero_rates_layer b = ap (λ (X : Product State Held). value_layer X b) zero_rates_lem

  -- the table
  pub zero_rates_table : (b : Behaviour) → amount_layers (fixed_term c rs ds) b ≡ amount_layers (deathless c rs) b
  zero_rates_table b = ap (λ (X : Product State Held). amount_layers X b) zero_rates_lem

  -- a supplied table
  pub zero_rates_supplied : (table : List ℕ) → supplied_value (fixed_term c rs ds) table ≡ supplied_value (deathless c rs) table
  zero_rates_supplied table = ap (λ (X : Product State Held). supplied_value X table) zero_rates_lem

  pub zero_rates_supplied_layer : (table : List ℕ) → supplied_layer (fixed_term c rs ds) table ≡ supplied_layer (deathless c rs) table
  zero_rates_supplied_layer table = ap (λ (X : Product State Held). supplied_layer X table) zero_rates_lem

-- .. as zero bytes are
get_d_zeros : (n i : ℕ) → ◌≡◌ {A = ℕ} (get_or (replicate n 0) i 0) 0
get_d_zeros zero i = refl
get_d_zeros (suc n) zero = refl
get_d_zeros (suc n) (suc i) = get_d_zeros n i

pub zero_bytes : (n i : ℕ) → rates_of (replicate n 0) i ≡ 0
unfolding rates_of word
zero_bytes n i = let low = get_d_zeros n (2 * i) in let high = get_d_zeros n (2 * i + 1) in omega arith

-- .. and the program's
pub program_deathless : (bytes list : List ℕ) → (program_of bytes list).product ≡ deathless (terms_of bytes) (returns_of list)
unfolding zero_rate_bytes
program_deathless bytes list =
    zero_rates_lem (terms_of bytes) (returns_of list) _ (zero_bytes
    (on_success (verdict (record_checks bytes)) (rate_bytes * (terms_of bytes).dates) 0))

-- ---- a rate of 10,000 on the first period: the discounted mean of the death payments, whatever is withdrawn later
settled : (c : Terms) (rs : Returns) (ds : Rates) → ds 0 ≡ 10000 → (v : State → ℕ)
    → held_by_account c rs ds 0 (start_held c) v ≡ mean_by_list c rs (death_by c rs (start_held c))
unfolding held_by_list
settled c rs ds sure v =
    let h = start_held c in
    mean_by_list_lem c rs ds 0 h v
    ∙ (λ j. mean_by_list c rs (λ k.
    (ap (λ (r : ℕ). death_share r (reached (process_of c rs ds) v h k) (death_by c rs h k)) sure ∙ share_certain _ _) j))

module _ (c : Terms) (rs : Returns) (ds : Rates) (sure : ds 0 ≡ 10000) where
  certain : (value payment : ℕ) → death_share (ds 0) value payment ≡ payment
  certain value payment = ap (λ (r : ℕ). death_share r value payment) sure ∙ share_certain value payment

  only_death : (v : State → ℕ) → held_by_account c rs ds 0 (start_held c) v ≡ mean_by_list c rs (death_by c rs (start_held c))
  only_death = settled c rs ds sure

  pub certain_death : (b : Behaviour) → contract_value (fixed_term c rs ds) b ≡ mean_by_list c rs (death_by c rs (start_held c))
  unfolding contract_value start_value fixed_term process_of
  certain_death b = settled c rs ds sure _

  pub certain_death_supplied : (table : List ℕ)
      → supplied_value (fixed_term c rs ds) table ≡ mean_by_list c rs (death_by c rs (start_held c))
  unfolding supplied_value start_table_value fixed_term process_of
  certain_death_supplied table = settled c rs ds sure _
