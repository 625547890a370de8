-- Request (vii): "Every value and table is to equal those of the list order." Assumes nothing.
use Rattle.std.specs.Prelude.{List, ◌≡◌, ℕ, suc, ◌+◌, ◌*◌, ◌≤◌}
use Rattle.std.proofs.Math.Path.{ap}
use Rattle.std.proofs.Common.{arith}
use Rattle.std.proofs.Math.Dec.{leb}
use Rattle.decision.specs.Index.{sum_eq, first}
use Rattle.rules.specs.Contract.{Terms, Returns, Rates, rate_most}
use Rattle.rules.specs.Date.{Behaviour, discounted}
use Rattle.rules.specs.Product.{Product, state_value, recorded_amount, contract_value, value_layer, amount_layers, supplied_value}
use Rattle.rules.specs.Product.{supplied_layer}
use Rattle.rules.specs.FixedTerm.{State, Held, weight_to, excess_most, by_account, mean_by_account, fixed_term}
use Rattle.rules.specs.ByList.{listed_term}
use Rattle.rules.proofs.ByList.{listed_contract}
use Rattle.rules.specs.Fee.{fee_sought}
use Rattle.laws.specs.Terms.{with_fee}
use Rattle.laws.specs.Fee.{smallest_fee}

-- only the accounts up to top count
pub mean_by_account_same : (c : Terms) (rs : Returns) (balance : ℕ) {f g : ℕ → ℕ → ℕ} → ((w over : ℕ) → w ≤ c.top → f w over ≡ g w over)
    → mean_by_account c rs balance f ≡ mean_by_account c rs balance g
unfolding mean_by_account by_account
mean_by_account_same c rs balance h =
    ap (discounted c.discount) (sum_eq _ _ (suc c.top) (λ w l. sum_eq _ _ (suc (excess_most c rs balance)) (λ over m.
    ap (λ (x : ℕ). weight_to c rs balance w over * x) (h w over (omega arith)))))

module _ (c : Terms) (rs : Returns) (ds : Rates) where
  -- the whole product, so all that is said of it
  pub by_list_lem : fixed_term c rs ds ≡ listed_term c rs ds
  by_list_lem = ap (λ (F : Terms → Returns → Rates → Product State Held). F c rs ds) listed_contract

  -- values: of the contract, of every state, of the first layer left
  pub by_list_value : (b : Behaviour) → contract_value (fixed_term c rs ds) b ≡ contract_value (listed_term c rs ds) b
  by_list_value b = ap (λ (X : Product State Held). contract_value X b) by_list_lem

  pub by_list_state : (b : Behaviour) (i : ℕ) (s : State) → state_value (fixed_term c rs ds) b i s ≡ state_value (listed_term c rs ds) b i s
  by_list_state b i s = ap (λ (X : Product State Held). state_value X b i s) by_list_lem

  pub by_list_layer : (b : Behaviour) → value_layer (fixed_term c rs ds) b ≡ value_layer (listed_term c rs ds) b
  by_list_layer b = ap (λ (X : Product State Held). value_layer X b) by_list_lem

  -- the amount of every state, and the table
  pub by_list_amount : (b : Behaviour) (i : ℕ) (s : State)
      → recorded_amount (fixed_term c rs ds) b i s ≡ recorded_amount (listed_term c rs ds) b i s
  by_list_amount b i s = ap (λ (X : Product State Held). recorded_amount X b i s) by_list_lem

  pub by_list_table : (b : Behaviour) → amount_layers (fixed_term c rs ds) b ≡ amount_layers (listed_term c rs ds) b
  by_list_table b = ap (λ (X : Product State Held). amount_layers X b) by_list_lem

  -- a supplied table
  pub by_list_supplied : (table : List ℕ) → supplied_value (fixed_term c rs ds) table ≡ supplied_value (listed_term c rs ds) table
  by_list_supplied table = ap (λ (X : Product State Held). supplied_value X table) by_list_lem

  pub by_list_supplied_layer : (table : List ℕ) → supplied_layer (fixed_term c rs ds) table ≡ supplied_layer (listed_term c rs ds) table
  by_list_supplied_layer table = ap (λ (X : Product State Held). supplied_layer X table) by_list_lem

  -- the fee
  pub by_list_fee : (b : Behaviour) (wanted : ℕ)
      → smallest_fee c rs ds b wanted ≡ first (λ fee. leb (contract_value (listed_term (with_fee c fee) rs ds) b) wanted) (rate_most + 1)
  unfolding smallest_fee fee_sought
  by_list_fee b wanted =
      ap (λ (F : Terms → Returns → Rates → Product State Held).
      first (λ fee. leb (contract_value (F (with_fee c fee) rs ds) b) wanted) (rate_most + 1)) listed_contract
