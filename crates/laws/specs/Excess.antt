-- Document 02 (iv): where no return lifts any balance up to top above top, every value, table and cash is the one without
-- payment. Assumes nothing.
use mathlib.Core.List.{List, [], ◌∷◌, ◌++◌}
use Rattle.std.specs.Prelude.{◌≡◌, get_or, length, take}
use Rattle.std.proofs.Math.Path.{ap, ap₂}
use Prim.Native.Nat.{ℕ, suc, ◌+◌, ◌-◌, ◌*◌, ◌≤◌, ◌<◌}
use Rattle.std.proofs.Math.Nat.{le_refl, le_trans}
use Rattle.std.proofs.Common.{mul-le-mul_right, sub-le, mod-lt}
use native.Mathlib.Omega.{arith}
use Rattle.decision.specs.Index.{tabulate_eq}
use Rattle.decision.specs.Means.{SameMeans}
use Rattle.decision.proofs.Means.{value_same, recorded_same, start_same, table_same, start_table_same}
use Rattle.decision.proofs.Arrivals.{arriving, Alike, arriving_means, start_met_same}
use Rattle.decision.specs.Layers.{lookup, layer, layers}
use Rattle.rules.specs.Contract.{Terms, Returns, Rates, zero_rates}
use Rattle.rules.specs.Date.{Behaviour, balance_after, lifted_account, excess, excess_paid}
use Rattle.rules.specs.Product.{Product, state_value, recorded_amount, contract_value, value_layer, amount_layers, supplied_value}
use Rattle.rules.specs.Product.{supplied_layer, walk_state, walk_amount, walk_held, walk_paid, walk_cash_on, walk_cash_last, walk_cash}
use Rattle.rules.specs.FixedTerm.{State, Held, InRange, admissible_in, cash_in, after_in, paid_by, process_of, layer_size, layout_of}
use Rattle.rules.specs.FixedTerm.{fixed_term}
use Rattle.rules.specs.FixedTerm.{surrender_in}
use Rattle.laws.specs.Accepted.{Valid}
use Rattle.laws.specs.FixedTerm.{averages, reached_in_range, after_falls, placed_in_range, size_some}
use Rattle.laws.specs.Walk.{walk_held_lem}
use Rattle.laws.specs.Terms.{living_term}

-- the contract whose ceiling pays nothing, as document 01 has it
unfoldable pub unpaid : Terms → Returns → Rates → Product State Held
unpaid c rs ds = record {
  process = arriving (λ h k. 0) (process_of c rs ds);
  admissible = admissible_in c;
  surrender = surrender_in c;
  layout = layout_of c;
}

-- no return lifts any balance up to top above top
abbrev pub NoneAbove : Terms → Returns → Type 0
NoneAbove c rs = (balance k : ℕ) → balance ≤ c.top → k < rs.count → lifted_account c.fee balance (rs.factor k) ≤ c.top

-- .. which is so where none lifts top itself
pub none_above_top : (c : Terms) (rs : Returns)
    → ((k : ℕ) → k < rs.count → lifted_account c.fee c.top (rs.factor k) ≤ c.top) → NoneAbove c rs
unfolding lifted_account
none_above_top c rs top balance k h l =
    let more = mul-le-mul_right (10000 - c.fee) (mul-le-mul_right (rs.factor k) h) in
    let x = top k l in
    omega arith

-- what is held within top and premium
pub record Within (c : Terms) (h : Held) : Type 0 where
  pub balance : h.balance ≤ c.top
  pub guarantee : h.guarantee ≤ c.premium

module _ (c : Terms) (rs : Returns) (v : Valid c) (none : NoneAbove c rs) where
  nothing_paid : (h : Held) (k : ℕ) → k < rs.count → Within c h → paid_by c rs h k ≡ 0
  unfolding paid_by excess_paid excess
  nothing_paid h k l g = let x = none h.balance k g.balance l in omega arith

  same_layer : (f g : State → ℕ) → ((s : State) → InRange c s → f s ≡ g s) → layer (layout_of c) f ≡ layer (layout_of c) g
  unfolding layer layout_of
  same_layer f g e = tabulate_eq (layer_size c) _ _ (λ k l. e _ (placed_in_range c k l))

  module _ (ds : Rates) where
    alike : Alike (process_of c rs ds) (λ h k. 0) (InRange c) (Within c)
    unfolding process_of after_in balance_after
    alike = record {
      starts = record { balance = v.premium; guarantee = le_refl _ };
      holds = λ i s t g. record { balance = le_trans (sub-le _ _) g.account; guarantee = after_falls c i s t g.guarantee };
      stays = λ h k l g. reached_in_range c rs h k g.guarantee;
      same = nothing_paid;
    }

    same_means : SameMeans (process_of c rs ds) (arriving (λ h k. 0) (process_of c rs ds)) (InRange c) (Within c)
    same_means = arriving_means (process_of c rs ds) (averages c rs ds) (λ h k. 0) alike

    -- values: of the contract, of every state, of the first layer left
    pub no_excess_value : (b : Behaviour) → contract_value (fixed_term c rs ds) b ≡ contract_value (unpaid c rs ds) b
    unfolding contract_value fixed_term unpaid
    no_excess_value b = start_same same_means (admissible_in c b)

    pub no_excess_state : (b : Behaviour) (i : ℕ) (s : State) → InRange c s
        → state_value (fixed_term c rs ds) b i s ≡ state_value (unpaid c rs ds) b i s
    unfolding state_value fixed_term unpaid
    no_excess_state b i s g = value_same same_means (admissible_in c b) i s g

    pub no_excess_layer : (b : Behaviour) → value_layer (fixed_term c rs ds) b ≡ value_layer (unpaid c rs ds) b
    unfolding value_layer fixed_term unpaid
    no_excess_layer b = same_layer _ _ (no_excess_state b 1)

    -- the table
    pub no_excess_table : (b : Behaviour) → amount_layers (fixed_term c rs ds) b ≡ amount_layers (unpaid c rs ds) b
    unfolding amount_layers recorded_amount layers fixed_term unpaid layout_of process_of
    no_excess_table b = tabulate_eq ((c.dates - 1) * layer_size c) _ _ (λ e l.
        recorded_same same_means (admissible_in c b) _ _
        (placed_in_range c _ (mod-lt e (size_some c))))

    -- a supplied table
    pub no_excess_supplied : (table : List ℕ) → supplied_value (fixed_term c rs ds) table ≡ supplied_value (unpaid c rs ds) table
    unfolding supplied_value fixed_term unpaid
    no_excess_supplied table = start_table_same same_means (lookup (layout_of c) table)

    pub no_excess_supplied_layer : (table : List ℕ) → supplied_layer (fixed_term c rs ds) table ≡ supplied_layer (unpaid c rs ds) table
    unfolding supplied_layer fixed_term unpaid
    no_excess_supplied_layer table =
        same_layer _ _ (table_same same_means (lookup (layout_of c) table) 1)

  -- a walk whose numbers are those of returns
  module _ (table path : List ℕ) (long : length path ≡ c.dates) (numbers : (j : ℕ) → j < c.dates → get_or path j 0 < rs.count) where
    state_same : (i : ℕ) → walk_state (living_term c rs) table path i ≡ walk_state (unpaid c rs zero_rates) table path i
    unfolding walk_state fixed_term unpaid
    state_same i = start_met_same (process_of c rs zero_rates) (λ h k. 0) (lookup (layout_of c) table) (take i path)

    amount_same : (i : ℕ) → walk_amount (living_term c rs) table path i ≡ walk_amount (unpaid c rs zero_rates) table path i
    unfolding walk_amount fixed_term unpaid
    amount_same i = ap (lookup (layout_of c) table i) (state_same i)

    none_paid : (j : ℕ) → j < c.dates → walk_paid (living_term c rs) table path j ≡ 0
    unfolding walk_paid fixed_term process_of
    none_paid j l =
        let h = walk_held_lem c rs table path v.premium j (omega arith) in
        nothing_paid (walk_held (living_term c rs) table path j) _ (numbers j l) (record { balance = h.0; guarantee = h.1 })

    pub no_excess_walk : walk_cash (living_term c rs) table path ≡ walk_cash (unpaid c rs zero_rates) table path
    unfolding walk_cash walk_cash_on walk_cash_last walk_paid fixed_term unpaid process_of
    no_excess_walk =
        ap₂ ◌++◌
        (tabulate_eq (c.dates - 1) _ _ (λ j l.
        ap₂ ◌+◌ (none_paid j (omega arith)) (ap₂ (cash_in c (suc j)) (state_same (suc j)) (amount_same (suc j)))))
        (ap (λ (x : ℕ). x ∷ []) (ap₂ ◌+◌ (none_paid (c.dates - 1) (omega (arith, v.dates_least)))
        (ap (process_of c rs zero_rates).final (state_same c.dates))))
