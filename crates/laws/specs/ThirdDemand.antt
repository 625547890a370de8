-- The third demand of what the valuing calls report and leave. Assumes nothing.
use Rattle.std.specs.Prelude.{List, ◌++◌, ◌≡◌, ℕ, drop}
use Rattle.std.proofs.Math.Path.{refl, fun_ext}
use Rattle.std.proofs.Common.{ap, sym, ◌∙◌, subst, subst₂, arith}
use Rattle.rules.specs.Contract.{Input, Terms, Returns, Rates, terms_of, returns_of, rates_of}
use Rattle.rules.specs.Date.{Behaviour, static, mixed, dynamic}
use Rattle.rules.specs.Product.{entries, contract_value, amount_layers, ThirdDemand, Claim}
use Rattle.rules.specs.FixedTerm.{fixed_term}
use Rattle.rules.specs.Refusals.{Verdict, accepted, verdict, number_of, on_success}
use Rattle.rules.specs.Operations.{Policy, answer, filled, behaviour_number, behaviour_of, valuing_checks, valued_answer, valued_table}
use Rattle.rules.specs.Operations.{no_table_checks}
use Rattle.rules.specs.Policy.{policy_of}
use Rattle.rules.specs.Facts.{valuing_order, no_table_order}
use Rattle.laws.specs.Accepted.{Valid, ValidInput, Positive, zero_accepts, input_valid}
use Rattle.laws.specs.Demand.{table_attains, demand}
use Rattle.laws.specs.FixedTerm.{sound}
use Rattle.laws.specs.Valuing.{no_table_read, valuing_no_table}

-- the number of a behaviour is its own
pub behaviour_number_lem : (b : Behaviour) → behaviour_of (behaviour_number b) ≡ b
unfolding behaviour_of behaviour_number
behaviour_number_lem static = refl
behaviour_number_lem mixed = refl
behaviour_number_lem dynamic = refl

-- ---- of any policy: what a valuing call that accepts reports and leaves
module _ {S H : Type 0} (p : Policy S H) (v : Verdict) (behaviour : ℕ) where
  pub valued_number : (valued_answer p v behaviour).number ≡ number_of v
  unfolding valued_answer answer
  valued_number = refl

  pub valued_reports : v ≡ accepted → (valued_answer p v behaviour).value ≡ contract_value p.product (behaviour_of behaviour)
  unfolding valued_answer answer on_success
  valued_reports a = rw a

  pub valued_leaves : (table : List ℕ) → v ≡ accepted
      → valued_table p v behaviour table ≡ amount_layers p.product (behaviour_of behaviour) ++ drop (entries p.product) table
  unfolding valued_table filled on_success
  valued_leaves table a = rw a

-- the claim of a contract's value and of any table that starts with its recorded amounts
pub product_claim : (c : Terms) (rs : Returns) (ds : Rates) → Valid c → (b : Behaviour) (rest : List ℕ)
    → Claim (fixed_term c rs ds) b (contract_value (fixed_term c rs ds) b) (amount_layers (fixed_term c rs ds) b ++ rest)
product_claim c rs ds v b rest = record { value = refl; attained = table_attains (fixed_term c rs ds) (sound c rs ds v) b rest }

-- the claim of what a call reports and leaves, by a verdict that accepts terms, returns and rates in range
pub valued_claim : (x : Input) (v : Verdict) (behaviour : ℕ) (table : List ℕ) → v ≡ accepted → Valid (terms_of x.bytes)
    → Claim (policy_of x).product (behaviour_of behaviour) (valued_answer (policy_of x) v behaviour).value
    (valued_table (policy_of x) v behaviour table)
valued_claim x v behaviour table yes_to valid =
    let p = policy_of x in
    subst₂ (Claim p.product (behaviour_of behaviour)) (sym (valued_reports p v behaviour yes_to))
    (sym (valued_leaves p v behaviour table yes_to))
    (product_claim (terms_of x.bytes) (returns_of x.list) (rates_of x.rates) valid (behaviour_of behaviour)
    (drop (entries p.product) table))

module _ (x : Input) (behaviour : ℕ) (work table : List ℕ) where
  -- a valuing call that answers number 0 has accepted its input
  pub valuing_accepts : number_of (verdict (valuing_checks (policy_of x) behaviour work table)) ≡ 0
      → verdict (valuing_checks (policy_of x) behaviour work table) ≡ accepted
  unfolding Positive
  valuing_accepts e =
      zero_accepts (valuing_checks (policy_of x) behaviour work table) (rw (valuing_order x behaviour work table) (omega arith)) e

  -- .. and terms, returns and rates are in range
  pub valuing_valid : verdict (valuing_checks (policy_of x) behaviour work table) ≡ accepted
      → ValidInput (terms_of x.bytes) (returns_of x.list) (rates_of x.rates)
  valuing_valid a =
      input_valid x (no_table_read (policy_of x) behaviour work (valuing_no_table (policy_of x) behaviour work table a).0)

-- .. and so has one with no table
module _ (x : Input) (behaviour : ℕ) (work : List ℕ) where
  pub no_table_accepts : number_of (verdict (no_table_checks (policy_of x) behaviour work)) ≡ 0
      → verdict (no_table_checks (policy_of x) behaviour work) ≡ accepted
  unfolding Positive
  no_table_accepts e = zero_accepts (no_table_checks (policy_of x) behaviour work) (rw (no_table_order x behaviour work) (omega arith)) e

  -- the claim of its value, for any table that starts with the recorded amounts
  pub no_table_claim : number_of (verdict (no_table_checks (policy_of x) behaviour work)) ≡ 0 → (rest : List ℕ)
      → Claim (policy_of x).product (behaviour_of behaviour)
      (valued_answer (policy_of x) (verdict (no_table_checks (policy_of x) behaviour work)) behaviour).value
      (amount_layers (policy_of x).product (behaviour_of behaviour) ++ rest)
  no_table_claim zero_number rest =
      let yes_to = no_table_accepts zero_number in
      rw (valued_reports (policy_of x) _ behaviour yes_to)
      (product_claim (terms_of x.bytes) (returns_of x.list) (rates_of x.rates)
      (input_valid x (no_table_read (policy_of x) behaviour work yes_to)).terms (behaviour_of behaviour) rest)

-- THE THIRD DEMAND, whatever terms, returns and death rates are accepted. Where the valuing calls of the three behaviours answer
-- number 0, whatever slices each was lent: the value each reports is its behaviour's, and of the tables that they leave the whole
-- claim holds.
pub third_demand : (x : Input) (work table : Behaviour → List ℕ)
    → let p = policy_of x in
    let v : Behaviour → Verdict = λ b. verdict (valuing_checks p (behaviour_number b) (work b) (table b)) in
    ((b : Behaviour) → (valued_answer p (v b) (behaviour_number b)).number ≡ 0)
    → ((b : Behaviour) → (valued_answer p (v b) (behaviour_number b)).value ≡ contract_value p.product b)
    × ThirdDemand p.product (λ b. valued_table p (v b) (behaviour_number b) (table b))
third_demand x work table zero_number =
    let p = policy_of x in
    let X = p.product in
    let v : Behaviour → Verdict = λ b. verdict (valuing_checks p (behaviour_number b) (work b) (table b)) in
    let yes_to : (b : Behaviour) → v b ≡ accepted = λ b.
    valuing_accepts x (behaviour_number b) (work b) (table b) (sym (valued_number p (v b) (behaviour_number b)) ∙ zero_number b) in
    let valid = (valuing_valid x (behaviour_number static) (work static) (table static) (yes_to static)).terms in
    let leaves : (b : Behaviour) → amount_layers X b ++ drop (entries X) (table b) ≡ valued_table p (v b) (behaviour_number b) (table b) = λ b.
    ap (λ (y : Behaviour). amount_layers X y ++ drop (entries X) (table b)) (sym (behaviour_number_lem b))
    ∙ sym (valued_leaves p (v b) (behaviour_number b) (table b) (yes_to b)) in (
      λ b. valued_reports p (v b) (behaviour_number b) (yes_to b) ∙ ap (contract_value X) (behaviour_number_lem b),
      subst (λ (f : Behaviour → List ℕ). ThirdDemand X f) (fun_ext leaves)
          (demand X (sound (terms_of x.bytes) (returns_of x.list) (rates_of x.rates) valid) (λ b. drop (entries X) (table b))),
    )
