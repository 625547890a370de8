-- Values, layers and cash of an accepted contract fit slices of 32 bits, and so every wider one. Assumes nothing.
use mathlib.Core.List.{List, [], ◌∷◌, ◌++◌, append-nil}
use Rattle.std.specs.Prelude.{◌≡◌, T, eqb, get_or, length}
use Rattle.std.proofs.Math.Path.{subst}
use Prim.Native.Nat.{ℕ, zero, suc, ◌+◌, ◌-◌, ◌*◌, ◌^◌, ◌≤◌, ◌<◌}
use Rattle.std.proofs.Common.{le_refl, mul-le-mul, arith, nltb→le, pow_mono}
use Rattle.std.proofs.Math.Dec.{eqb→eq}
use borrow.Author.Tests.{leb-false}
use Rattle.decision.specs.Index.{tabulate, first, all_fail}
use Rattle.decision.specs.Process.{Table, table_value, start_table_value, Decides}
use Rattle.decision.specs.Layers.{lookup, layer}
use Rattle.rules.specs.Contract.{Terms, Returns, Rates, terms_of, returns_of, rates_of, Input}
use Rattle.rules.specs.Date.{Behaviour, dynamic, maturity_value}
use Rattle.rules.specs.Product.{state_value, contract_value, value_layer, supplied_value, supplied_layer, walk_state, walk_paid}
use Rattle.rules.specs.Product.{walk_cash_on}
use Rattle.rules.specs.Product.{walk_cash_last, walk_cash, bad_date, bad_entry, entries}
use Rattle.rules.specs.FixedTerm.{State, InRange, free_in, admissible_in, rate_in, cash_in, process_of, layer_size, layout_of, fixed_term}
use Rattle.rules.specs.Refusals.{check_each, accepted, record_checks, list_checks, input_checks, verdict}
use Rattle.rules.specs.Operations.{answer, behaviour_of, supplied_checks, supplied_answer, walk_checks, valuing_checks, valued_answer}
use Rattle.laws.specs.Accepted.{Valid, ValidReturns, ValidInput, AllPass, all_pass, pass_right, not_not, then_earlier, both_terms}
use Rattle.laws.specs.Accepted.{both_returns, input_valid, success_reports}
use Rattle.laws.specs.Date.{cash_le}
use Rattle.laws.specs.FixedTerm.{placed_in_range}
use Rattle.laws.specs.Bounds.{amount_le, ends, state_most, state_value_le, table_value_le, contract_value_le, table_start_le}
use Rattle.laws.specs.ThirdDemand.{valuing_valid, valued_reports}
use Rattle.laws.specs.Supplied.{all_admitted}
use Rattle.laws.specs.Walk.{walk_in_range, walk_admits, walk_paid_le}
use Rattle.laws.specs.Terms.{living_term, table_size, bad_in, bad_at}
use Rattle.rules.specs.Policy.{policy_of, living_policy}

-- what no number of 32 bits passes
abbrev pub low_most : ℕ
low_most = 4294967295

-- with what is paid on arrival the largest is 3,240,000,000
pub value_narrow : (c : Terms) → Valid c → (i : ℕ) → 1 ≤ i → 20000 * c.top + state_most c i < 2 ^ 32
value_narrow c v i l =
    let t : 20000 * c.top ≤ 80000000 = omega (arith, v.top) in
    let n : c.dates - i ≤ 39 = omega (arith, v.dates) in
    let p = mul-le-mul n t in
    omega arith

-- ---- in every width of 32 bits and more, so in the old one and the new one each number is the same
module _ (w : ℕ) (wide : 32 ≤ w) where
  enough : 2 ^ 32 ≤ 2 ^ w
  enough = pow_mono wide

  value_fits : (c : Terms) → Valid c → (i : ℕ) → 1 ≤ i → 20000 * c.top + state_most c i < 2 ^ w
  value_fits c v i l = let n = value_narrow c v i l in omega (arith, enough)

  module _ (c : Terms) (rs : Returns) (ds : Rates) (v : ValidInput c rs ds) where
    pub state_value_narrow : (b : Behaviour) (i : ℕ) (s : State) → 1 ≤ i → InRange c s
        → state_value (fixed_term c rs ds) b i s < 2 ^ w
    state_value_narrow b i s h g = let l = state_value_le c rs ds v b i s g in let m = value_fits c v.terms i h in omega arith

    pub contract_value_narrow : (b : Behaviour) → contract_value (fixed_term c rs ds) b < 2 ^ w
    contract_value_narrow b = let l = contract_value_le c rs ds v b in let m = value_fits c v.terms 1 (le_refl 1) in omega arith

    -- the same of a table whose entries are admissible
    module _ (d : Table State)
        (admits : (i : ℕ) (s : State) → Decides (process_of c rs ds) (InRange c) i s → T (admissible_in c dynamic s (d i s)))
      where
        pub table_value_narrow : (i : ℕ) (s : State) → 1 ≤ i → i ≤ c.dates → InRange c s
            → table_value (process_of c rs ds) d i s < 2 ^ w
        table_value_narrow i s l m g =
            let x = table_value_le c rs ds v d admits i s l m g in
            let y = value_fits c v.terms i l in
            omega arith

        pub table_start_narrow : start_table_value (process_of c rs ds) d < 2 ^ w
        table_start_narrow = let x = table_start_le c rs ds v d admits in let y = value_fits c v.terms 1 (le_refl 1) in omega arith

  -- cash, and the payment at maturity, each with what is paid on arrival
  pub cash_narrow : {c : Terms} → Valid c → (b : Behaviour) (i : ℕ) (s : State) (t paid : ℕ) → InRange c s → T (admissible_in c b s t)
      → paid ≤ 20000 * c.top → paid + cash_in c i s t < 2 ^ w
  unfolding cash_in
  cash_narrow {c} v b i s t paid g p few =
      let l = cash_le (rate_in c i) (free_in c s) t in
      let m = amount_le v b s t g p in
      omega (arith, v.top, enough)

  pub maturity_narrow : {c : Terms} → Valid c → (s : State) (paid : ℕ) → InRange c s → paid ≤ 20000 * c.top
      → paid + maturity_value s.account s.guarantee < 2 ^ w
  maturity_narrow v s paid g few = omega (arith, ends v s g, v.top, enough)

  -- ---- lists
  abbrev pub AllNarrow : List ℕ → Type 0
  AllNarrow xs = (e : ℕ) → get_or xs e 0 < 2 ^ w

  pub tabulate_narrow : (n : ℕ) (f : ℕ → ℕ) (rest : List ℕ) → ((k : ℕ) → k < n → f k < 2 ^ w) → AllNarrow rest
      → AllNarrow (tabulate n f ++ rest)
  unfolding tabulate
  tabulate_narrow zero f rest h r e = r e
  tabulate_narrow (suc n) f rest h r zero = h 0 (omega arith)
  tabulate_narrow (suc n) f rest h r (suc e) =
      tabulate_narrow n (λ k. f (suc k)) rest (λ k l. h (suc k) (omega arith)) r e

  pub layer_narrow : (c : Terms) (f : State → ℕ) → ((s : State) → InRange c s → f s < 2 ^ w)
      → AllNarrow (layer (layout_of c) f)
  unfolding layer layout_of
  layer_narrow c f h =
      let at : ℕ → ℕ = λ e. f ((layout_of c).state_at e) in
      subst AllNarrow (append-nil (tabulate (layer_size c) at))
      (tabulate_narrow (layer_size c) at [] (λ e l. h _ (placed_in_range c e l)) (λ e. omega (arith, enough)))

  -- ---- a walk in which no date is bad
  module _ (c : Terms) (rs : Returns) (table path : List ℕ)
      (none : c.dates - 1 ≤ first (bad_date (living_term c rs) table path) (c.dates - 1))
    where
      pub walk_narrow : Valid c → ValidReturns rs → length path ≡ c.dates → ((j : ℕ) → j < c.dates → get_or path j 0 < rs.count)
          → AllNarrow (walk_cash (living_term c rs) table path)
      unfolding walk_cash walk_cash_on walk_cash_last fixed_term process_of
      walk_narrow v u long numbers = tabulate_narrow (c.dates - 1) _ _ pays ends
        where
          arrives : (j : ℕ) → j < c.dates → walk_paid (living_term c rs) table path j ≤ 20000 * c.top
          arrives j l = walk_paid_le c rs table path v j (omega arith) (u.factor _ (numbers j l))

          pays : (j : ℕ) → j < c.dates - 1 → walk_cash_on (living_term c rs) table path j < 2 ^ w
          pays j l =
              cash_narrow v dynamic (suc j) _ _ _ (walk_in_range c rs table path j (omega arith))
              (walk_admits c rs table path none j l) (arrives j (omega arith))

          last : InRange c (walk_state (living_term c rs) table path c.dates)
          last =
              let up : suc (c.dates - 1) ≡ c.dates = omega (arith, v.dates_least) in
              subst (λ (n : ℕ). InRange c (walk_state (living_term c rs) table path n)) up
              (walk_in_range c rs table path (c.dates - 1) (omega arith))

          ends : AllNarrow (walk_cash_last (living_term c rs) table path ∷ [])
          ends zero = maturity_narrow v _ _ last (arrives (c.dates - 1) (omega (arith, v.dates_least)))
          ends (suc e) = omega (arith, enough)

  -- ---- what the calls answer, on any input that they accept
  -- "For every contract valid today each stored number is the same number as before."
  pub record Narrow (value : ℕ) (layer : List ℕ) : Type 0 where
    pub value_fits : value < 2 ^ w
    pub layer_fits : (e : ℕ) → get_or layer e 0 < 2 ^ w

  -- valuing: the value reported and the layer left
  pub narrow_valuing : (x : Input) (behaviour : ℕ) (work table : List ℕ)
      → let v = verdict (valuing_checks (policy_of x) behaviour work table) in
      v ≡ accepted
      → Narrow (valued_answer (policy_of x) v behaviour).value (value_layer (policy_of x).product (behaviour_of behaviour))
  unfolding value_layer fixed_term
  narrow_valuing x behaviour work table a =
      let c = terms_of x.bytes in
      let rs = returns_of x.list in
      let ds = rates_of x.rates in
      let v = valuing_valid x behaviour work table a in
      let b = behaviour_of behaviour in record {
        value_fits = rw (valued_reports (policy_of x) _ behaviour a) (contract_value_narrow c rs ds v b);
        layer_fits = layer_narrow c (state_value (fixed_term c rs ds) b 1) (λ s g. state_value_narrow c rs ds v b 1 s (le_refl 1) g);
      }

  -- a supplied table: the same
  pub supplied_narrow : (c : Terms) (rs : Returns) (ds : Rates) (table : List ℕ) → ValidInput c rs ds
      → table_size c ≤ first (bad_in c table) (table_size c)
      → Narrow (supplied_value (fixed_term c rs ds) table) (supplied_layer (fixed_term c rs ds) table)
  unfolding supplied_value supplied_layer fixed_term process_of
  supplied_narrow c rs ds table v none =
      let d = lookup (layout_of c) table in
      let admits = all_admitted c rs ds table v.terms none in record {
        value_fits = table_start_narrow c rs ds v d admits;
        layer_fits =
            layer_narrow c (table_value (process_of c rs ds) d 1)
            (λ s g. table_value_narrow c rs ds v d admits 1 s (le_refl 1) v.terms.dates_least g);
      }

  pub narrow_supplied : (x : Input) (work table : List ℕ) → verdict (supplied_checks (policy_of x) work table) ≡ accepted
      → Narrow (supplied_answer (policy_of x) work table).value (supplied_layer (policy_of x).product table)
  unfolding supplied_checks supplied_answer answer check_each AllPass bad_entry bad_at entries table_size fixed_term process_of layout_of
  narrow_supplied x work table a =
      let c = terms_of x.bytes in
      let rs = returns_of x.list in
      let ds = rates_of x.rates in
      let checks = pass_right (input_checks x) _ (all_pass _ a) in
      let n = supplied_narrow c rs ds table (input_valid x (then_earlier _ _ a)) (nltb→le _ _ checks.1.0) in record {
        value_fits = rw (success_reports (supplied_value (policy_of x).product table) 0 a) n.value_fits;
        layer_fits = n.layer_fits;
      }

  -- a walk: every cash, the last the payment at maturity
  pub narrow_walk : (bytes list table path cashes : List ℕ) → verdict (walk_checks (living_policy bytes list) table path cashes) ≡ accepted
      → (e : ℕ) → get_or (walk_cash (living_policy bytes list).product table path) e 0 < 2 ^ w
  unfolding walk_checks check_each AllPass fixed_term process_of
  narrow_walk bytes list table path cashes a =
      let c = terms_of bytes in
      let v = both_terms bytes list (then_earlier _ _ a) in
      let u = both_returns bytes list (then_earlier _ _ a) in
      let checks = pass_right (record_checks bytes ++ list_checks list) _ (all_pass _ a) in
      let long = eqb→eq (length path) c.dates (not_not (eqb (length path) c.dates) checks.1.0) in
      let numbers = all_fail _ c.dates (nltb→le _ _ checks.1.1.0) in
      walk_narrow c (returns_of list) table path (nltb→le _ _ checks.1.1.1.0) v u long (λ j l. leb-false _ _ (numbers j l))
