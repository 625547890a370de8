-- A CONTRACT IN FORCE: on date i the record, shortened by the dates behind it, is worth what is left. Assumes nothing.
use Rattle.std.proofs.Math.Bool.{Bool, false}
use Rattle.std.specs.Prelude.{not, List, ◌++◌, ◌≡◌, refl, T, eqb, get_or}
use Rattle.std.proofs.Math.Path.{ap}
use Rattle.std.proofs.Common.{ap₂, ◌∙◌, le_trans, sub-le, add-zero, T_not}
use Prim.Native.Nat.{ℕ, suc, ◌+◌, ◌-◌, ◌*◌, ◌≤◌, ◌<◌}
use Rattle.std.proofs.Math.Nat.{add-mul}
use native.Mathlib.Omega.{arith}
use Rattle.std.proofs.Math.Dec.{ltb, eqb→eq, eqb_refl, not_T}
use borrow.Author.Tests.{le-ltb}
use Rattle.std.proofs.Math.ListN.{length, drop, length-drop}
use Rattle.decision.specs.Index.{first, none_found, get_d_drop}
use Rattle.decision.proofs.Later.{Continues, value_later, recorded_later, table_value_later, lookup_later, layers_later}
use Rattle.decision.specs.Process.{table_value}
use Rattle.decision.specs.Layers.{entry, lookup, layer, layers}
use Rattle.rules.specs.Contract.{Input, Terms, Returns, Rates, word, terms_of, returns_of, rates_of, rate_bytes, dates_most}
use Rattle.rules.specs.Contract.{rate_most}
use Rattle.rules.specs.Date.{Behaviour, rate_on, cash}
use Rattle.rules.specs.Product.{Product, state_value, recorded_amount, value_layer, amount_layers, supplied_layer}
use Rattle.rules.specs.FixedTerm.{State, Held, free_in, admissible_in, rate_in, cash_in, after_in, value_with, held_by_account, process_of}
use Rattle.rules.specs.FixedTerm.{mean_by_account, by_account, weight_to, excess_most, layer_size, layout_of, fixed_term}
use Rattle.rules.specs.Refusals.{accepted, verdict, outside, terms_checks, record_checks, list_checks, rates_checks, check_each}
use Rattle.rules.specs.Refusals.{input_checks}
use Rattle.rules.specs.Policy.{policy_of}
use Rattle.laws.specs.Accepted.{ValidInput, input_valid, input_both, AllPass, all_pass, passes, then_earlier, then_later, then_accepted}
use Rattle.laws.specs.Accepted.{not_not}
use Rattle.laws.specs.FixedTerm.{size_some}
use Rattle.actuary.specs.InForce.{InForce, LeftOn, rates_from, terms_from}

module _ (c : Terms) (rs : Returns) (ds : Rates) {i : ℕ} (from : 1 ≤ i) where
  rate_later : (j : ℕ) → rate_in (terms_from i c) (suc j) ≡ rate_in c (i - 1 + suc j)
  unfolding rate_on
  rate_later j =
      let e : i - 1 + suc j - 1 ≡ i - 1 + j = omega arith in
      let f : suc j - 1 ≡ j = omega arith in
      let g = add-mul (i - 1) j c.step in
      rw (e, f) (omega arith)

  continues : Continues (process_of c rs ds) (process_of (terms_from i c) rs (rates_from i ds)) (i - 1)
  unfolding process_of free_in cash_in after_in held_by_account value_with mean_by_account by_account weight_to excess_most
  continues = record {
    dates = refl;
    limit = λ s. refl;
    cash = λ j s t. ap (λ (rate : ℕ). cash rate (free_in c s) t) (rate_later j);
    after = λ j s t. refl;
    by_state = λ j h v. refl;
    final = λ s. refl;
  }

  abbrev short : Product State Held
  short = fixed_term (terms_from i c) rs (rates_from i ds)

  on : (j : ℕ) → i - 1 + suc j ≡ i + j
  on j = omega arith

  values_left : (b : Behaviour) (j : ℕ) (s : State) → state_value short b (suc j) s ≡ state_value (fixed_term c rs ds) b (i + j) s
  unfolding state_value fixed_term admissible_in free_in
  values_left b j s =
      value_later _ _ (i - 1) continues (admissible_in c b) j s ∙ ap (λ (n : ℕ). state_value (fixed_term c rs ds) b n s) (on j)

  amounts_left : (b : Behaviour) (j : ℕ) (s : State)
      → recorded_amount short b (suc j) s ≡ recorded_amount (fixed_term c rs ds) b (i - 1 + suc j) s
  unfolding recorded_amount fixed_term admissible_in free_in
  amounts_left b j s = recorded_later _ _ (i - 1) continues (admissible_in c b) j s

  layer_left : (b : Behaviour) → value_layer short b ≡ layer (layout_of c) (state_value (fixed_term c rs ds) b i)
  unfolding value_layer layer fixed_term layout_of layer_size
  layer_left b =
      let first : (s : State) → state_value short b 1 s ≡ state_value (fixed_term c rs ds) b i s =
      λ s. values_left b 0 s ∙ ap (λ (n : ℕ). state_value (fixed_term c rs ds) b n s) (add-zero i) in
      (λ j. layer (layout_of c) (λ s. first s j))

  table_left_lem : i ≤ c.dates → (b : Behaviour)
      → amount_layers short b ≡ drop ((i - 1) * layer_size c) (amount_layers (fixed_term c rs ds) b)
  unfolding amount_layers layers fixed_term process_of layout_of layer_size
  table_left_lem within b =
      let n = c.dates - (i - 1) - 1 in
      let f : ℕ → State → ℕ = λ j s. recorded_amount (fixed_term c rs ds) b j s in
      let e : i - 1 + n ≡ c.dates - 1 = omega arith in
      layers_later (layout_of c) (size_some c) n (i - 1) f (λ j s. recorded_amount short b j s) (amounts_left b)
      ∙ ap (λ (m : ℕ). drop ((i - 1) * layer_size c) (layers (layout_of c) m f)) e

  supplied_left : (amounts : List ℕ)
      → supplied_layer short (drop ((i - 1) * layer_size c) amounts)
      ≡ layer (layout_of c) (table_value (process_of c rs ds) (lookup (layout_of c) amounts) i)
  unfolding supplied_layer layer lookup entry fixed_term layout_of layer_size
  supplied_left amounts =
      let e : i - 1 + 1 ≡ i = omega arith in
      let first : (s : State)
      → table_value short.process (lookup (layout_of c) (drop ((i - 1) * layer_size c) amounts)) 1 s
      ≡ table_value (process_of c rs ds) (lookup (layout_of c) amounts) i s =
      λ s.
      table_value_later _ _ (i - 1) continues (lookup (layout_of c) amounts) (lookup (layout_of c) (drop ((i - 1) * layer_size c) amounts))
      (lookup_later (layout_of c) (i - 1) amounts) 0 s
      ∙ ap (λ (n : ℕ). table_value (process_of c rs ds) (lookup (layout_of c) amounts) n s) e in
      (λ j. layer (layout_of c) (λ s. first s j))

  -- of terms
  pub left_on : i ≤ c.dates → (b : Behaviour) → LeftOn i (fixed_term c rs ds) (fixed_term (terms_from i c) rs (rates_from i ds)) b
  unfolding fixed_term layout_of
  left_on within b = record {
    values = values_left b;
    amounts = λ j s. amounts_left b j s ∙ ap (λ (n : ℕ). recorded_amount (fixed_term c rs ds) b n s) (on j);
    first_layer = layer_left b;
    table = table_left_lem within b;
    supplied = supplied_left;
  }

-- ---- of bytes
word_drop : (bytes : List ℕ) (n k : ℕ) → word (drop n bytes) k ≡ word bytes (n + k)
unfolding word
word_drop bytes n k =
    let e : n + (k + 1) ≡ n + k + 1 = omega arith in
    ap₂ (λ (low high : ℕ). low + 256 * high) (get_d_drop n k bytes) (get_d_drop n (k + 1) bytes ∙ ap (λ (m : ℕ). get_or bytes m 0) e)

rates_left : (i : ℕ) (bytes : List ℕ) → rates_of (drop (rate_bytes * (i - 1)) bytes) ≡ rates_from i (rates_of bytes)
unfolding rates_of
rates_left i bytes j k =
    let e : rate_bytes * (i - 1) + rate_bytes * k ≡ rate_bytes * (i - 1 + k) = omega arith in
    (word_drop bytes (rate_bytes * (i - 1)) (rate_bytes * k) ∙ ap (word bytes) e) j

inside : (least most x : ℕ) → least ≤ x → x ≤ most → T (not (outside least most x))
unfolding outside
inside least most x l m = rw (le-ltb x least l, le-ltb most x m) tt

same_length : {a b : ℕ} → a ≡ b → T (not (not (eqb a b)))
same_length {a} {b} e = rw e (not_T (not (eqb b b)) (λ t. T_not (eqb b b) t (eqb_refl b)))

-- where x is accepted, on each of its dates from 1 to maturity
module _ {i : ℕ} {x y : Input} (f : InForce i x y) (read : verdict (input_checks x) ≡ accepted) (from : 1 ≤ i)
    (within : i ≤ (terms_of x.bytes).dates)
  where
    abbrev c : Terms
    c = terms_of x.bytes

    valid : ValidInput c (returns_of x.list) (rates_of x.rates)
    valid = input_valid x read

    both : verdict (record_checks x.bytes ++ list_checks x.list) ≡ accepted
    both = input_both x read

    record_accepted : verdict (record_checks y.bytes) ≡ accepted
    unfolding record_checks terms_checks AllPass rate_on
    record_accepted =
        let all = (all_pass (record_checks x.bytes) (then_earlier _ (list_checks x.list) both)).1 in
        let v = valid.terms in
        passes (record_checks y.bytes) (
          same_length f.bytes,
          rw f.terms (
            all.0,
            (
              all.1.0,
              (
                inside 1 dates_most _ (omega arith) (omega (arith, v.dates)),
                (
                  rw (le-ltb rate_most c.fee v.fee, le-ltb rate_most (rate_in c i) (le_trans (sub-le _ _) v.penalty)) tt,
                  all.1.1.1.1,
                ),
              ),
            ),
          ),
        )

    length_left : length y.rates ≡ rate_bytes * (c.dates - (i - 1))
    unfolding input_checks rates_checks AllPass
    length_left =
        let size = (all_pass _ (then_later (record_checks x.bytes ++ list_checks x.list) _ read)).0 in
        let long = eqb→eq (length x.rates) (rate_bytes * c.dates) (not_not (eqb (length x.rates) (rate_bytes * c.dates)) size) in
        let e = ap length f.rates ∙ length-drop (rate_bytes * (i - 1)) x.rates in
        omega arith

    rates_accepted : verdict (rates_checks (c.dates - (i - 1)) y.rates) ≡ accepted
    unfolding rates_checks check_each AllPass
    rates_accepted =
        let n = c.dates - (i - 1) in
        let bad : ℕ → Bool = λ k. ltb rate_most (rates_of y.rates k) in
        let high : (k : ℕ) → k < n → bad k ≡ false =
        λ k l. le-ltb rate_most (rates_of y.rates k) (rw (f.rates, rates_left i x.rates) (valid.rates.rate (i - 1 + k))) in
        passes (rates_checks n y.rates) (same_length length_left, (rw (le-ltb (first bad n) n (none_found bad n high)) tt, tt))

    -- it is accepted
    pub in_force_accepted : verdict (input_checks y) ≡ accepted
    unfolding input_checks
    in_force_accepted =
        then_accepted (record_checks y.bytes ++ list_checks y.list) _
        (then_accepted (record_checks y.bytes) _ record_accepted
        ∙ rw f.list (then_later (record_checks x.bytes) (list_checks x.list) both))
        ∙ ap (λ (t : Terms). verdict (rates_checks t.dates y.rates)) f.terms
        ∙ rates_accepted

    -- IN FORCE: what the calls report of y, and the layers that they leave, is what is left of x, from every state of every date
    pub in_force : (b : Behaviour) → LeftOn i (policy_of x).product (policy_of y).product b
    in_force b =
        rw (f.terms, f.list, f.rates, rates_left i x.rates) (left_on c (returns_of x.list) (rates_of x.rates) from within b)
