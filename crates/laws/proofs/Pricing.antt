-- Request (vi): what the call that seeks a fee tells, and what stays. Assumes nothing.
use Rattle.std.specs.Prelude.{Bool, cond, ◌↔◌, ◌≡◌, ℕ, ◌*◌, ◌≤◌, ◌<◌, ltb, replicate}
use mathlib.Core.List.{List, [], ◌++◌, ◌∷◌}
use Rattle.std.proofs.Math.Path.{refl, ap, sym}
use Rattle.std.proofs.Common.{◌∙◌, subst, arith, ltb→lt, lt-ltb, le-ltb}
use Rattle.std.proofs.Math.Dec.{lt→ltb, nltb→le}
use Rattle.std.proofs.Math.ListN.{drop}
use Rattle.rules.specs.Contract.{Terms, terms_of, returns_of, rates_of, rate_most, Input, terms_under, Rates, Returns}
use Rattle.rules.specs.Product.{amount_layers, Claim, contract_value}
use Rattle.rules.specs.FixedTerm.{layer_size, fixed_term, layout_of}
use Rattle.rules.specs.Refusals.{check, Verdict, accepted, refused, verdict, on_success, record_checks, list_checks, rates_checks}
use Rattle.rules.specs.Refusals.{input_checks}
use Rattle.rules.specs.Operations.{answer, behaviour_of, Answer, no_table_checks, filled, valued_answer, valuing_checks}
use Rattle.rules.specs.Fee.{fee_checks, fee_sought, fee_found, fee_answer, fee_work, under_fee}
use Rattle.rules.specs.Facts.{fee_order, check_numbers, no_table_order}
use Rattle.laws.specs.Accepted.{Valid, ValidInput, AllPass, all_pass, passes, Positive, zero_accepts, and_then, verdict_append}
use Rattle.laws.specs.Accepted.{then_accepted, then_refused, then_earlier, then_later, input_valid, apart, absent, refused_iff}
use Rattle.laws.specs.ThirdDemand.{product_claim}
use Rattle.laws.specs.Fee.{Sought, fee_value, smallest_fee}
use Rattle.laws.proofs.FeeSought.{fee_sought_lem, no_fee}
use Rattle.laws.specs.Terms.{with_fee, read_policy, under_is}
use Rattle.rules.specs.Policy.{policy_of}
use Rattle.rules.specs.Date.{Behaviour}
use Rattle.laws.specs.Valuing.{no_table_read}

-- terms that are accepted stay so under any fee up to 10,000
pub valid_fee : {c : Terms} → Valid c → (fee : ℕ) → fee ≤ rate_most → Valid (with_fee c fee)
valid_fee v fee l = record {
  top = v.top;
  premium_least = v.premium_least;
  premium = v.premium;
  level_least = v.level_least;
  level = v.level;
  dates_least = v.dates_least;
  dates = v.dates;
  fee = l;
  penalty = v.penalty;
  discount_least = v.discount_least;
  discount = v.discount;
  step = v.step;
  spare = v.spare;
}

module _ (x : Input) (behaviour wanted : ℕ) (work : List ℕ) where
  abbrev c : Terms
  c = terms_of x.bytes

  abbrev rs : Returns
  rs = returns_of x.list

  abbrev ds : Rates
  ds = rates_of x.rates

  abbrev b : Behaviour
  b = behaviour_of behaviour

  -- what the checks say, and what is found and told
  abbrev pub fee_verdict : Verdict
  fee_verdict = verdict (fee_checks (policy_of x) (under_fee fixed_term x) behaviour wanted work)

  abbrev pub found : ℕ
  found = fee_found (policy_of x) (under_fee fixed_term x) behaviour wanted work

  abbrev pub told : Answer
  told = fee_answer (policy_of x) (under_fee fixed_term x) behaviour wanted work

  -- the fee that bytes ask for, by their terms
  sought_is : fee_sought (under_fee fixed_term x) b wanted ≡ smallest_fee c rs ds b wanted
  unfolding smallest_fee terms_under terms_of
  sought_is = refl

  -- ---- the verdict: a search is made where valuing without a table is accepted, and finds a fee or does not
  pub fee_refused : {n q : ℕ} → verdict (no_table_checks (policy_of x) behaviour work) ≡ refused n q → fee_verdict ≡ refused n q
  unfolding fee_checks
  fee_refused e = then_refused (no_table_checks (policy_of x) behaviour work) _ e

  module _ (yes_to : verdict (no_table_checks (policy_of x) behaviour work) ≡ accepted) where
    searched : fee_verdict ≡ cond (ltb rate_most (smallest_fee c rs ds b wanted)) (refused 19 0) accepted
    unfolding fee_checks verdict smallest_fee terms_under terms_of
    searched = then_accepted (no_table_checks (policy_of x) behaviour work) _ yes_to

    pub fee_accepted : smallest_fee c rs ds b wanted ≤ rate_most → fee_verdict ≡ accepted
    fee_accepted l = searched ∙ ap (λ (t : Bool). cond t (refused 19 0) accepted) (le-ltb rate_most (smallest_fee c rs ds b wanted) l)

    pub fee_wanting : rate_most < smallest_fee c rs ds b wanted → fee_verdict ≡ refused 19 0
    fee_wanting l = searched ∙ ap (λ (t : Bool). cond t (refused 19 0) accepted) (lt-ltb rate_most (smallest_fee c rs ds b wanted) l)

  -- 19, exactly where every other check passes and every fee gives more than wanted
  pub no_fee_iff : (fee_verdict ≡ refused 19 0)
      ↔ ((verdict (no_table_checks (policy_of x) behaviour work) ≡ accepted)
      × ((fee : ℕ) → fee ≤ rate_most → wanted < fee_value (terms_of x.bytes) (returns_of x.list) (rates_of x.rates)
      (behaviour_of behaviour) fee))
  unfolding fee_checks check_numbers apart
  no_fee_iff =
      let ks = no_table_checks (policy_of x) behaviour work in
      let each = no_fee c rs ds b wanted in
      let only = refused_iff ks 19 0 (ltb rate_most (fee_sought (under_fee fixed_term x) b wanted)) []
      (rw (no_table_order x behaviour work) (absent 19 _ tt)) (absent 19 [] tt) in (
        λ e. (passes ks (only.0 e).0, each.0 (subst (λ (n : ℕ). rate_most < n) sought_is (ltb→lt rate_most _ (only.0 e).1))),
        λ (a, more). only.1 (all_pass ks a, lt→ltb rate_most _ (subst (λ (n : ℕ). rate_most < n) (sym sought_is) (each.1 more))),
      )

  -- a call that answers number 0 has found a fee
  pub fee_accepts : told.number ≡ 0 → fee_verdict ≡ accepted
  unfolding fee_answer answer Positive
  fee_accepts e =
      zero_accepts (fee_checks (policy_of x) (under_fee fixed_term x) behaviour wanted work)
      (rw (fee_order x (under_fee fixed_term x) behaviour wanted work) (omega arith)) e

  module _ (yes_to : fee_verdict ≡ accepted) where
    pub fee_valued_first : verdict (no_table_checks (policy_of x) behaviour work) ≡ accepted
    unfolding fee_checks
    fee_valued_first = then_earlier (no_table_checks (policy_of x) behaviour work) _ yes_to

    within : smallest_fee c rs ds b wanted ≤ rate_most
    unfolding fee_checks AllPass smallest_fee terms_under terms_of
    within = nltb→le rate_most _ (all_pass _ (then_later (no_table_checks (policy_of x) behaviour work) _ yes_to)).0

    found_sought : found ≡ fee_sought (under_fee fixed_term x) b wanted
    unfolding fee_found on_success
    found_sought = rw yes_to

    pub found_is : found ≡ smallest_fee c rs ds b wanted
    found_is = found_sought ∙ sought_is

    -- WHAT IS FOUND: the smallest fee whose value is at most what is wanted
    pub fee_found_lem : Sought (terms_of x.bytes) (returns_of x.list) (rates_of x.rates) (behaviour_of behaviour) wanted
        (fee_found (policy_of x) (under_fee fixed_term x) behaviour wanted work)
    fee_found_lem = rw found_is (fee_sought_lem c rs ds b wanted within)

    valid : ValidInput c rs ds
    valid = input_valid x (no_table_read (policy_of x) behaviour work fee_valued_first)

    told_is : told.value ≡ contract_value (under_fee fixed_term x found) b
    unfolding fee_answer fee_found answer on_success
    told_is = rw yes_to

    -- the third demand, of the contract with that fee: no strategy earns more than the value told, and to follow its recorded
    -- amounts earns it
    pub fee_claim : (rest : List ℕ)
        → let X = under_fee fixed_term x (fee_found (policy_of x) (under_fee fixed_term x) behaviour wanted work) in
        Claim X (behaviour_of behaviour) (fee_answer (policy_of x) (under_fee fixed_term x) behaviour wanted work).value
        (amount_layers X (behaviour_of behaviour) ++ rest)
    fee_claim rest =
        rw (told_is) (product_claim (terms_under found x.bytes) rs ds
        (subst Valid (sym (under_is found x.bytes)) (valid_fee valid.terms found (rw found_is within))) b rest)

    -- WHAT STAYS: the record that has the fee found is worth what was told
    pub fee_valued : (other lent table : List ℕ)
        → let y : Input = record { bytes = other; list = x.list; rates = x.rates } in
        let v = verdict (valuing_checks (policy_of y) behaviour lent table) in
        terms_of other ≡ terms_under (fee_found (policy_of x) (under_fee fixed_term x) behaviour wanted work) x.bytes
        → v ≡ accepted
        → valued_answer (policy_of y) v behaviour ≡ fee_answer (policy_of x) (under_fee fixed_term x) behaviour wanted work
    unfolding fee_answer valued_answer terms_under terms_of
    fee_valued other lent table same a =
        let terms = same ∙ ap (λ (fee : ℕ). terms_under fee x.bytes) found_sought in
        (λ i. answer ((a ∙ sym yes_to) i) (contract_value (fixed_term (terms i) rs ds) b) (terms i).premium)

-- "The record's own fee is range-checked and otherwise unused.": records that differ in their fee alone, both accepted, get the
-- same answer and the same fee, and leave the same working slice
module _ (bytes other list rates : List ℕ) (behaviour wanted : ℕ) (work : List ℕ)
    (same : terms_under 0 bytes ≡ terms_under 0 other)
    (one : verdict (record_checks bytes) ≡ accepted) (two : verdict (record_checks other) ≡ accepted)
  where
    abbrev given : List ℕ → Input
    given record_bytes_lem = record { bytes = record_bytes_lem; list = list; rates = rates }

    -- what the checks say, by the terms: the record's own pass
    abbrev said : Terms → Verdict
    said c =
        and_then (and_then (verdict (list_checks list)) (verdict (rates_checks c.dates rates)))
        (verdict (no_table_checks (read_policy c (returns_of list) (rates_of rates)) behaviour work))

    says : (z : List ℕ) → verdict (record_checks z) ≡ accepted
        → verdict (no_table_checks (policy_of (given z)) behaviour work) ≡ said (terms_under 0 z)
    unfolding no_table_checks input_checks fixed_term layout_of layer_size terms_under terms_of
    says z a =
        let rated = rates_checks (terms_of z).dates rates in
        let works = no_table_checks (read_policy (terms_of z) (returns_of list) (rates_of rates)) behaviour work in
        verdict_append (record_checks z ++ list_checks list ++ rated) works
        ∙ ap (λ (v : Verdict). and_then v (verdict works)) (verdict_append (record_checks z ++ list_checks list) rated
        ∙ ap (λ (v : Verdict). and_then v (verdict rated)) (then_accepted (record_checks z) (list_checks list) a))

    no_table_same : verdict (no_table_checks (policy_of (given bytes)) behaviour work)
        ≡ verdict (no_table_checks (policy_of (given other)) behaviour work)
    no_table_same = says bytes one ∙ ap said same ∙ sym (says other two)

    abbrev sought : Terms → ℕ
    sought c = fee_sought (λ fee. fixed_term (with_fee c fee) (returns_of list) (rates_of rates)) (behaviour_of behaviour) wanted

    abbrev wanting : Terms → Verdict
    wanting c = verdict (check 19 0 (ltb rate_most (sought c)) ∷ [])

    fee_same : fee_verdict (given bytes) behaviour wanted work ≡ fee_verdict (given other) behaviour wanted work
    unfolding fee_checks terms_under
    fee_same =
        verdict_append (no_table_checks (policy_of (given bytes)) behaviour work) _
        ∙ (λ i. and_then (no_table_same i) (wanting (same i)))
        ∙ sym (verdict_append (no_table_checks (policy_of (given other)) behaviour work) _)

    pub own_fee_unused :
        let x : Input = record { bytes = bytes; list = list; rates = rates } in
        let y : Input = record { bytes = other; list = list; rates = rates } in
        (fee_answer (policy_of x) (under_fee fixed_term x) behaviour wanted work
        ≡ fee_answer (policy_of y) (under_fee fixed_term y) behaviour wanted work)
        × (fee_found (policy_of x) (under_fee fixed_term x) behaviour wanted work
        ≡ fee_found (policy_of y) (under_fee fixed_term y) behaviour wanted work)
        × (fee_work (policy_of x) behaviour work ≡ fee_work (policy_of y) behaviour work)
    unfolding fee_answer fee_found fee_work filled fixed_term layout_of layer_size terms_under terms_of
    own_fee_unused = (
      (λ i. answer (fee_same i) (contract_value
          (fixed_term (with_fee (same i) (sought (same i))) (returns_of list) (rates_of rates)) (behaviour_of behaviour)) (same i).premium),
      (λ i. on_success (fee_same i) (sought (same i)) 0),
      (λ i. on_success (no_table_same i) (replicate (2 * layer_size (same i)) 0 ++ drop (2 * layer_size (same i)) work) work),
    )
