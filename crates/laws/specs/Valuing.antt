-- The checks of a valuation beyond those of what a policy is read from, of any policy. Assumes nothing.
use Rattle.std.specs.Prelude.{Bool, cond, not, ◌||◌, List, [], ◌∷◌, ◌++◌, ◌↔◌, ℕ, ◌*◌, ◌≤◌, ltb, eqb, length}
use Rattle.std.proofs.Math.Bool.{true, false}
use Rattle.std.proofs.Math.Path.{◌≡◌, refl, ap, sym, subst}
use Rattle.std.proofs.Common.{◌∙◌, zero-add, arith, le-ltb}
use Rattle.std.proofs.Math.Dec.{T, nltb→le}
use Rattle.decision.specs.Index.{first}
use Rattle.rules.specs.Contract.{Input, terms_of, rate_most, rate_bytes, rates_of}
use Rattle.rules.specs.Product.{entries}
use Rattle.rules.specs.Refusals.{check, check_each, Verdict, accepted, refused, verdict, short, terms_checks, record_checks, list_checks}
use Rattle.rules.specs.Refusals.{rates_checks, input_checks}
use Rattle.rules.specs.Operations.{Policy, work_size, slices_short, valuing_checks, valued_answer, valued_work, no_table_checks}
use Rattle.rules.specs.Policy.{policy_of}
use Rattle.rules.specs.Facts.{check_numbers}
use Rattle.laws.specs.Accepted.{AllPass, all_pass, and_then, verdict_append, then_accepted, then_refused, then_earlier, then_later}
use Rattle.laws.specs.Accepted.{apart, absent, refused_iff, then_none}

module _ {S H : Type 0} (p : Policy S H) (behaviour : ℕ) (work : List ℕ) where
  -- ---- with no table: the checks of what is read come first ..
  pub no_table_refused : {n q : ℕ} → verdict p.checks ≡ refused n q → verdict (no_table_checks p behaviour work) ≡ refused n q
  unfolding no_table_checks
  no_table_refused e = then_refused p.checks _ e

  pub no_table_read : verdict (no_table_checks p behaviour work) ≡ accepted → verdict p.checks ≡ accepted
  unfolding no_table_checks
  no_table_read a = then_earlier p.checks _ a

  -- .. then the behaviour and the working slice
  module _ (read : verdict p.checks ≡ accepted) where
    pub behaviour_refused : ltb 2 behaviour ≡ true → verdict (no_table_checks p behaviour work) ≡ refused 10 0
    unfolding no_table_checks verdict
    behaviour_refused e = then_accepted p.checks _ read ∙ rw e

    pub work_refused : ltb 2 behaviour ≡ false → short (work_size p) work ≡ true → verdict (no_table_checks p behaviour work) ≡ refused 11 0
    unfolding no_table_checks verdict
    work_refused e f = then_accepted p.checks _ read ∙ rw (e, f)

    pub work_accepted : ltb 2 behaviour ≡ false → short (work_size p) work ≡ false → verdict (no_table_checks p behaviour work) ≡ accepted
    unfolding no_table_checks verdict
    work_accepted e f = then_accepted p.checks _ read ∙ rw (e, f)

  -- a valuation that is accepted: its behaviour is known and its working slice is long enough
  pub record WorkRoom : Type 0 where
    pub known : behaviour ≤ 2
    pub layers : work_size p ≤ length work

  pub no_table_room : verdict (no_table_checks p behaviour work) ≡ accepted → WorkRoom
  unfolding no_table_checks AllPass short
  no_table_room a =
      let t = all_pass _ (then_later p.checks _ a) in
      record { known = nltb→le 2 behaviour t.0; layers = nltb→le (length work) (work_size p) t.1.0 }

  -- ---- .. and last the length of the table
  module _ (table : List ℕ) where
    abbrev pub table_verdict : Verdict
    table_verdict = verdict (check 11 0 (short (entries p.product) table) ∷ [])

    -- valuing is refused as without a table, and then where the table is too short
    pub table_last : verdict (valuing_checks p behaviour work table) ≡ and_then (verdict (no_table_checks p behaviour work)) table_verdict
    unfolding valuing_checks no_table_checks slices_short verdict
    table_last =
        verdict_append p.checks _
        ∙ go (verdict p.checks) (ltb 2 behaviour) (short (work_size p) work) (short (entries p.product) table)
        ∙ ap (λ (v : Verdict). and_then v table_verdict) (sym (verdict_append p.checks _))
      where
        go : (u : Verdict) (x y z : Bool)
            → and_then u (cond x (refused 10 0) (cond (y || z) (refused 11 0) accepted))
            ≡ and_then (and_then u (cond x (refused 10 0) (cond y (refused 11 0) accepted))) (cond z (refused 11 0) accepted)
        go (refused n q) x y z = refl
        go accepted true y z = refl
        go accepted false true z = refl
        go accepted false false true = refl
        go accepted false false false = refl

    -- WHAT STAYS: with a table that is long enough, valuing answers what it answers with none, and leaves the same working slice
    pub no_table_is_valuing : entries p.product ≤ length table
        → verdict (no_table_checks p behaviour work) ≡ verdict (valuing_checks p behaviour work table)
    unfolding verdict short
    no_table_is_valuing room =
        sym (table_last ∙ rw (le-ltb (length table) (entries p.product) room) (then_none (verdict (no_table_checks p behaviour work))))

    pub no_table_keeps_answer : entries p.product ≤ length table
        → valued_answer p (verdict (no_table_checks p behaviour work)) behaviour
        ≡ valued_answer p (verdict (valuing_checks p behaviour work table)) behaviour
    no_table_keeps_answer room = ap (λ (v : Verdict). valued_answer p v behaviour) (no_table_is_valuing room)

    pub no_table_keeps_work : entries p.product ≤ length table
        → valued_work p (verdict (no_table_checks p behaviour work)) behaviour work
        ≡ valued_work p (verdict (valuing_checks p behaviour work table)) behaviour work
    no_table_keeps_work room = ap (λ (v : Verdict). valued_work p v behaviour work) (no_table_is_valuing room)

    -- a valuation that is accepted is accepted without its table, which is long enough
    pub valuing_no_table : verdict (valuing_checks p behaviour work table) ≡ accepted
        → (verdict (no_table_checks p behaviour work) ≡ accepted) × (entries p.product ≤ length table)
    unfolding AllPass short
    valuing_no_table a =
        let both = first_and_last (verdict (no_table_checks p behaviour work)) table_verdict (sym table_last ∙ a) in
        (both.0, nltb→le (length table) (entries p.product) (all_pass _ both.1).0)
      where
        first_and_last : (u v : Verdict) → and_then u v ≡ accepted → (u ≡ accepted) × (v ≡ accepted)
        first_and_last accepted v e = (refl, e)
        first_and_last (refused n q) v e = let z : ◌≡◌ {A = ℕ} 0 1 = cc in absurd (omega arith)

-- ---- 17 and 18, of a valuation, exactly under their conditions
-- the first rate above 10,000, or how many there are
abbrev pub first_high : List ℕ → ℕ → ℕ
first_high rates dates = first (λ i. ltb rate_most (rates_of rates i)) dates

abbrev pub other_length : List ℕ → ℕ → Bool
other_length rates dates = not (eqb (length rates) (rate_bytes * dates))

module _ (x : Input) (behaviour : ℕ) (work table : List ℕ) where
  abbrev dates : ℕ
  dates = (terms_of x.bytes).dates

  pub rates_length_iff : (verdict (valuing_checks (policy_of x) behaviour work table) ≡ refused 17 0)
      ↔ (AllPass (record_checks x.bytes ++ list_checks x.list) × T (other_length x.rates dates))
  unfolding valuing_checks input_checks rates_checks record_checks terms_checks list_checks check_each check_numbers apart
  rates_length_iff = refused_iff (record_checks x.bytes ++ list_checks x.list) 17 0 _ _ (absent 17 _ tt) (absent 17 _ tt)

  pub death_rate_iff : (verdict (valuing_checks (policy_of x) behaviour work table) ≡ refused 18 (first_high x.rates dates))
      ↔ (AllPass (record_checks x.bytes ++ list_checks x.list ++ (check 17 0 (other_length x.rates dates) ∷ []))
      × T (ltb (first_high x.rates dates) dates))
  unfolding valuing_checks input_checks rates_checks record_checks terms_checks list_checks check_each check_numbers apart
  death_rate_iff =
      let ks = record_checks x.bytes ++ list_checks x.list ++ (check 17 0 (other_length x.rates dates) ∷ []) in
      let high = first_high x.rates dates in
      let v = verdict (valuing_checks (policy_of x) behaviour work table) in
      subst (λ (q : ℕ). (v ≡ refused 18 q) ↔ (AllPass ks × T (ltb high dates))) (zero-add high)
      (refused_iff ks 18 _ _ _ (absent 18 _ tt) (absent 18 _ tt))
