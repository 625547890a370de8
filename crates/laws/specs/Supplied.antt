-- A supplied table: its checks beyond record, list and rates, and what its value is worth. Assumes nothing.
use Rattle.std.specs.Prelude.{true, false, ◌||◌, List, [], ◌++◌, ◌≡◌, ℕ, suc, ◌+◌, ◌-◌, ◌*◌, ◌/◌, ◌%◌, ◌≤◌, ◌<◌, get_or, drop}
use Rattle.std.proofs.Math.Bool.{not}
use Rattle.std.proofs.Math.Path.{refl, ap, sym}
use Rattle.std.proofs.Common.{◌∙◌, subst, zero-add, le_of_eq, div-lt_iff_lt-mul}
use Rattle.std.proofs.Math.Nat.{le_trans}
use native.Mathlib.Omega.{arith}
use Rattle.std.proofs.Math.Dec.{T, ltb, nltb→le}
use Rattle.std.proofs.Math.ListN.{length, length-append}
use borrow.Author.Tests.{le-ltb}
use Rattle.decision.specs.Index.{length_tabulate, get_d_tabulate, true_is, first, all_fail, none_found}
use Rattle.decision.specs.Process.{Decides, start_earned, start_follow}
use Rattle.decision.proofs.Optimal.{recorded_best, start_table_earned, start_table_kept}
use Rattle.decision.specs.Layers.{lookup, layers, entry, entry_within, entry_state}
use Rattle.rules.specs.Contract.{Terms, Returns, Rates, terms_of, returns_of, rates_of, Input}
use Rattle.rules.specs.Date.{Behaviour, static, mixed, dynamic}
use Rattle.rules.specs.Product.{recorded_amount, contract_value, supplied_value, amount_layers, bad_entry, entries}
use Rattle.rules.specs.FixedTerm.{State, InRange, admissible_in, layer_size, layout_of, process_of, fixed_term}
use Rattle.rules.specs.Refusals.{check_each, accepted, refused, verdict, short, input_checks, Verdict, Check}
use Rattle.rules.specs.Operations.{answer, behaviour_of, valuing_checks, supplied_checks, supplied_answer, Policy, slices_short}
use Rattle.rules.specs.Operations.{valued_answer}
use Rattle.rules.specs.Operations.{valued_table}
use Rattle.rules.specs.Facts.{supplied_order}
use Rattle.laws.specs.Accepted.{Valid, Positive, zero_accepts, AllPass, all_pass, pass_right, not_not, then_accepted, then_earlier}
use Rattle.laws.specs.Accepted.{input_valid, success_reports, then_refused, nor_left, nor_right}
use Rattle.laws.specs.FixedTerm.{opened, size_some, sound}
use Rattle.laws.specs.Demand.{table_attains}
use Rattle.laws.specs.ThirdDemand.{valuing_valid, valued_leaves}
use Rattle.laws.specs.Terms.{table_size, bad_at, bad_in, read_policy}
use Rattle.rules.specs.Policy.{policy_of}
use Rattle.laws.specs.Valuing.{no_table_read, valuing_no_table}

-- ---- the checks of what is read come first, of any policy
module _ {S H : Type 0} (p : Policy S H) (work table : List ℕ) where
  pub supplied_read : verdict (supplied_checks p work table) ≡ accepted → verdict p.checks ≡ accepted
  unfolding supplied_checks
  supplied_read a = then_earlier p.checks _ a

  pub supplied_refused : {n q : ℕ} → verdict p.checks ≡ refused n q → verdict (supplied_checks p work table) ≡ refused n q
  unfolding supplied_checks
  supplied_refused e = then_refused p.checks _ e

-- .. then the slices and the entries
module _ (c : Terms) (rs : Returns) (ds : Rates) (work table : List ℕ) where
  abbrev pub table_checked : Verdict
  table_checked = verdict (supplied_checks (read_policy c rs ds) work table)

  -- they are those of the call, once what is read is accepted
  pub supplied_then : (ks : List Check) → verdict ks ≡ accepted
      → verdict (supplied_checks (record { checks = ks; premium = c.premium; product = fixed_term c rs ds }) work table) ≡ table_checked
  unfolding supplied_checks slices_short
  supplied_then ks e = then_accepted ks _ e

  lent_long : 2 * layer_size c ≤ length work → table_size c ≤ length table
      → (short (2 * layer_size c) work || short (table_size c) table) ≡ false
  unfolding short
  lent_long h l = rw (le-ltb (length work) (2 * layer_size c) h, le-ltb (length table) (table_size c) l)

  -- slices that are not short
  pub lent_room : (short (2 * layer_size c) work || short (table_size c) table) ≡ false
      → (layer_size c + layer_size c ≤ length work) × (table_size c ≤ length table)
  unfolding short
  lent_room f =
      let x = ltb (length work) (2 * layer_size c) in
      let y = ltb (length table) (table_size c) in
      let t : T (not (x || y)) = rw f tt in
      let w = nltb→le (length work) (2 * layer_size c) (nor_left x y t) in
      (omega arith, nltb→le (length table) (table_size c) (nor_right x y t))

  pub slices_refused : (short (2 * layer_size c) work || short (table_size c) table) ≡ true → table_checked ≡ refused 11 0
  unfolding supplied_checks slices_short verdict entries table_size fixed_term process_of layout_of
  slices_refused e = rw e

  module _ (e : (short (2 * layer_size c) work || short (table_size c) table) ≡ false) where
    pub entry_refused : ltb (first (bad_in c table) (table_size c)) (table_size c) ≡ true
        → table_checked ≡ refused 14 (first (bad_in c table) (table_size c))
    unfolding supplied_checks slices_short verdict check_each bad_entry bad_at entries table_size fixed_term process_of layout_of
    entry_refused f = simp (e, f, zero-add)

    pub table_accepted : ltb (first (bad_in c table) (table_size c)) (table_size c) ≡ false → table_checked ≡ accepted
    unfolding supplied_checks slices_short verdict check_each bad_entry bad_at entries table_size fixed_term process_of layout_of
    table_accepted f = simp (e, f)

-- where no entry is bad, every state in range of a decision date has an admissible amount
pub all_admitted : (c : Terms) (rs : Returns) (ds : Rates) (table : List ℕ) → Valid c → table_size c ≤ first (bad_in c table) (table_size c)
    → (i : ℕ) (s : State) → Decides (process_of c rs ds) (InRange c) i s → T (admissible_in c dynamic s (lookup (layout_of c) table i s))
unfolding table_size process_of bad_at lookup fixed_term layout_of
all_admitted c rs ds table valid h i s g =
    let placed = (sound c rs ds valid).placed in
    let e = entry (layout_of c) i s in
    let within = entry_within (layout_of c) placed (c.dates - 1) i s g.from (omega (arith, g.before)) g.range in
    let good = all_fail (bad_in c table) ((c.dates - 1) * layer_size c) h e within in
    not_not (admissible_in c dynamic s (get_or table e 0))
    (subst (λ (x : State). T (not (not (admissible_in c dynamic x (get_or table e 0)))))
    (entry_state (layout_of c) placed i s g.range) (rw good tt))

-- the value of a table is what following it earns
supplied_earned : (c : Terms) (rs : Returns) (ds : Rates) → Valid c → (table : List ℕ)
    → start_earned (process_of c rs ds) (start_follow (process_of c rs ds) (lookup (layout_of c) table))
    ≡ supplied_value (fixed_term c rs ds) table
unfolding supplied_value fixed_term
supplied_earned c rs ds valid table = start_table_earned (process_of c rs ds) (sound c rs ds valid).averages (lookup (layout_of c) table)

-- ---- a call that answers number 0
module _ (x : Input) (work table : List ℕ) (zero_number : (supplied_answer (policy_of x) work table).number ≡ 0) where
  supplied_accepts : verdict (supplied_checks (policy_of x) work table) ≡ accepted
  unfolding supplied_answer answer Positive
  supplied_accepts = zero_accepts (supplied_checks (policy_of x) work table) (rw (supplied_order x work table) (omega arith)) zero_number

  valid : Valid (terms_of x.bytes)
  valid = (input_valid x (supplied_read (policy_of x) work table supplied_accepts)).terms

  none_bad : table_size (terms_of x.bytes) ≤ first (bad_in (terms_of x.bytes) table) (table_size (terms_of x.bytes))
  unfolding supplied_checks AllPass check_each bad_entry bad_at entries table_size fixed_term process_of layout_of
  none_bad = nltb→le _ _ (pass_right (input_checks x) _ (all_pass _ supplied_accepts)).1.0

  reports : (supplied_answer (policy_of x) work table).value ≡ supplied_value (policy_of x).product table
  unfolding supplied_answer answer
  reports = success_reports _ _ supplied_accepts

  -- it reports what following the table earns
  pub supplied_follows : let X = (policy_of x).product in
      start_earned X.process (start_follow X.process (lookup X.layout table)) ≡ (supplied_answer (policy_of x) work table).value
  unfolding fixed_term
  supplied_follows = supplied_earned (terms_of x.bytes) (returns_of x.list) (rates_of x.rates) valid table ∙ sym reports

  -- .. which is at most the dynamic value
  pub supplied_most : (supplied_answer (policy_of x) work table).value ≤ contract_value (policy_of x).product dynamic
  unfolding contract_value fixed_term process_of layout_of
  supplied_most =
      let c = terms_of x.bytes in
      let rs = returns_of x.list in
      let ds = rates_of x.rates in
      let s = sound c rs ds valid in
      let d = lookup (layout_of c) table in
      let kept =
      start_table_kept (process_of c rs ds) s.averages d (admissible_in c dynamic) (InRange c) (s.closed dynamic)
      (all_admitted c rs ds table valid none_bad) s.dates in
      le_trans (le_of_eq (sym supplied_follows))
      ((table_attains (fixed_term c rs ds) s dynamic []).start_most (start_follow (process_of c rs ds) d) kept)

-- ---- the table that a valuing call leaves
module _ (c : Terms) (rs : Returns) (ds : Rates) (valid : Valid c) (b : Behaviour) (rest : List ℕ) where
  wider : (b : Behaviour) (s : State) (t : ℕ) → T (admissible_in c b s t) → T (admissible_in c dynamic s t)
  unfolding fixed_term
  wider static s t p = (sound c rs ds valid).mixed_dynamic s t ((sound c rs ds valid).static_mixed s t p)
  wider mixed s t p = (sound c rs ds valid).mixed_dynamic s t p
  wider dynamic s t p = p

  recorded_good : (e : ℕ) → e < table_size c → bad_in c (amount_layers (fixed_term c rs ds) b ++ rest) e ≡ false
  unfolding bad_at amount_layers layers recorded_amount table_size fixed_term process_of layout_of
  recorded_good e l =
      let size = layer_size c in
      let s = (layout_of c).state_at (e % size) in
      let before = (div-lt_iff_lt-mul (size_some c)).1 l in
      let p = (recorded_best (process_of c rs ds) (admissible_in c b) (opened c rs ds b) (suc (e / size)) s (omega arith)).passes in
      ap (λ (t : ℕ). not (admissible_in c dynamic s t)) (get_d_tabulate _ e _ rest l)
      ∙ ap not (true_is (admissible_in c dynamic s (recorded_amount (fixed_term c rs ds) b (suc (e / size)) s)) (wider b s _ p))

  long_enough : table_size c ≤ length (amount_layers (fixed_term c rs ds) b ++ rest)
  unfolding amount_layers layers table_size fixed_term process_of layout_of
  long_enough =
      let long =
      length-append (amount_layers (fixed_term c rs ds) b) rest ∙ ap (λ (n : ℕ). n + length rest)
      (length_tabulate ((c.dates - 1) * layer_size c) _) in
      omega arith

  earned_again : supplied_value (fixed_term c rs ds) (amount_layers (fixed_term c rs ds) b ++ rest) ≡ contract_value (fixed_term c rs ds) b
  unfolding contract_value fixed_term
  earned_again =
      sym (supplied_earned c rs ds valid (amount_layers (fixed_term c rs ds) b ++ rest))
      ∙ (table_attains (fixed_term c rs ds) (sound c rs ds valid) b rest).start_earned_lem

-- supplied back, it gets the answer that the call gave
module _ (x : Input) (behaviour : ℕ) (work table work' : List ℕ)
    (yes_to : verdict (valuing_checks (policy_of x) behaviour work table) ≡ accepted)
    (room : 2 * layer_size (terms_of x.bytes) ≤ length work')
  where
    abbrev left : List ℕ
    left =
        amount_layers (policy_of x).product (behaviour_of behaviour) ++ drop (entries (policy_of x).product) table

    back_accepted : verdict (supplied_checks (policy_of x) work' left) ≡ accepted
    back_accepted =
        let c = terms_of x.bytes in
        let rs = returns_of x.list in
        let ds = rates_of x.rates in
        let read = no_table_read (policy_of x) behaviour work (valuing_no_table (policy_of x) behaviour work table yes_to).0 in
        let v = (input_valid x read).terms in
        let rest = drop (entries (policy_of x).product) table in
        supplied_then c rs ds work' left (input_checks x) read
        ∙ table_accepted c rs ds work' left (lent_long c rs ds work' left room (long_enough c rs ds v (behaviour_of behaviour) rest))
        (le-ltb _ _ (none_found (bad_in c left) (table_size c) (recorded_good c rs ds v (behaviour_of behaviour) rest)))

    pub supplied_back :
        let v = verdict (valuing_checks (policy_of x) behaviour work table) in
        supplied_answer (policy_of x) work' (valued_table (policy_of x) v behaviour table) ≡ valued_answer (policy_of x) v behaviour
    unfolding supplied_answer valued_answer answer
    supplied_back =
        let v = (valuing_valid x behaviour work table yes_to).terms in
        rw (
          valued_leaves (policy_of x) _ behaviour table yes_to,
          back_accepted,
          yes_to,
          earned_again (terms_of x.bytes) (returns_of x.list) (rates_of x.rates) v (behaviour_of behaviour)
              (drop (entries (policy_of x).product) table),
        ) refl
