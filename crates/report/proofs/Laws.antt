-- What the valuing calls of the program answer and leave, as it is printed. Assumes nothing.
use mathlib.Core.Bool.{Bool, cond, ◌||◌}
use mathlib.Core.List.{List, [], ◌∷◌, ◌++◌}
use mathlib.Core.Path.{◌≡◌, refl, ap, ap₂, sym, ◌∙◌, subst}
use Prim.Native.Nat.{ℕ, zero, suc, ◌+◌, ◌*◌, ◌≤◌, ◌<◌}
use native.Mathlib.Nat.{zero-mul, zero-add, le_refl}
use native.Mathlib.Decide.{dec_le}
use native.Mathlib.Omega.{arith}
use borrow.Author.Tests.{le-ltb}
use lib.Dec.{ltb}
use lib.ListN.{length, get_or, take, drop, replicate, length-append, length-replicate}
use lib.Seq.{drop-append_seam}
use Rattle.std.specs.Prelude.{Result, Ok, Err}
use Rattle.decision.specs.Index.{length_tabulate}
use Rattle.decision.specs.Layers.{entry, lookup, layer}
use Rattle.rules.specs.Contract.{Terms, terms_of, Returns, returns_of, Rates, rate_bytes, rates_of, Input}
use Rattle.rules.specs.Date.{Behaviour, static, mixed, dynamic}
use Rattle.rules.specs.Product.{recorded_amount, contract_value, value_layer, amount_layers, entries}
use Rattle.rules.specs.FixedTerm.{InRange, fixed_term, process_of, reach_by, layout_of, layer_size}
use Rattle.rules.specs.Refusals.{check, Verdict, accepted, refused, verdict, number_of, place_of, on_success, short, record_checks}
use Rattle.rules.specs.Operations.{Answer, answer, behaviour_number, behaviour_of, valuing_checks, work_after, valued_table, valued_answer}
use Rattle.rules.specs.Operations.{valued_work, slices_short, work_size, filled}
use Rattle.rules.specs.Printed.{decimal, line, name_of, refused_word, lines_of, value_line, return_line, line_count, text_of}
use Rattle.rules.specs.Printed.{zero_rate_bytes}
use Rattle.rules.specs.Printed.{program_of, program_verdict, printed}
use Rattle.laws.specs.Accepted.{Valid, input_both}
use Rattle.laws.specs.Date.{account_le}
use Rattle.laws.specs.Demand.{table_filled}
use Rattle.laws.specs.FixedTerm.{sound}
use Rattle.laws.specs.ThirdDemand.{valuing_accepts, valuing_valid, valued_reports}
use Rattle.contract.specs.declared.Refusal.{Refusal}
use Rattle.contract.specs.declared.Refusal.TheVariants as refusal
use Rattle.contract.specs.Refusal.{number_in, verdict_in}
use Rattle.input.specs.Accepted.{Both}
use Rattle.valuing.specs.declared.Valuation.{Valuation}
use Rattle.valuing.specs.Answered.{told, Valuing}
use Rattle.report.specs.Tables.{account_by, entry_by, table_line, lines_in, Filled, Valued, table_left, work_left}
use Rattle.laws.specs.Terms.{start_held, table_size}
use Rattle.laws.specs.Valuing.{valuing_no_table, no_table_read}

-- ---- the amounts of date 1
module _ (c : Terms) (rs : Returns) (ds : Rates) (k : ℕ) where
  reached_range : InRange c (reach_by c rs (start_held c) k)
  unfolding reach_by
  reached_range = record { account = account_le _ _ _ _; guarantee = le_refl c.premium }

  first_entry : entry_by c rs k ≡ entry (layout_of c) 1 (reach_by c rs (start_held c) k)
  unfolding entry layout_of reach_by entry_by account_by
  first_entry = sym (ap (λ (x : ℕ). x + (account_by c rs k * (c.premium + 1) + c.premium)) (zero-mul (layer_size c)) ∙ zero-add _)

  -- what the first layer holds for return k
  pub first_amount : Valid c → 1 < c.dates → (b : Behaviour) (rest : List ℕ)
      → get_or (amount_layers (fixed_term c rs ds) b ++ rest) (entry_by c rs k) 0
      ≡ recorded_amount (fixed_term c rs ds) b 1 (reach_by c rs (start_held c) k)
  unfolding lookup fixed_term process_of layout_of
  first_amount v later b rest =
      ap (λ (e : ℕ). get_or (amount_layers (fixed_term c rs ds) b ++ rest) e 0) first_entry
      ∙ table_filled (fixed_term c rs ds) (sound c rs ds v) b rest 1 (reach_by c rs (start_held c) k)
      (record { from = le_refl 1; before = later; range = reached_range })

-- ---- the same lines, the same text
pub lines_eq : (f g : ℕ → List ℕ) (n : ℕ) → ((k : ℕ) → k < n → f k ≡ g k) → lines_of f n ≡ lines_of g n
unfolding lines_of
lines_eq f g zero h = refl
lines_eq f g (suc n) h = ap₂ (λ (x y : List ℕ). x ++ y) (lines_eq f g n (λ k l. h k (omega arith))) (h n (le_refl (suc n)))

case_of : Verdict → ℕ
case_of accepted = 0
case_of (refused n p) = 1

pub not_both : {v : Verdict} {n p : ℕ} → accepted ≡ v → refused n p ≡ v → ⊥
unfolding case_of
not_both e f = let z : ◌≡◌ {A = ℕ} 0 1 = ap case_of (e ∙ sym f) in omega arith

-- ---- what is refused is no success
positive : (r : Refusal) → 0 < number_in r
positive refusal.RecordLength = omega arith
positive refusal.Premium = omega arith
positive refusal.Level = omega arith
positive refusal.Dates = omega arith
positive refusal.Rates = omega arith
positive refusal.Discount = omega arith
positive refusal.ListLength = omega arith
positive (refusal.Return k) = omega arith
positive refusal.Weights = omega arith
positive refusal.Behaviour = omega arith
positive refusal.Short = omega arith
positive refusal.State = omega arith
positive (refusal.Path k) = omega arith
positive (refusal.Amount k) = omega arith
positive refusal.Step = omega arith
positive refusal.MapShort = omega arith
positive refusal.RatesLength = omega arith
positive (refusal.DeathRate k) = omega arith
positive refusal.NoFee = omega arith

-- a verdict is what the answer tells, where number 0 is told of no refusal
pub verdict_told : (v : Verdict) (value premium : ℕ) (r : Result Valuation Refusal) → (number_of v ≡ 0 → v ≡ accepted)
    → told r ≡ answer v value premium → verdict_in r ≡ v
unfolding answer number_of place_of
verdict_told v value premium (Ok x) h e = sym (h (sym (ap (λ (a : Answer). a.number) e)))
verdict_told accepted value premium (Err r) h e =
    let p = positive r in
    let z : number_in r ≡ 0 = ap (λ (a : Answer). a.number) e in
    absurd (omega arith)
verdict_told (refused n p) value premium (Err r) h e = ap₂ refused (ap (λ (a : Answer). a.number) e) (ap (λ (a : Answer). a.place) e)

abbrev pub program_given : List ℕ → List ℕ → Input
program_given bytes list = record { bytes = bytes; list = list; rates = zero_rate_bytes bytes }

-- what the checks of a call say
abbrev pub said : List ℕ → List ℕ → ℕ → List ℕ → List ℕ → Verdict
said bytes list behaviour work table = verdict (valuing_checks (program_of bytes list) behaviour work table)

module _ (bytes list : List ℕ) where
  -- the checks ask no more of the slices than their lengths
  pub same_verdict : (behaviour : ℕ) (work table : List ℕ) → behaviour ≤ 2 → length work ≡ 4096 → length table ≡ 16384
      → said bytes list behaviour work table ≡ program_verdict bytes list
  unfolding program_verdict valuing_checks slices_short short behaviour_number
  same_verdict behaviour work table h long long_table =
      let known : ltb 2 behaviour ≡ ltb 2 0 = le-ltb 2 behaviour h ∙ sym (le-ltb 2 0 (omega arith)) in
      let work_is : length work ≡ length {A = ℕ} (replicate 4096 0) = long ∙ sym (length-replicate {A = ℕ} 4096 0) in
      let table_is : length table ≡ length {A = ℕ} (replicate 16384 0) = long_table ∙ sym (length-replicate {A = ℕ} 16384 0) in
      λ i. verdict
      ((program_of bytes list).checks
      ++ (check 10 0 (known i)
      ∷ check 11 0 (ltb (work_is i) (work_size (program_of bytes list)) || ltb (table_is i) (entries (program_of bytes list).product)) ∷ []))

  -- what a call answers
  module _ (behaviour : ℕ) (work table : List ℕ) (h : behaviour ≤ 2) (long : length work ≡ 4096) (long_table : length table ≡ 16384) where
    pub verdict_is : (r : Result Valuation Refusal)
        → told r ≡ valued_answer (program_of bytes list) (said bytes list behaviour work table) behaviour
        → verdict_in r ≡ program_verdict bytes list
    unfolding valued_answer
    verdict_is r e =
        verdict_told _ _ _ r (valuing_accepts (program_given bytes list) behaviour work table) e
        ∙ same_verdict behaviour work table h long long_table

    pub value_is : (v : Valuation) → told (Ok v) ≡ valued_answer (program_of bytes list) (said bytes list behaviour work table) behaviour
        → v.value ≡ contract_value (program_of bytes list).product (behaviour_of behaviour)
    value_is v e =
        ap (λ (a : Answer). a.value) e
        ∙ valued_reports (program_of bytes list) _ behaviour
        (same_verdict behaviour work table h long long_table ∙ sym (verdict_is (Ok v) e))

    pub table_left_lem : valued_table (program_of bytes list) (said bytes list behaviour work table) behaviour table
        ≡ table_left bytes list (behaviour_of behaviour) table
    unfolding valued_table table_left
    table_left_lem =
        ap (λ (v : Verdict). filled v (entries (program_of bytes list).product)
        (amount_layers (program_of bytes list).product (behaviour_of behaviour)) table)
        (same_verdict behaviour work table h long long_table)

    pub work_left_lem : valued_work (program_of bytes list) (said bytes list behaviour work table) behaviour work
        ≡ work_left bytes list (behaviour_of behaviour) work
    unfolding valued_work work_left
    work_left_lem =
        ap (λ (v : Verdict). work_after (program_of bytes list) v (value_layer (program_of bytes list).product (behaviour_of behaviour)) work)
        (same_verdict behaviour work table h long long_table)

  -- .. and leaves
  pub record Called (b : Behaviour) (work table : List ℕ) (r : Result Valuation Refusal) (work' table' : List ℕ) : Type 0 where
    pub verdict_of : verdict_in r ≡ program_verdict bytes list
    pub value_of : (v : Valuation) → r ≡ Ok v → v.value ≡ contract_value (program_of bytes list).product b
    pub work_of : work' ≡ work_left bytes list b work
    pub table_of : table' ≡ table_left bytes list b table

  pub called : (behaviour : ℕ) {rates work table : List ℕ} {r : Result Valuation Refusal} {work' table' : List ℕ} → behaviour ≤ 2
      → rates ≡ zero_rate_bytes bytes → length work ≡ 4096 → length table ≡ 16384
      → Valuing (record { bytes = bytes; list = list; rates = rates }) behaviour work table (told r) work' table'
      → Called (behaviour_of behaviour) work table r work' table'
  called behaviour {work = work} {table = table} {r = r} h e long long_table x =
      let y = rw e at x in record {
        verdict_of = verdict_is behaviour work table h long long_table r y.reported.answer_is;
        value_of = λ v is. value_is behaviour work table h long long_table v (rw is at y.reported.answer_is);
        work_of = y.reported.work_is ∙ work_left_lem behaviour work table h long long_table;
        table_of = y.reported.table_is ∙ table_left_lem behaviour work table h long long_table;
      }

  -- a refusal leaves all as it was
  module _ {n p : ℕ} (e : refused n p ≡ program_verdict bytes list) where
    pub table_kept : (b : Behaviour) (table : List ℕ) → table ≡ table_left bytes list b table
    unfolding table_left filled on_success
    table_kept b table = rw (← e)

    pub work_kept : (a b : Behaviour) (work : List ℕ) → work_left bytes list a work ≡ work_left bytes list b work
    unfolding work_left work_after filled on_success
    work_kept a b work = rw (← e)

  -- .. and prints this
  pub refused_printed : {n p : ℕ} → refused n p ≡ program_verdict bytes list → line refused_word (n ∷ p ∷ []) ≡ printed bytes list
  unfolding printed text_of
  refused_printed e = ap (text_of (program_of bytes list).product) e

  -- a call on what another left leaves what it would have left alone
  two_layers : (b : Behaviour)
      → length (value_layer (program_of bytes list).product b ++ replicate (layer_size (terms_of bytes)) 0) ≡ 2 * layer_size (terms_of bytes)
  unfolding value_layer layer fixed_term layout_of
  two_layers b =
      length-append (value_layer (program_of bytes list).product b) (replicate (layer_size (terms_of bytes)) 0)
      ∙ ap₂ ◌+◌ (length_tabulate (layer_size (terms_of bytes)) _) (length-replicate {A = ℕ} (layer_size (terms_of bytes)) 0)
      ∙ omega arith

  pub work_again : (a b : Behaviour) (work : List ℕ) → work_left bytes list b (work_left bytes list a work) ≡ work_left bytes list b work
  unfolding work_left work_after filled on_success fixed_term layout_of
  work_again a b work = go (program_verdict bytes list)
    where
      size : ℕ
      size = layer_size (terms_of bytes)

      layers : Behaviour → List ℕ
      layers x = value_layer (program_of bytes list).product x ++ replicate (layer_size (terms_of bytes)) 0

      go : (v : Verdict)
          → on_success v (layers b ++ drop (2 * size) (on_success v (layers a ++ drop (2 * size) work) work))
          (on_success v (layers a ++ drop (2 * size) work) work)
          ≡ on_success v (layers b ++ drop (2 * size) work) work
      go accepted =
          ap (λ (rest : List ℕ). layers b ++ rest)
          (ap (λ (k : ℕ). drop k (layers a ++ drop (2 * size) work)) (sym (two_layers a))
          ∙ drop-append_seam (layers a) (drop (2 * size) work))
      go (refused m p) = refl

  -- ---- what is printed where nothing is refused
  module _ (yes_to : program_verdict bytes list ≡ accepted) where
    -- what was accepted, and that the tables have room
    pub all_filled : {t₀ t₁ t₂ : List ℕ} → length t₀ ≡ 16384 → length t₁ ≡ 16384 → length t₂ ≡ 16384 → Filled bytes list t₀ t₁ t₂
    unfolding program_verdict behaviour_number entries table_size fixed_term process_of layout_of
    all_filled l₀ l₁ l₂ =
        let work = replicate {A = ℕ} 4096 0 in
        let table = replicate {A = ℕ} 16384 0 in
        let c = terms_of bytes in
        let both = valuing_no_table (program_of bytes list) 0 work table yes_to in
        let room = subst (λ (n : ℕ). table_size c ≤ n) (length-replicate {A = ℕ} 16384 0) both.1 in
        record {
          accepts = input_both (program_given bytes list) (no_table_read (program_of bytes list) 0 work both.0);
          tabled = record {
            static_room = omega (arith, room, l₀);
            mixed_room = omega (arith, room, l₁);
            dynamic_room = omega (arith, room, l₂);
          };
        }

    valid_terms : Valid (terms_of bytes)
    unfolding program_verdict behaviour_number
    valid_terms = (valuing_valid (program_given bytes list) 0 (replicate 4096 0) (replicate 16384 0) yes_to).terms

    -- the amounts that a call leaves are the recorded ones
    amounts : (b : Behaviour) (table : List ℕ) (k : ℕ) → 1 < (terms_of bytes).dates
        → get_or (table_left bytes list b table) (entry_by (terms_of bytes) (returns_of list) k) 0
        ≡ recorded_amount (program_of bytes list).product b 1
        (reach_by (terms_of bytes) (returns_of list) (start_held (terms_of bytes)) k)
    unfolding table_left filled on_success
    amounts b table k later =
        rw yes_to
        (first_amount (terms_of bytes) (returns_of list) (rates_of (zero_rate_bytes bytes)) k valid_terms later b
        (drop (entries (program_of bytes list).product) table))

    module _ {u₀ u₁ u₂ : List ℕ} (t₀ t₁ t₂ : List ℕ) (e₀ : u₀ ≡ table_left bytes list static t₀) (e₁ : u₁ ≡ table_left bytes list mixed t₁)
        (e₂ : u₂ ≡ table_left bytes list dynamic t₂) where
      return_line_lem : (k : ℕ) → 1 < (terms_of bytes).dates
          → table_line (terms_of bytes) (returns_of list) u₀ u₁ u₂ k ≡ return_line (program_of bytes list).product k
      unfolding table_line return_line fixed_term process_of reach_by account_by
      return_line_lem k later =
          let read : List ℕ → ℕ = λ t. get_or t (entry_by (terms_of bytes) (returns_of list) k) 0 in
          let static_is = ap read e₀ ∙ amounts static t₀ k later in
          let mixed_is = ap read e₁ ∙ amounts mixed t₁ k later in
          let dynamic_is = ap read e₂ ∙ amounts dynamic t₂ k later in
          λ i. line (decimal k) (account_by (terms_of bytes) (returns_of list) k ∷ (terms_of bytes).premium ∷ static_is i ∷ mixed_is i
          ∷ dynamic_is i ∷ [])

      lines_are : lines_of (table_line (terms_of bytes) (returns_of list) u₀ u₁ u₂) (line_count (program_of bytes list).product)
          ≡ lines_of (return_line (program_of bytes list).product) (line_count (program_of bytes list).product)
      unfolding line_count fixed_term process_of
      lines_are =
          lines_eq _ _ (line_count (program_of bytes list).product)
          (λ k l. return_line_lem k (later k l (dec_le 2 (terms_of bytes).dates)))
        where
          later : (k : ℕ) → k < cond (ltb 1 (terms_of bytes).dates) (returns_of list).count 0 → Dec (2 ≤ (terms_of bytes).dates)
              → 1 < (terms_of bytes).dates
          later k l (yes h) = h
          later k l (no h) =
              let none = le-ltb 1 (terms_of bytes).dates (omega arith) in
              let m : k < 0 = subst (λ (b : Bool). k < cond b (returns_of list).count 0) none l in
              absurd (omega arith)

      pub accepted_printed : {v₀ v₁ v₂ : ℕ} → Valued (program_of bytes list).product v₀ v₁ v₂
          → (line (name_of static) (v₀ ∷ []) ++ line (name_of mixed) (v₁ ∷ []) ++ line (name_of dynamic) (v₂ ∷ []))
          ++ lines_of (table_line (terms_of bytes) (returns_of list) u₀ u₁ u₂) (line_count (program_of bytes list).product)
          ≡ printed bytes list
      unfolding printed text_of value_line
      accepted_printed x =
          let static_is = x.static_is in
          let mixed_is = x.mixed_is in
          let dynamic_is = x.dynamic_is in
          (λ i. line (name_of static) (static_is i ∷ []) ++ line (name_of mixed) (mixed_is i ∷ []) ++ line (name_of dynamic)
          (dynamic_is i ∷ []) ++ lines_are i)
          ∙ ap (text_of (program_of bytes list).product) (sym yes_to)

-- ---- the lines of terms and returns that were read
pub lines_read : {bytes list list' : List ℕ} {c : Terms} {n : ℕ} (statics mixeds dynamics : List ℕ) → Both bytes list c n → list' ≡ list
    → lines_of (table_line c (returns_of list') statics mixeds dynamics) (lines_in c (returns_of list'))
    ≡ lines_of (table_line (terms_of bytes) (returns_of list) statics mixeds dynamics) (line_count (program_of bytes list).product)
unfolding line_count fixed_term process_of lines_in
lines_read {list = list} statics mixeds dynamics x e =
    rw e (ap (λ (t : Terms). lines_of (table_line t (returns_of list) statics mixeds dynamics)
    (cond (ltb 1 t.dates) (returns_of list).count 0)) x.terms)

-- ---- the rates that the program lends: the first n of 80 zeros
take_zeros : (m n : ℕ) → n ≤ m → take n (replicate {A = ℕ} m 0) ≡ replicate n 0
take_zeros m zero l = refl
take_zeros zero (suc n) l = absurd (omega arith)
take_zeros (suc m) (suc n) l = ap (λ (xs : List ℕ). 0 ∷ xs) (take_zeros m n (omega arith))

pub zeros_lent : (bytes : List ℕ) {n : ℕ}
    → (n ≡ on_success (verdict (record_checks bytes)) (rate_bytes * (terms_of bytes).dates) 0) × (n ≤ 80)
    → take n (replicate {A = ℕ} 80 0) ≡ zero_rate_bytes bytes
unfolding zero_rate_bytes
zeros_lent bytes {n} (is, few) = rw (← is) (take_zeros 80 n few)
