-- The margin's arithmetic, and the layers as the rules write them. Assumes nothing.
use mathlib.Core.Bool.{Bool, true, false, cond}
use mathlib.Core.List.{List, ◌++◌}
use mathlib.Core.Logic.{inl, inr, ◌⊎◌}
use Rattle.std.specs.Prelude.{Ok}
use mathlib.Core.Path.{◌≡◌, refl, ap, sym, ◌∙◌}
use Prim.Native.Nat.{ℕ, zero, suc, ◌+◌, ◌-◌, ◌*◌, ◌/◌, ◌%◌, ◌≤◌, ◌<◌}
use native.Mathlib.Nat.{mod-lt, div-add-mod', div-lt_iff_lt-mul, zero-add}
use native.Mathlib.Omega.{arith}
use lib.Dec.{ltb}
use lib.IntN.{pos, negsuc, ◌-ℤ◌, sub_ℕ}
use lib.Signed.{mag}
use borrow.Author.Tests.{lt-ltb, le-ltb}
use lib.ListN.{length, get_or, drop, replicate}
use Rattle.decision.specs.Process.{start_value}
use Rattle.decision.specs.Layers.{layer, layers}
use Rattle.slices.specs.Stored.{stored, length_stored, is_stored, stored_front}
use Rattle.slices.specs.Rows.{cells, flat}
use Rattle.rules.specs.Contract.{Terms, Returns, Rates, returns_of, rates_of, rate_most, Input}
use Rattle.rules.specs.Date.{Behaviour, maturity_value, margin}
use Rattle.rules.specs.Product.{contract_value, value_layer, amount_layers, state_value, recorded_amount, entries}
use Rattle.rules.specs.FixedTerm.{fixed_term, process_of, layout_of, layer_size, State, Held}
use Rattle.rules.specs.Refusals.{accepted, refused, verdict, number_of, place_of, on_success, short, input_checks, Verdict}
use Rattle.rules.specs.Operations.{Answer, answer, work_after, filled, work_size, Policy, valued_answer, valued_work}
use Rattle.rules.specs.Operations.{no_table_checks, valuing_checks}
use Rattle.laws.specs.Date.{shared}
use Rattle.laws.specs.Accepted.{and_then}
use Rattle.laws.specs.FixedTerm.{size_some}
use Rattle.laws.specs.Valuing.{behaviour_refused, work_refused, work_accepted, table_last, table_verdict, no_table_refused}
use Rattle.contract.specs.Reading.{terms_in, turned, taken}
use Rattle.date.specs.Behaviour.{behaviour_in}
use Rattle.date.specs.declared.Behaviour as date
use Rattle.input.specs.declared.Policy as input
use Rattle.input.specs.Read.{input_read}
use Rattle.input.specs.Accepted.{Agreed, agreed, disagreed, agree, refuse, input_read_lem, input_not_read}
use Rattle.laws.specs.AnyOrder.{Reordered}
use Rattle.laws.proofs.AnyOrder.{any_order_state, any_order_amount}
use Rattle.expect.specs.Expected.{expected, shared_same}
use Rattle.dates.specs.Back.{at, values_on, shared_expects, Valued, Starting}
use Rattle.valuing.specs.declared.Valuation.{Valuation}
use Rattle.valuing.specs.Answered.{told, refusal, valuing_agreed, Settled, Worked, Answered, Reported, Valuing, WorkLent}
use Rattle.valuing.specs.Answered.{no_table_agreed, ValuingNoTable, Passed, of_the_bytes}
use Rattle.valuing.specs.First.{First, first_layer, first_from_lem, first_mature}
use Rattle.laws.specs.Terms.{table_size}
use Rattle.rules.specs.Policy.{policy_of}
use Rattle.laws.specs.ThirdDemand.{valued_number, valuing_accepts, no_table_claim, valued_claim, valuing_valid}

pub diff : (a b : ℕ) → pos a -ℤ pos b ≡ sub_ℕ a b
diff a zero = rw (le-ltb a 0 (omega arith)) (ap pos (omega arith))
diff a (suc b) = refl

pub mag_sub : (a b n : ℕ) → a < n → b < n → mag (sub_ℕ a b) < n
mag_sub a b n h k = by (ltb a b)
  where
    by : (t : Bool) → mag (cond t (negsuc (b - suc a)) (pos (a - b))) < n
    by true = omega arith
    by false = omega arith

module _ {b : Behaviour} {c : Terms} {rs : Returns} {ds : Rates} {work table work' table' : List ℕ}
    (v : Valued b c rs ds work table work' table' 0)
  where
    -- the sum over the first return of the values of date 1 is the contract's value
    pub contract_value_lem : ds 0 ≤ rate_most
        → expected c rs (shared (ds 0) (cells work' 0 (c.premium + 1))) c.premium c.premium ≡ contract_value (fixed_term c rs ds) b
    unfolding contract_value start_value state_value fixed_term process_of
    contract_value_lem small =
        shared_same c rs (ds 0) _ _ c.premium c.premium (λ w l. v.values w c.premium l (omega arith))
        ∙ sym (shared_expects c rs ds 0 _ c.premium c.premium small)

    pub first : First (values_on c rs ds b 1) c work work'
    first = record { long = v.long; values = v.values; rest = v.rest }

    -- the first layer with zeros behind it
    pub work_layers : layer_size c + layer_size c ≤ length work
        → stored work' (layer_size c) (λ (i : ℕ). 0) (layer_size c)
        ≡ value_layer (fixed_term c rs ds) b ++ replicate (layer_size c) 0 ++ drop (2 * layer_size c) work
    unfolding value_layer layer fixed_term layout_of
    work_layers room = first_layer first room

    -- the layers of the table with the rest behind them
    pub table_layers : table_size c ≤ length table → 0 < layer_size c
        → table' ≡ amount_layers (fixed_term c rs ds) b ++ drop (table_size c) table
    unfolding amount_layers layers fixed_term process_of layout_of table_size layer_size
    table_layers room some =
        is_stored table table' 0 _ ((c.dates - 1) * layer_size c) v.long_table (omega arith) cell rest ∙ stored_front table _ _ room
      where
        rest : (j : ℕ) → (j < 0) ⊎ (0 + (c.dates - 1) * layer_size c ≤ j) → get_or table' j 0 ≡ get_or table j 0
        rest j (inl h) = absurd (omega arith)
        rest j (inr h) = v.rest_table j (omega arith)

        cell : (e : ℕ) → e < (c.dates - 1) * layer_size c
            → get_or table' (0 + e) 0
            ≡ recorded_amount (fixed_term c rs ds) b (suc (e / layer_size c))
            (at (e % layer_size c / (c.premium + 1)) (e % layer_size c % (c.premium + 1)))
        cell e l =
            let p : 0 < c.premium + 1 = omega arith in
            let size = layer_size c in
            let j = e / size in
            let r = e % size in
            let w = r / (c.premium + 1) in
            let a = r % (c.premium + 1) in
            let dj = (div-lt_iff_lt-mul some).1 l in
            let dr = mod-lt e some in
            let dw = (div-lt_iff_lt-mul p).1 dr in
            let da = mod-lt r p in
            let whole : (suc j - 1) * size + (w * (c.premium + 1) + a) ≡ 0 + e =
            ap (λ (x : ℕ). (suc j - 1) * size + x) (div-add-mod' r (c.premium + 1))
            ∙ (let z : suc j - 1 ≡ j = omega arith in rw z (div-add-mod' e size)) ∙ sym (zero-add e) in
            ap (λ (x : ℕ). get_or table' x 0) (sym whole)
            ∙ v.amounts (suc j) w a (omega arith) (omega arith) (omega arith) (omega arith) (omega arith)

-- maturity values put into the first layer change nothing that is kept
pub from_start : {b : Behaviour} {c : Terms} {rs : Returns} {ds : Rates} {work work₁ table work' table' : List ℕ} (f : ℕ → ℕ)
    → work₁ ≡ stored work 0 f (layer_size c) → Valued b c rs ds work₁ table work' table' 0 → Valued b c rs ds work table work' table' 0
from_start f e v =
    let x = first_from_lem f e (first v) in record {
      long = x.long;
      long_table = v.long_table;
      values = v.values;
      amounts = v.amounts;
      rest = x.rest;
      rest_table = v.rest_table;
    }

-- the values and amounts of the returns in another order are those of the list
pub of_the_list : {b : Behaviour} {c : Terms} {rs us : Returns} {ds : Rates} {work table work' table' : List ℕ} → Reordered rs us
    → Valued b c us ds work table work' table' 0 → Valued b c rs ds work table work' table' 0
of_the_list {b} {c} {ds = ds} same v = record {
  long = v.long;
  long_table = v.long_table;
  values = λ w a h l. v.values w a h l ∙ sym (any_order_state same c ds b 1 (at w a));
  amounts = λ j w a i l h k m. v.amounts j w a i l h k m ∙ sym (any_order_amount same c ds b j (at w a));
  rest = v.rest;
  rest_table = v.rest_table;
}

-- the first layer at maturity
pub starting : {c : Terms} {work work' : List ℕ} → (lent : WorkLent c work)
    → work' ≡ stored work 0 (flat (c.premium + 1) maturity_value) (layer_size c) → Starting c work'
unfolding layer_size
starting {c} {work} lent e = record {
  room =
      let l = ap length e ∙ length_stored work 0 (flat (c.premium + 1) maturity_value) ((c.top + 1) * (c.premium + 1)) in
      omega (arith, lent.room);
  mature = first_mature c work (omega (arith, lent.room)) e;
}

-- ---- what terms that were read answer
pub answered : {b : Behaviour} {c : Terms} {rs : Returns} {ds : Rates} {work table work' table' : List ℕ} (r : Valuation)
    (work'' : List ℕ) → layer_size c + layer_size c ≤ length work → ds 0 ≤ rate_most
    → Valued b c rs ds work table work' table' 0 → Settled c rs (ds 0) work' r work'' → Answered b c rs ds work table r work'' table'
unfolding answer work_after filled on_success number_of place_of fixed_term layout_of
answered {b} {c} {rs} {ds} r work'' room small d s =
    let value : r.value ≡ contract_value (fixed_term c rs ds) b = s.value_is ∙ contract_value_lem d small in record {
      worked = record {
        answer_is = λ i. record {
          number = 0;
          place = 0;
          value = value i;
          margin = (s.margin_is ∙ ap (λ (x : ℕ). margin x c.premium) value) i;
        };
        work_is = s.work_is ∙ work_layers d room;
      };
      table_is = λ all. table_layers d all (size_some c);
    }

-- ---- the checks of a valuation, one after the other: those that need no table ..
module _ (x : Input) (behaviour : ℕ) (work : List ℕ) where
  abbrev p : Policy State Held
  p = policy_of x

  pub check_read : {n q : ℕ} → turned n q ≡ input_read x → turned n q ≡ no_table_agreed x behaviour work
  check_read e = refuse _ _ _ _ _ (no_table_refused p behaviour work (input_not_read x (sym e)))

  module _ {c : Terms} {n : ℕ} (read : taken (c, n) ≡ input_read x) where
    known : Agreed (verdict (input_checks x)) x.bytes x.list c n
    known = input_read_lem x c n (sym read)

    -- the entries that the terms need are those of the policy
    same_room : (t : Bool) → short (2 * layer_size c) work ≡ t → short (work_size p) work ≡ t
    unfolding fixed_term layout_of
    same_room t e = ap (λ (z : Terms). short (2 * layer_size z) work) (sym known.terms) ∙ e

    pub check_behaviour : 2 < behaviour → turned 10 0 ≡ no_table_agreed x behaviour work
    check_behaviour l = refuse _ _ _ 10 0 (behaviour_refused p behaviour work known.accepts (lt-ltb _ _ l))

    pub check_work : behaviour ≤ 2 → length work < 2 * layer_size c → turned 11 0 ≡ no_table_agreed x behaviour work
    unfolding short
    check_work l few =
        refuse _ _ _ 11 0 (work_refused p behaviour work known.accepts (le-ltb _ _ l) (same_room true (lt-ltb _ _ few)))

    pub check_passed : behaviour ≤ 2 → 2 * layer_size c ≤ length work → taken (c, n) ≡ no_table_agreed x behaviour work
    unfolding short
    check_passed l room =
        agree _ _ _ (record {
          accepts = work_accepted p behaviour work known.accepts (le-ltb _ _ l) (same_room false (le-ltb _ _ room));
          terms = known.terms;
          count = known.count;
        })

-- .. and that of the table
module _ (x : Input) (behaviour : ℕ) (work table : List ℕ) where
  pub table_refused : {n q : ℕ} → turned n q ≡ no_table_agreed x behaviour work → turned n q ≡ valuing_agreed x behaviour work table
  table_refused e =
      refuse _ _ _ _ _ (table_last (policy_of x) behaviour work table
      ∙ ap (λ (v : Verdict). and_then v (table_verdict (policy_of x) behaviour work table)) (disagreed _ _ _ (sym e)))

  module _ {c : Terms} {n : ℕ} (read : taken (c, n) ≡ no_table_agreed x behaviour work) where
    told_first : Agreed (verdict (no_table_checks (policy_of x) behaviour work)) x.bytes x.list c n
    told_first = agreed _ _ _ c n (sym read)

    last : verdict (valuing_checks (policy_of x) behaviour work table) ≡ cond (short (table_size c) table) (refused 11 0) accepted
    unfolding verdict entries table_size fixed_term process_of layout_of
    last =
        table_last (policy_of x) behaviour work table
        ∙ ap (λ (v : Verdict). and_then v (table_verdict (policy_of x) behaviour work table)) told_first.accepts
        ∙ ap (λ (t : Terms). cond (short (table_size t) table) (refused 11 0) accepted) (sym told_first.terms)

    pub table_short : length table < table_size c → turned 11 0 ≡ valuing_agreed x behaviour work table
    unfolding short
    table_short l = refuse _ _ _ 11 0 (last ∙ rw (lt-ltb _ _ l))

    pub table_passed : table_size c ≤ length table → taken (c, n) ≡ valuing_agreed x behaviour work table
    unfolding short
    table_passed l =
        agree _ _ _ (record { accepts = last ∙ rw (le-ltb _ _ l); terms = told_first.terms; count = told_first.count })

-- ---- what a call answers, on any input: the claim follows from the equations
pub valuing : (x : Input) (behaviour : ℕ) (work table : List ℕ) {r : Answer} {work' table' : List ℕ}
    → Reported (policy_of x) (verdict (valuing_checks (policy_of x) behaviour work table)) behaviour work table r work' table'
    → Valuing x behaviour work table r work' table'
valuing x behaviour work table {r} w = record {
  reported = w;
  claim = λ zero_number.
      let v = verdict (valuing_checks (policy_of x) behaviour work table) in
      let number =
      sym (valued_number (policy_of x) v behaviour) ∙ ap (λ (a : Answer). a.number) (sym w.answer_is) ∙ zero_number in
      let yes_to = valuing_accepts x behaviour work table number in
      rw (ap (λ (a : Answer). a.value) w.answer_is, w.table_is)
      (valued_claim x v behaviour table yes_to (valuing_valid x behaviour work table yes_to).terms);
}

-- .. and with no table
module _ (x : Input) (behaviour : ℕ) (work : List ℕ) where
  abbrev said : Verdict
  said = verdict (no_table_checks (policy_of x) behaviour work)

  no_table : {r : Answer} {work' : List ℕ} → r ≡ valued_answer (policy_of x) said behaviour
      → work' ≡ valued_work (policy_of x) said behaviour work
      → ValuingNoTable x behaviour work r work'
  no_table is left = record {
    answer_is = is;
    work_is = left;
    claim = λ zero_number rest.
        let number =
        sym (valued_number (policy_of x) said behaviour) ∙ ap (λ (a : Answer). a.number) (sym is) ∙ zero_number in
        rw (ap (λ (a : Answer). a.value) is) (no_table_claim x behaviour work number rest);
  }

  pub no_table_refuses : {r : Answer} (n q : ℕ) → said ≡ refused n q → r ≡ refusal n q → ValuingNoTable x behaviour work r work
  unfolding valued_answer valued_work answer work_after filled on_success number_of place_of
  no_table_refuses n q e f = no_table (rw e f) (rw e)

  pub no_table_values : {r : Valuation} {work' : List ℕ} {policy : input.Policy} {b : date.Behaviour} → Passed said x behaviour policy b
      → Worked (behaviour_in b) (terms_in policy.contract) (returns_of policy.list.now) (rates_of policy.rates.now) work r work'
      → ValuingNoTable x behaviour work (told (Ok r)) work'
  unfolding valued_answer valued_work work_after filled on_success fixed_term layout_of
  no_table_values {r} {work'} passed w =
      let v = of_the_bytes passed (λ d t list rates. Worked d t (returns_of list) (rates_of rates) work r work') w in
      no_table (rw passed.accepts v.answer_is) (rw passed.accepts v.work_is)
