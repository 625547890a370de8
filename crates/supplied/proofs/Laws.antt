-- What the loops that follow a table read and store. Assumes nothing.
use mathlib.Core.List.{List, ◌++◌}
use Rattle.std.specs.Prelude.{Option, Some, None, Ok}
use borrow.Author.Tests.{lt-ltb}
use mathlib.Core.Logic.{inr}
use mathlib.Core.Path.{◌≡◌, refl, ap, ap₂, sym, ◌∙◌, subst}
use Prim.Native.Nat.{ℕ, suc, ◌+◌, ◌-◌, ◌*◌, ◌≤◌, ◌<◌, max}
use native.Mathlib.Nat.{zero-add, le_trans, le_of_eq}
use native.Mathlib.Numerals.{add-one}
use native.Mathlib.Omega.{arith}
use lib.Dec.{T}
use lib.ListN.{length, get_or, drop, replicate}
use borrow.Rule.Slice.PartMut.{mid_of}
use Rattle.decision.specs.Index.{first, Searched, run_hit, run_end}
use Rattle.decision.specs.Process.{worth, table_value, start_table_value}
use Rattle.decision.proofs.Optimal.{table_step, table_last}
use Rattle.decision.specs.Layers.{low_digit, lookup, layer}
use Rattle.slices.specs.Parts.{part_at}
use Rattle.slices.specs.Found.{found, found_first, none_first}
use Rattle.slices.specs.Stored.{stored, length_stored, stored_out}
use Rattle.slices.specs.Rows.{cells, flat, rows_le, rows_step, row_next, layer_stored}
use Rattle.rules.specs.Contract.{Terms, top_most, rate_most, terms_of, Returns, returns_of, Rates, rates_of, Input}
use Rattle.rules.specs.Date.{dynamic, free_amount, admits, maturity_value, margin}
use Rattle.rules.specs.Product.{supplied_value, supplied_layer}
use Rattle.rules.specs.Refusals.{Verdict, accepted, refused, verdict, number_of, place_of, on_success, input_checks}
use Rattle.rules.specs.FixedTerm.{free_in, admissible_in, rate_in, cash_in, after_in, process_of, layer_size, layout_of, fixed_term}
use Rattle.rules.specs.Operations.{Answer, answer, work_after, supplied_answer, supplied_work, filled}
use Rattle.laws.specs.Supplied.{all_admitted, table_checked, supplied_refused, supplied_then}
use Rattle.laws.specs.Date.{dynamic_is, shared}
use Rattle.laws.specs.Accepted.{Valid, ValidInput}
use Rattle.laws.specs.Bounds.{table_value_le, state_most, entry_most}
use Rattle.laws.specs.AnyOrder.{Reordered}
use Rattle.laws.proofs.AnyOrder.{any_order_table}
use Rattle.returns.specs.Sorted.{OrderedInput}
use Rattle.expect.specs.Expected.{expected, shared_same}
use Rattle.keys.specs.declared.Date.{Date}
use Rattle.keys.specs.Sums.{sums, Sums, sum_in, row_in, sums_less, sums_kept, sums_same}
use Rattle.worth.specs.Worth.{worth_over, worth_same}
use Rattle.dates.specs.Back.{at, expected_on, shared_expects}
use Rattle.dates.specs.Dated.{date_of, Summed}
use Rattle.dates.specs.Layer.{DateLayer, layer_long, layer_entry}
use Rattle.valuing.specs.declared.Valuation.{Valuation}
use Rattle.valuing.specs.Answered.{refusal, told, Settled}
use Rattle.valuing.specs.First.{First, first_layer, first_mature}
use Rattle.supplied.specs.Followed.{followed, followed_on, Following, Dating, Back, table_on, Starting, Answered, Supplying}
use Rattle.laws.specs.Terms.{table_size, bad_at, bad_in}
use Rattle.rules.specs.Policy.{policy_of}

-- ---- one state
module _ {work : List ℕ} {d : Date} (w : ℕ) {a : ℕ} (s : Sums work d (w + 1)) (l : a < d.stride) where
  -- the sum of a balance and guarantee that a withdrawal leads to
  pub sum_within : (x y : ℕ) → x ≤ w → y ≤ a → d.base + (x * d.stride + y) < length work
  sum_within x y h k = let e = sum_in s x y 1 (omega arith) (omega arith) in omega arith

  pub sum_most_lem : (x y : ℕ) → x ≤ w → y ≤ a → sums work d x y ≤ entry_most
  sum_most_lem x y h k = s.small x y (omega arith) (omega arith)

  pub amount_most_lem : (t : ℕ) → t ≤ max w (free_amount d.level a) → t ≤ top_most
  unfolding free_amount
  amount_most_lem t h = omega (arith, s.few, s.width)

-- ---- one row
module _ {work layer : List ℕ} {d : Date} (w : ℕ) (f : Following work layer d (w + 1)) where
  pub row_room : (a : ℕ) → a < d.stride → w * d.stride + a < length work
  row_room a l = let e = row_in f.layers w a 1 (omega arith) (omega arith) in omega (arith, f.layers.room)

  pub row_entry : (a : ℕ) → a < d.stride → w * d.stride + a < length layer
  row_entry a l = let s = rows_step d.stride w in omega (arith, f.entries)

  pub amount_within : (a : ℕ) → a < d.stride → cells layer 0 d.stride w a ≤ max w (free_amount d.level a)
  amount_within a l =
      dynamic_is (free_amount d.level a) w (cells layer 0 d.stride w a) (f.admitted w a (omega arith) l)

  -- while it is stored, the second layer stays
  module _ (g : ℕ → ℕ) (n : ℕ) (h : n ≤ d.stride) where
    row_end : w * d.stride + n ≤ d.base
    row_end = let e = row_in f.layers w 0 n (omega arith) (omega arith) in omega arith

    pub row_sums : sums (stored work (w * d.stride) g n) d ≡ sums work d
    row_sums = sums_same work d (w * d.stride) n g row_end

    pub row_layers : Sums (stored work (w * d.stride) g n) d (w + 1)
    row_layers = sums_kept f.layers (w * d.stride) n g row_end

-- ---- row after row
module _ {work layer : List ℕ} {d : Date} {n : ℕ} (f : Following work layer d n) (w : ℕ) (h : w + 1 ≤ n) (work' : List ℕ)
    (is : work' ≡ stored work 0 (flat d.stride (followed_on d work layer)) (w * d.stride))
  where
    rows_end : 0 + w * d.stride ≤ d.base
    rows_end = let e = row_in f.layers w 0 0 (omega arith) (omega arith) in omega arith

    pub following_on : Following work' layer d (w + 1)
    following_on = record {
      layers = rw is (sums_less (sums_kept f.layers 0 (w * d.stride) _ rows_end) (w + 1) h);
      entries = let l = rows_le d.stride (w + 1) n h in omega (arith, f.entries);
      admitted = λ x a i k. f.admitted x a (omega arith) k;
    }

    pub follow_step : stored work' (w * d.stride) (followed_on d work' layer w) d.stride
        ≡ stored work 0 (flat d.stride (followed_on d work layer)) ((w + 1) * d.stride)
    follow_step =
        let same = ap (λ (xs : List ℕ). sums xs d) is ∙ sums_same work d 0 (w * d.stride) _ rows_end in
        ap (λ (xs : List ℕ). stored xs (w * d.stride) (followed_on d work' layer w) d.stride) is
        ∙ row_next work d.stride w (followed_on d work layer) _ (λ a l.
        ap (λ (e : ℕ → ℕ → ℕ). followed e (cells layer 0 d.stride) d.rate d.level w a) same)

-- ---- one date
module _ {c : Terms} {i : ℕ} {work layer work₁ : List ℕ} {rs : Returns} (rates : List ℕ) {date : Date} (d : Dating c i work layer)
    (is : date ≡ date_of c i) (told : Summed c rs (rates_of rates i) work work₁ date)
  where
    s : Summed c rs (rates_of rates i) work work₁ (date_of c i)
    s = subst (Summed c rs (rates_of rates i) work work₁) is told

    pub following : Following work₁ layer date (c.top + 1)
    unfolding layer_size
    following = subst (λ (x : Date). Following work₁ layer x (c.top + 1)) (sym is) (record {
      layers = s.layers;
      entries = omega (arith, d.layer_is);
      admitted = λ w a i k. d.admitted w a (omega arith) (omega arith);
    })

    pub back : {work₂ : List ℕ} → work₂ ≡ stored work₁ 0 (flat date.stride (followed_on date work₁ layer)) ((c.top + 1) * date.stride)
        → Back c rs (rates_of rates) i work layer work₂
    unfolding layer_size
    back e =
        let values =
        e ∙ ap (λ (x : Date). stored work₁ 0 (flat x.stride (followed_on x work₁ layer)) ((c.top + 1) * x.stride)) is in record {
          long = ap length values ∙ length_stored work₁ 0 _ _ ∙ s.long;
          values = λ w a h l.
              let first = layer_stored work₁ 0 (c.premium + 1) (c.top + 1) _ (let r = s.layers.room in omega arith) in
              ap (λ (xs : List ℕ). cells xs 0 (c.premium + 1) w a) values
              ∙ first.cell w a (omega arith) (omega arith)
              ∙ worth_same _ _ (rate_in c i) (free_amount c.level a) w a _ (λ x y p q. s.sums_are x y (le_trans p h) (le_trans q l));
          rest = λ i h. ap (λ (xs : List ℕ). get_or xs i 0) values ∙ stored_out work₁ 0 _ _ i (inr (omega arith)) ∙ s.rest i h;
        }

-- ---- the search, date by date: in the layer of date i, once the layers before it are passed
module _ {c : Terms} {i from to : ℕ} (p : DateLayer c i from to) (some : 0 < i) (table : List ℕ) (room : table_size c ≤ length table)
    (x : Searched (bad_in c table) (table_size c) ((i - 1) * layer_size c))
  where
    fits : (i - 1) * layer_size c + layer_size c ≤ table_size c
    fits = let s = p.start in let e = p.end in let w = p.within in omega arith

    same : (e : ℕ) → e < layer_size c
        → bad_in c table ((i - 1) * layer_size c + e) ≡ bad_at c e (get_or (mid_of from (to - from) table) e 0)
    same e l =
        let end = p.end in
        ap₂ (bad_at c) (low_digit (i - 1) e (layer_size c) l)
        (ap (λ (y : ℕ). get_or table (y + e) 0) (sym p.start) ∙ sym (part_at from to e table (omega arith)))

    module _ (e : ℕ)
        (is : found (λ (k : ℕ). bad_at c k (get_or (mid_of from (to - from) table) k 0)) (length (mid_of from (to - from) table)) ≡ Some e)
      where
        inside : (first (λ (k : ℕ). bad_at c k (get_or (mid_of from (to - from) table) k 0)) (layer_size c) ≡ e) × (e < layer_size c)
        inside = rw (layer_long p table room) at (found_first _ _ is)

        pub entry_small : from + e < table_size c
        entry_small = let l = inside.1 in let s = p.end in let w = p.within in omega arith

        pub entry_found : Some (from + e) ≡ found (bad_in c table) (table_size c)
        unfolding found
        entry_found =
            let at : first (bad_in c table) (table_size c) ≡ from + e =
            run_hit x fits same inside.0 inside.1 ∙ ap (λ (y : ℕ). y + e) (sym p.start) in
            rw (at, lt-ltb _ _ entry_small) refl

    pub layer_passed :
        ◌≡◌ {A = Option ℕ}
        (found (λ (k : ℕ). bad_at c k (get_or (mid_of from (to - from) table) k 0)) (length (mid_of from (to - from) table))) None
        → Searched (bad_in c table) (table_size c) ((i + 1 - 1) * layer_size c)
    layer_passed none =
        let up : i - 1 + 1 ≡ i + 1 - 1 = omega arith in
        let whole : layer_size c ≤ first (λ (k : ℕ). bad_at c k (get_or (mid_of from (to - from) table) k 0)) (layer_size c) =
        rw (layer_long p table room) at (none_first _ _ none) in
        subst (Searched _ _) (rows_step (layer_size c) (i - 1) ∙ ap (λ (n : ℕ). n * layer_size c) up) (run_end x fits same refl whole)

-- ---- from one date to the date before it
table_on_back : (c : Terms) (rs : Returns) (ds : Rates) (table : List ℕ) (i w a : ℕ) → ds i ≤ rate_most → i < c.dates
    → worth_over (expected c rs (shared (ds i) (table_on c rs ds table (suc i)))) (rate_in c i) (free_amount c.level a) w a
    (lookup (layout_of c) table i (at w a))
    ≡ table_on c rs ds table i w a
unfolding process_of cash_in after_in free_in worth worth_over
table_on_back c rs ds table i w a small l =
    worth_same _ (expected_on c rs ds i (table_value (process_of c rs ds) (lookup (layout_of c) table) (suc i))) (rate_in c i)
    (free_amount c.level a) w a _ (λ x y p q. sym (shared_expects c rs ds i _ x y small))
    ∙ sym (table_step (process_of c rs ds) (lookup (layout_of c) table) i (at w a) l)

last_is : (c : Terms) (rs : Returns) (ds : Rates) (table : List ℕ) (w a : ℕ) → table_on c rs ds table c.dates w a ≡ maturity_value w a
unfolding process_of
last_is c rs ds table w a = table_last (process_of c rs ds) (lookup (layout_of c) table) (at w a)

admitted_at : (c : Terms) (rs : Returns) (ds : Rates) (table : List ℕ) → Valid c → table_size c ≤ first (bad_in c table) (table_size c)
    → (i w a : ℕ) → 0 < i → i < c.dates → w ≤ c.top → a ≤ c.premium
    → T (admits dynamic (free_amount c.level a) w (lookup (layout_of c) table i (at w a)))
unfolding admissible_in free_in process_of
admitted_at c rs ds table valid none i w a some before h l =
    all_admitted c rs ds table valid none i (at w a)
    (record { from = some; before = before; range = record { account = h; guarantee = l } })

-- no value of a table whose entries are admitted is above what a contract's values can be
pub table_on_most : {c : Terms} (rs : Returns) (ds : Rates) (table : List ℕ) → ValidInput c rs ds
    → table_size c ≤ first (bad_in c table) (table_size c)
    → (i w a : ℕ) → 1 ≤ i → i ≤ c.dates → w ≤ c.top → a ≤ c.premium → table_on c rs ds table i w a ≤ state_most c i
table_on_most {c} rs ds table v none i w a some before h l =
    let good = all_admitted c rs ds table v.terms none in
    table_value_le c rs ds v (lookup (layout_of c) table) good i (at w a) some before (record { account = h; guarantee = l })

module _ {c : Terms} {work₀ table work : List ℕ} {rs : Returns} {rates : List ℕ} (g : OrderedInput c rs rates) (s : Starting c work₀ table)
    {i from to : ℕ} (p : DateLayer c i from to) (some : 0 < i) (before : i < c.dates)
    (v : First (table_on c rs (rates_of rates) table (suc i)) c work₀ work)
  where
    -- the entries of the date's layer
    amount_is : (w a : ℕ) → w ≤ c.top → a ≤ c.premium
        → cells (mid_of from (to - from) table) 0 (c.premium + 1) w a ≡ lookup (layout_of c) table i (at w a)
    amount_is w a h l =
        ap (λ (x : ℕ). get_or (mid_of from (to - from) table) x 0) (zero-add (w * (c.premium + 1) + a))
        ∙ layer_entry p table s.entries h l

    pub dating : Dating c i work (mid_of from (to - from) table)
    dating = record {
      date = record {
        before = before;
        first = record {
          layers = record { valid = g.valid.terms; room = omega (arith, s.room, v.long) };
          small = λ w a h l.
              le_trans (le_of_eq (v.values w a h l))
              (subst (λ (n : ℕ). table_on c rs (rates_of rates) table (suc i) w a ≤ state_most c n) (sym (add-one i))
              (table_on_most rs (rates_of rates) table g.valid s.none_bad (suc i) w a (omega arith) (omega arith)
              h l));
        };
      };
      layer_is = layer_long p table s.entries;
      admitted = λ w a h l.
          subst (λ (t : ℕ). T (admits dynamic (free_amount c.level a) w t)) (sym (amount_is w a h l))
          (admitted_at c rs (rates_of rates) table g.valid.terms s.none_bad i w a some before h l);
    }

    -- the sums are those of the next date's values
    next_sums : (x y : ℕ) → y ≤ c.premium
        → expected c rs (shared (rates_of rates i) (cells work 0 (c.premium + 1))) x y
        ≡ expected c rs (shared (rates_of rates i) (table_on c rs (rates_of rates) table (suc i))) x y
    next_sums x y k = shared_same c rs (rates_of rates i) _ _ x y (λ w h. v.values w y h k)

    pub first_before : (work₁ : List ℕ) → Back c rs (rates_of rates) i work (mid_of from (to - from) table) work₁
        → First (table_on c rs (rates_of rates) table i) c work₀ work₁
    first_before work₁ d = record {
      long = d.long ∙ v.long;
      values = λ w a h l.
          let sums = expected c rs (shared (rates_of rates i) (cells work 0 (c.premium + 1))) in
          let m = free_amount c.level a in
          d.values w a h l
          ∙ ap (worth_over sums (rate_in c i) m w a) (amount_is w a h l)
          ∙ worth_same _ _ (rate_in c i) m w a (lookup (layout_of c) table i (at w a)) (λ x y p q. next_sums x y (le_trans q l))
          ∙ table_on_back c rs (rates_of rates) table i w a (g.valid.rates.rate i) before;
      rest = λ x h. d.rest x h ∙ v.rest x h;
    }

pub first_none : {c : Terms} {work table : List ℕ} {rs : Returns} {rates : List ℕ} → OrderedInput c rs rates → Starting c work table
    → First (table_on c rs (rates_of rates) table c.dates) c work work
first_none {c} {work} {table} {rs} {rates} g s = record {
  long = refl;
  values = λ w a h l. s.mature w a h l ∙ sym (last_is c rs (rates_of rates) table w a);
  rest = λ x h. refl;
}

-- the values of the returns in another order are those of the list
pub of_the_list : {c : Terms} {rs us : Returns} (ds : Rates) (table : List ℕ) {work work' : List ℕ} → Reordered rs us
    → First (table_on c us ds table 1) c work work' → First (table_on c rs ds table 1) c work work'
of_the_list {c} ds table same v = record {
  long = v.long;
  values = λ w a h l. v.values w a h l ∙ sym (any_order_table same c ds (lookup (layout_of c) table) 1 (at w a));
  rest = v.rest;
}

pub starting : {c : Terms} {work' table : List ℕ} (work : List ℕ)
    → layer_size c + layer_size c ≤ length work → table_size c ≤ length table → table_size c ≤ first (bad_in c table) (table_size c)
    → work' ≡ stored work 0 (flat (c.premium + 1) maturity_value) (layer_size c) → Starting c work' table
starting {c} {work'} work room room_table none e = record {
  room = let l = ap length e ∙ length_stored work 0 (flat (c.premium + 1) maturity_value) (layer_size c) in omega arith;
  entries = room_table;
  none_bad = none;
  mature = first_mature c work (omega arith) e;
}

module _ (rs : Returns) (ds : Rates) (table : List ℕ) {c : Terms} {work work' : List ℕ}
    (d : First (table_on c rs ds table 1) c work work') where
  supplied_value_lem : ds 0 ≤ rate_most
      → expected c rs (shared (ds 0) (cells work' 0 (c.premium + 1))) c.premium c.premium ≡ supplied_value (fixed_term c rs ds) table
  unfolding supplied_value start_table_value fixed_term process_of
  supplied_value_lem small =
      shared_same c rs (ds 0) _ _ c.premium c.premium (λ w l. d.values w c.premium l (omega arith))
      ∙ sym (shared_expects c rs ds 0 _ c.premium c.premium small)

  supplied_layer_lem : layer_size c + layer_size c ≤ length work
      → stored work' (layer_size c) (λ (i : ℕ). 0) (layer_size c)
      ≡ supplied_layer (fixed_term c rs ds) table ++ replicate (layer_size c) 0 ++ drop (2 * layer_size c) work
  unfolding supplied_layer layer fixed_term layout_of
  supplied_layer_lem room = first_layer d room

-- ---- what terms that were read answer
module _ {c : Terms} {rs : Returns} {ds : Rates} {v : Verdict} {work table : List ℕ} where
  pub answered_refused : {n p : ℕ} {r : Answer} → v ≡ refused n p → r ≡ refusal n p → Answered c rs ds v work table r work
  unfolding answer work_after filled on_success number_of place_of
  answered_refused e f = record { answer_is = rw e f; work_is = rw e }

  pub answered_by : {r : Answer} {work' : List ℕ} → v ≡ accepted → Answered c rs ds accepted work table r work'
      → Answered c rs ds v work table r work'
  answered_by {r} {work'} e a = subst (λ (x : Verdict). Answered c rs ds x work table r work') (sym e) a

pub answered_accepted : {c : Terms} {rs : Returns} {ds : Rates} {work table work' : List ℕ} (r : Valuation) (work'' : List ℕ)
    → layer_size c + layer_size c ≤ length work → ds 0 ≤ rate_most → First (table_on c rs ds table 1) c work work'
    → Settled c rs (ds 0) work' r work'' → Answered c rs ds accepted work table (told (Ok r)) work''
unfolding answer work_after filled on_success number_of place_of fixed_term layout_of
answered_accepted {c} {rs} {ds} {work} {table} r work'' room small d s =
    let value : r.value ≡ supplied_value (fixed_term c rs ds) table = s.value_is ∙ supplied_value_lem rs ds table d small in record {
      answer_is = λ i. record {
        number = 0;
        place = 0;
        value = value i;
        margin = (s.margin_is ∙ ap (λ (x : ℕ). margin x c.premium) value) i;
      };
      work_is = s.work_is ∙ supplied_layer_lem rs ds table d room;
    }

-- ---- what a call answers, on any input
module _ (x : Input) (work table : List ℕ) where
  abbrev rs : Returns
  rs = returns_of x.list

  abbrev ds : Rates
  ds = rates_of x.rates

  pub whole : {r : Answer} {work' : List ℕ} → verdict (input_checks x) ≡ accepted → (c : Terms) → c ≡ terms_of x.bytes
      → Answered c rs ds (table_checked c rs ds work table) work table r work' → Supplying x work table r work'
  unfolding supplied_answer supplied_work work_after filled fixed_term layout_of
  whole {r} {work'} e c same a =
      let all = supplied_then (terms_of x.bytes) rs ds work table (input_checks x) e in
      let b = subst (λ (t : Terms). Answered t rs ds (table_checked t rs ds work table) work table r work') same a in
      record { answer_is = rw all b.answer_is; work_is = rw all b.work_is }

  pub whole_refused : {r : Answer} {n q : ℕ} → verdict (input_checks x) ≡ refused n q → r ≡ refusal n q → Supplying x work table r work
  unfolding supplied_answer supplied_work answer work_after filled on_success number_of place_of
  whole_refused e f = let all = supplied_refused (policy_of x) work table e in record { answer_is = rw all f; work_is = rw all }
