-- One date, step by step: the sums, the states, and the date before it. Assumes nothing.
use mathlib.Core.List.{List}
use mathlib.Core.Logic.{inr}
use mathlib.Core.Path.{◌≡◌, refl, ap, sym, ◌∙◌, subst}
use Prim.Native.Nat.{ℕ, suc, ◌+◌, ◌-◌, ◌*◌, ◌≤◌, ◌<◌}
use native.Mathlib.Decide.{dec_le}
use native.Mathlib.Nat.{le_trans, le_of_eq, zero-add}
use native.Mathlib.Numerals.{add-one}
use native.Mathlib.Omega.{arith}
use lib.ListN.{length, get_or}
use borrow.Rule.Slice.PartMut.{mid_of, put_mid, mid_len}
use Rattle.slices.specs.Stored.{stored, length_stored, stored_out}
use Rattle.slices.specs.Rows.{cells, flat, flat_at, layer_stored, within_rows, rows_le, rows_before}
use Rattle.slices.specs.Parts.{put_long, put_in, put_above}
use Rattle.rules.specs.Contract.{Terms, Returns, Rates, rates_of}
use Rattle.rules.specs.Date.{Behaviour}
use Rattle.rules.specs.Product.{recorded_amount}
use Rattle.rules.specs.FixedTerm.{rate_in, layer_size, fixed_term}
use Rattle.laws.specs.Step.{rate_le}
use Rattle.laws.specs.Accepted.{Valid}
use Rattle.laws.specs.Date.{shared, shared_le}
use Rattle.laws.specs.Bounds.{state_most}
use Rattle.laws.specs.Narrow.{value_narrow}
use Rattle.returns.specs.Sorted.{OrderedInput}
use Rattle.expect.specs.Expected.{Values, expected, scaled, expected_le, expected_same, shared_same}
use Rattle.death.specs.Shared.{Rows}
use Rattle.keys.specs.declared.Date.{Date}
use Rattle.keys.specs.Sums.{Sums, sums}
use Rattle.worth.specs.Worth.{best_value, best_amount, value_same, amount_same}
use Rattle.states.specs.Decided.{Decided}
use Rattle.dates.specs.Dated.{OneDate, date_of, Summed, Dated}
use Rattle.dates.specs.Layer.{LentLayer, entry_within}
use Rattle.dates.specs.Back.{at, values_on, values_most, value_back, amount_back, maturity_is, Valued, Starting}

-- what stands behind both layers stands behind the first
first_end : (c : Terms) {i : ℕ} → layer_size c + layer_size c ≤ i → (c.top + 1) * (c.premium + 1) ≤ i
unfolding layer_size
first_end c h = omega arith

-- ---- the shares of the next date's values, and the sums over them
module _ {c : Terms} {i : ℕ} {work : List ℕ} {rs : Returns} {rates : List ℕ} (g : OrderedInput c rs rates) (d : OneDate c i work) where
  abbrev stride : ℕ
  stride = c.premium + 1

  abbrev rate : ℕ
  rate = rates_of rates i

  abbrev shares : ℕ → ℕ → ℕ
  shares = shared rate (cells work 0 stride)

  abbrev expects : ℕ → ℕ → ℕ
  expects = expected c rs shares

  valid : Valid c
  valid = g.valid.terms

  first_room : (c.top + 1) * stride ≤ length work
  unfolding layer_size
  first_room = omega (arith, d.first.layers.room)

  -- the first layer before
  pub sharing : Rows work rate stride (c.top + 1)
  sharing = record {
    rate_is = g.valid.rates.rate i;
    few = omega (arith, valid.top);
    width = omega (arith, valid.premium, valid.top);
    room = first_room;
    small = λ w a h l.
        let small = d.first.small w a (omega arith) (omega arith) in
        let low = value_narrow c valid (i + 1) (omega arith) in
        omega arith;
  }

  module _ (work₁ : List ℕ) (shared_is : work₁ ≡ stored work 0 (flat stride shares) ((c.top + 1) * stride)) where
    long₁ : length work₁ ≡ length work
    long₁ = ap length shared_is ∙ length_stored work _ _ _

    cells_shared : (w a : ℕ) → w ≤ c.top → a ≤ c.premium → cells work₁ 0 stride w a ≡ shares w a
    cells_shared w a h l =
        ap (λ (xs : List ℕ). cells xs 0 stride w a) shared_is
        ∙ (layer_stored work 0 stride (c.top + 1) shares (omega (arith, first_room))).cell w a (omega arith) (omega arith)

    -- .. and after: within the same bound
    pub shared_values : Values c i work₁
    shared_values = record {
      layers = record { valid = valid; room = rw long₁ d.first.layers.room };
      small = λ w a h l.
          le_trans (le_of_eq (cells_shared w a h l))
          (shared_le rate c.top (cells work 0 stride) (g.valid.rates.rate i) h (le_trans l valid.premium) (omega arith)
          (d.first.small w a h l));
    }

    module _ (work' : List ℕ)
        (is : work' ≡ stored work₁ (layer_size c) (flat stride (scaled (expected c rs (cells work₁ 0 stride)))) (layer_size c))
      where
        sums_shared : (w a : ℕ) → a ≤ c.premium → expected c rs (cells work₁ 0 stride) w a ≡ expects w a
        sums_shared w a l = expected_same c rs _ _ w a (λ x h. cells_shared x a h l)

        cells_are : (w a : ℕ) → w ≤ c.top → a ≤ c.premium → cells work' (layer_size c) stride w a ≡ 8192 * expects w a
        unfolding layer_size
        cells_are w a h l =
            let size = (c.top + 1) * stride in
            let second = layer_stored work₁ size stride (c.top + 1) (scaled _) shared_values.layers.room in
            ap (λ (xs : List ℕ). cells xs size stride w a) is
            ∙ second.cell w a (omega arith) (omega arith)
            ∙ ap (λ (x : ℕ). 8192 * x) (sums_shared w a l)

        sums_of : (w a : ℕ) → w ≤ c.top → a ≤ c.premium → sums work' (date_of c i) w a ≡ expects w a
        sums_of w a h l = let e = cells_are w a h l in omega arith

        long : length work' ≡ length work
        long = ap length is ∙ length_stored work₁ _ _ _ ∙ long₁

        two_layers : Sums work' (date_of c i) (c.top + 1)
        unfolding layer_size
        two_layers = record {
          few = omega (arith, valid.top);
          width = omega (arith, valid.premium, valid.top);
          level_is = omega (arith, valid.level);
          rate_is = le_trans (rate_le c.penalty c.step i) valid.penalty;
          apart = omega arith;
          room = rw long d.first.layers.room;
          scaled = λ w a h k.
              cells_are w a (omega arith) (omega arith) ∙ ap (λ (x : ℕ). 8192 * x) (sym (sums_of w a (omega arith) (omega arith)));
          small = λ w a h k.
              rw (sums_of w a (omega arith) (omega arith) ∙ sym (sums_shared w a (omega arith)))
              (expected_le c rs _ i w a valid g.valid.returns (omega arith) (λ x l.
              shared_values.small x a l (omega arith)));
        }

        pub summed : Summed c rs rate work work' (date_of c i)
        summed = record {
          long = long;
          layers = two_layers;
          sums_are = sums_of;
          rest = λ x h.
              ap (λ (xs : List ℕ). get_or xs x 0) is
              ∙ stored_out work₁ _ _ _ x (inr h)
              ∙ ap (λ (xs : List ℕ). get_or xs x 0) shared_is
              ∙ stored_out work 0 _ _ x (inr (let e = first_end c h in omega arith));
        }

-- ---- .. and its states
-- a state's entry in the first layer
entry_in : (c : Terms) {w a : ℕ} → w ≤ c.top → a ≤ c.premium → 0 + (w * (c.premium + 1) + a) < (c.top + 1) * (c.premium + 1)
entry_in c {w} {a} h l = let e = within_rows (c.premium + 1) (c.top + 1) w a (omega arith) (omega arith) in omega arith

entry_flat : (c : Terms) (f : ℕ → ℕ → ℕ) (w a : ℕ) → a ≤ c.premium → flat (c.premium + 1) f (0 + (w * (c.premium + 1) + a)) ≡ f w a
entry_flat c f w a l = ap (flat (c.premium + 1) f) (zero-add _) ∙ flat_at (c.premium + 1) f w a (omega arith)

pub dated : {b : Behaviour} {c : Terms} {rs : Returns} (ds : Rates) {i : ℕ} {work table work₁ work' table' : List ℕ} {d : Date}
    → d ≡ date_of c i
    → Summed c rs (ds i) work work₁ d → Decided b (sums work₁ d) work₁ table work' table' d 0 ((c.top + 1) * d.stride)
    → Dated b c rs ds i work table work' table'
dated {b} {c} {rs} ds {i} {work} {table} {work₁} {work'} {table'} is s x =
    go (subst (Summed c rs (ds i) work work₁) is s) (subst
    (λ (d : Date). Decided b (sums work₁ d) work₁ table work' table' d 0 ((c.top + 1) * d.stride)) is x)
  where
    go : Summed c rs (ds i) work work₁ (date_of c i)
        → Decided b (sums work₁ (date_of c i)) work₁ table work' table' (date_of c i) 0 ((c.top + 1) * (c.premium + 1))
        → Dated b c rs ds i work table work' table'
    go s x = record {
      long = x.long ∙ s.long;
      long_table = x.long_table;
      values = λ w a h l.
          x.values _ (omega arith) (entry_in c h l)
          ∙ entry_flat c (best_value b (sums work₁ (date_of c i)) (rate_in c i) c.level) w a l
          ∙ value_same b _ _ (rate_in c i) c.level w a (λ y z p q. s.sums_are y z (le_trans p h) (le_trans q l));
      amounts = λ w a h l room.
          x.amounts _ (omega arith) (entry_in c h l) (omega arith)
          ∙ entry_flat c (best_amount b (sums work₁ (date_of c i)) (rate_in c i) c.level) w a l
          ∙ amount_same b _ _ (rate_in c i) c.level w a (λ y z p q. s.sums_are y z (le_trans p h) (le_trans q l));
      rest = λ y h. x.rest y (inr (first_end c h)) ∙ s.rest y h;
    }

-- ---- from one date to the date before it
module _ {behaviour : Behaviour} {c : Terms} {work₀ table₀ work table : List ℕ} {rs : Returns} {rates : List ℕ}
    (g : OrderedInput c rs rates) (s : Starting c work₀) {i : ℕ} (v : Valued behaviour c rs (rates_of rates) work₀ table₀ work table i)
  where
    pub dating : i < c.dates → OneDate c i work
    dating before = record {
      before = before;
      first = record {
        layers = record { valid = g.valid.terms; room = omega (arith, s.room, v.long) };
        small = λ w a h k.
            le_trans (le_of_eq (v.values w a h k))
            (subst (λ (n : ℕ). values_on c rs (rates_of rates) behaviour (suc i) w a ≤ state_most c n)
            (sym (add-one i))
            (values_most c rs (rates_of rates) behaviour g.valid (suc i) w a h k));
      };
    }

    module _ {from to : ℕ} (p : LentLayer c i (length table) from to) (some : 0 < i) (before : i < c.dates) (work₁ part₁ : List ℕ)
        (d : Dated behaviour c rs (rates_of rates) i work (mid_of from (to - from) table) work₁ part₁)
      where
        starts : from ≤ to
        starts = omega (arith, p.start, p.end)

        ends : to ≤ length table
        ends = omega (arith, p.end)

        part_long : length part₁ ≡ to - from
        part_long = d.long_table ∙ mid_len from to table ends

        up : suc (i - 1) ≡ i
        up = omega arith

        -- the sums are those of the next date's values
        sums_are : (x y : ℕ) → y ≤ c.premium
            → expected c rs (shared (rates_of rates i) (cells work 0 (c.premium + 1))) x y
            ≡ expected c rs
            (shared (rates_of rates i) (values_on c rs (rates_of rates) behaviour (suc i))) x y
        sums_are x y k = shared_same c rs (rates_of rates i) _ _ x y (λ w h. v.values w y h k)

        value_is : (w a : ℕ) → w ≤ c.top → a ≤ c.premium
            → cells work₁ 0 (c.premium + 1) w a ≡ values_on c rs (rates_of rates) behaviour i w a
        value_is w a h k =
            d.values w a h k
            ∙ value_same behaviour _ _ (rate_in c i) c.level w a (λ x y p q. sums_are x y (le_trans q k))
            ∙ value_back c rs (rates_of rates) behaviour i w a (g.valid.rates.rate i) before

        amount_is : (w a : ℕ) → w ≤ c.top → a ≤ c.premium → w * (c.premium + 1) + a < to - from
            → cells part₁ 0 (c.premium + 1) w a
            ≡ recorded_amount (fixed_term c rs (rates_of rates)) behaviour i (at w a)
        amount_is w a h k l =
            d.amounts w a h k (omega (arith, mid_len from to table ends))
            ∙ amount_same behaviour _ _ (rate_in c i) c.level w a (λ x y p q. sums_are x y (le_trans q k))
            ∙ amount_back c rs (rates_of rates) behaviour i w a (g.valid.rates.rate i)

        -- entries behind the layer
        behind : (x n : ℕ) → i ≤ n → n * layer_size c ≤ x → get_or (put_mid from (to - from) table part₁) x 0 ≡ get_or table x 0
        behind x n k h =
            let e = rows_before (layer_size c) i some in
            let l = rows_le (layer_size c) i n k in
            put_above from to table part₁ starts ends part_long x (omega (arith, p.end))

        amount_at : (j w a : ℕ) → j < c.dates → w ≤ c.top → a ≤ c.premium → Dec (i + 1 ≤ j) → i ≤ j
            → (j - 1) * layer_size c + (w * (c.premium + 1) + a) < length table
            → get_or (put_mid from (to - from) table part₁) ((j - 1) * layer_size c + (w * (c.premium + 1) + a)) 0
            ≡ recorded_amount (fixed_term c rs (rates_of rates)) behaviour j (at w a)
        amount_at j w a q h k (yes y) m room =
            behind _ (j - 1) (omega arith) (omega arith) ∙ v.amounts j w a (omega arith) q h k (omega (arith, v.long_table))
        amount_at j w a q h k (no y) m room =
            let e : j ≡ i = omega arith in
            let same : (j - 1) * layer_size c ≡ (i - 1) * layer_size c = ap (λ (n : ℕ). (n - 1) * layer_size c) e in
            let here : (j - 1) * layer_size c ≡ from = omega (arith, p.start) in
            let l = entry_within c h k in
            let inside : w * (c.premium + 1) + a < to - from = omega (arith, p.end, p.start) in
            ap (λ (x : ℕ). get_or (put_mid from (to - from) table part₁) (x + (w * (c.premium + 1) + a)) 0) here
            ∙ put_in from to table part₁ starts ends part_long (w * (c.premium + 1) + a) inside
            ∙ ap (λ (x : ℕ). get_or part₁ x 0) (sym (zero-add (w * (c.premium + 1) + a)))
            ∙ amount_is w a h k inside
            ∙ ap (λ (n : ℕ). recorded_amount (fixed_term c rs (rates_of rates)) behaviour n (at w a)) (sym e)

        pub valued_before :
            Valued behaviour c rs (rates_of rates) work₀ table₀ work₁ (put_mid from (to - from) table part₁)
            (i - 1)
        valued_before = record {
          long = d.long ∙ v.long;
          long_table = put_long from to table part₁ starts ends part_long ∙ v.long_table;
          values = λ w a h k. value_is w a h k
              ∙ ap (λ (n : ℕ). values_on c rs (rates_of rates) behaviour n w a) (sym up);
          amounts = λ j w a p q h k room. amount_at j w a q h k (dec_le (i + 1) j) (omega arith) (omega (arith, v.long_table));
          rest = λ x h. d.rest x h ∙ v.rest x h;
          rest_table = λ x h. behind x (c.dates - 1) (omega arith) h ∙ v.rest_table x h;
        }

-- before the first of them, the last date is valued
pub valued_none : {behaviour : Behaviour} {c : Terms} {work table : List ℕ} {rs : Returns} {rates : List ℕ} → OrderedInput c rs rates
    → Starting c work → Valued behaviour c rs (rates_of rates) work table work table (c.dates - 1)
valued_none {behaviour} {c} {work} {table} {rs} {rates} g s =
    let last : suc (c.dates - 1) ≡ c.dates = omega (arith, g.valid.terms.dates_least) in
    record {
      long = refl;
      long_table = refl;
      values = λ w a h k.
          s.mature w a h k
          ∙ sym (maturity_is c rs (rates_of rates) behaviour w a)
          ∙ ap (λ (n : ℕ). values_on c rs (rates_of rates) behaviour n w a) (sym last);
      amounts = λ j w a p q h k room. absurd (omega arith);
      rest = λ x h. refl;
      rest_table = λ x h. refl;
    }
