-- A block of keys taken apart, and blocks one after the other. Assumes nothing.
use mathlib.Core.List.{List}
use mathlib.Core.Logic.{◌⊎◌, inl, inr}
use mathlib.Core.Path.{◌≡◌, refl, ap, sym, ◌∙◌, subst}
use Prim.Native.Nat.{ℕ, suc, ◌+◌, ◌-◌, ◌*◌, ◌/◌, ◌%◌, ◌≤◌, ◌<◌, min, max}
use native.Mathlib.Nat.{le_trans}
use native.Mathlib.Decide.{dec_le}
use native.Mathlib.Omega.{arith}
use lib.ListN.{length, get_or}
use Rattle.decision.specs.Choice.{smallest_best}
use Rattle.decision.specs.Index.{first_is}
use Rattle.slices.specs.Stored.{stored, length_stored, stored_in, stored_out}
use Rattle.slices.specs.Rows.{flat, flat_at}
use Rattle.rules.specs.Date.{Behaviour, static, free_amount, largest_amount}
use Rattle.laws.specs.Date.{free_level}
use Rattle.keys.specs.declared.Date.{Date}
use Rattle.keys.specs.declared.Block.{Block}
use Rattle.keys.specs.Key.{key, key_value, key_amount}
use Rattle.keys.specs.Sums.{Span, sums, row_in, sum_in}
use Rattle.worth.specs.Worth.{best_value, best_amount, best_key, key_over, Keys}
use Rattle.worth.specs.Laws.{free_is, static_key}
use Rattle.states.specs.Decided.{Decided}

-- no recorded amount is above the account and the guarantee
amount_le : (b : Behaviour) (e : ℕ → ℕ → ℕ) (rate level w a : ℕ) → best_amount b e rate level w a ≤ max w a + 1
unfolding best_amount smallest_best largest_amount free_amount
amount_le b e rate level w a = le_trans (first_is _ (suc (max w (min level a)))).within (omega arith)

module _ (b : Behaviour) (e : ℕ → ℕ → ℕ) {work work' : List ℕ} (table : List ℕ) {table' : List ℕ} {d : Date} {s : Block} {at n : ℕ}
    (value amount : ℕ → ℕ) (span : Span work d s)
    (at_is : at ≡ min (s.w * d.stride + s.from) (length table)) (n_is : n ≡ min s.n (length table - at))
    (amounts : table' ≡ stored table at amount n) (values : work' ≡ stored work (s.w * d.stride + s.from) value s.n)
    (amounts_are : (j : ℕ) → j < s.n → amount j ≡ best_amount b e d.rate d.level s.w (s.from + j))
    (values_are : (j : ℕ) → j < s.n → value j ≡ best_value b e d.rate d.level s.w (s.from + j))
  where
    abbrev first : ℕ
    first = s.w * d.stride + s.from

    -- entry i is that of state i - first
    entry : (i : ℕ) → first ≤ i → i ≡ first + (i - first)
    entry i h = omega arith

    state : (f : ℕ → ℕ → ℕ) (j : ℕ) → j < s.n → f s.w (s.from + j) ≡ flat d.stride f (first + j)
    state f j l =
        let z : s.w * d.stride + (s.from + j) ≡ first + j = omega arith in
        sym (flat_at d.stride f s.w (s.from + j) (omega (arith, span.columns))) ∙ ap (flat d.stride f) z

    value_at_lem : (j : ℕ) → j < s.n → get_or work' (first + j) 0 ≡ flat d.stride (best_value b e d.rate d.level) (first + j)
    value_at_lem j l =
        let fits = row_in span.layers s.w s.from s.n (omega arith) span.columns in
        ap (λ (xs : List ℕ). get_or xs (first + j) 0) values
        ∙ stored_in work first value s.n j (omega (arith, span.layers.room)) l
        ∙ values_are j l
        ∙ state (best_value b e d.rate d.level) j l

    amount_at : (j : ℕ) → j < s.n → first + j < length table
        → get_or table' (first + j) 0 ≡ flat d.stride (best_amount b e d.rate d.level) (first + j)
    amount_at j l h =
        let start : first ≡ at = omega arith in
        ap (λ (x : ℕ). get_or table' (x + j) 0) start
        ∙ ap (λ (xs : List ℕ). get_or xs (at + j) 0) amounts
        ∙ stored_in table at amount n j (omega arith) (omega arith)
        ∙ amounts_are j l
        ∙ state (best_amount b e d.rate d.level) j l

    -- a table that ends before the block takes nothing of it
    out_table : (i : ℕ) → (i < first) ⊎ (first + s.n ≤ i) → Dec (at ≤ i) → (i < at) ⊎ (at + n ≤ i)
    out_table i o (no h) = inl (omega arith)
    out_table i (inl l) (yes h) = inr (omega arith)
    out_table i (inr l) (yes h) = inr (omega arith)

    pub block_decided : Decided b e work table work' table' d first (first + s.n)
    block_decided = record {
      long = ap length values ∙ length_stored work _ _ _;
      long_table = ap length amounts ∙ length_stored table _ _ _;
      values = λ i p q. rw (entry i p) (value_at_lem (i - first) (omega arith));
      amounts = λ i p q h. rw (entry i p) (amount_at (i - first) (omega arith) (omega arith));
      rest = λ i o. ap (λ (xs : List ℕ). get_or xs i 0) values ∙ stored_out work _ _ _ i o;
      rest_table = λ i o. ap (λ (xs : List ℕ). get_or xs i 0) amounts ∙ stored_out table _ _ _ i (out_table i o (dec_le at i));
    }

-- ---- what a key holds
module _ {b : Behaviour} {e : ℕ → ℕ → ℕ} {work best : List ℕ} {d : Date} {s : Block} (span : Span work d s) (keys : Keys b e d s best)
    (j : ℕ) (l : j < s.n)
  where
    pub key_holds_value : get_or best j 0 / 8192 ≡ best_value b e d.rate d.level s.w (s.from + j)
    key_holds_value = ap (λ (x : ℕ). x / 8192) (keys.each j l) ∙ key_value _ _

    pub key_holds_amount : 8191 - get_or best j 0 % 8192 ≡ best_amount b e d.rate d.level s.w (s.from + j)
    key_holds_amount =
        let few = amount_le b e d.rate d.level s.w (s.from + j) in
        ap (λ (x : ℕ). 8191 - x % 8192) (keys.each j l)
        ∙ key_amount _ _ (omega (arith, span.layers.few, span.layers.width, span.columns))

-- ---- the static behaviour from the level on
module _ {work : List ℕ} {d : Date} {s : Block} {at : ℕ} (span : Span work d s) (from : d.level ≤ s.from)
    (at_is : at ≡ d.base + ((s.w - d.level) * d.stride + (s.from - d.level)))
  where
    pub static_room : (s.w * d.stride + s.from + s.n ≤ at) × (at + s.n ≤ length work)
    static_room =
        let a = row_in span.layers s.w s.from s.n (omega arith) span.columns in
        let r = sum_in span.layers (s.w - d.level) (s.from - d.level) s.n (omega arith) (omega (arith, span.columns)) in
        (omega arith, omega arith)

    module _ (j : ℕ) (l : j < s.n) where
      free : d.level ≡ free_amount d.level (s.from + j)
      free = sym (free_level d.level (s.from + j) (omega arith))

      static_is : (value : ℕ) → value ≡ 10000 * d.level + get_or work (at + j) 0 / 8192
          → key value d.level ≡ best_key static (sums work d) d.rate d.level s.w (s.from + j)
      static_is value e =
          let a : s.from + j - d.level ≡ s.from - d.level + j = omega arith in
          let i : at + j ≡ d.base + ((s.w - d.level) * d.stride + (s.from + j - d.level)) = omega arith in
          ap (λ (v : ℕ). key v d.level) (e ∙ ap (λ (x : ℕ). 10000 * d.level + get_or work x 0 / 8192) i
          ∙ sym (free_is (sums work d) d.rate d.level s.w (s.from + j) d.level (omega arith)))
          ∙ ap (λ (m : ℕ). key_over (sums work d) d.rate m s.w (s.from + j) m) free
          ∙ static_key (sums work d) d.rate d.level s.w (s.from + j)

      pub static_value : {value : ℕ} → value ≡ 10000 * d.level + get_or work (at + j) 0 / 8192
          → value ≡ best_value static (sums work d) d.rate d.level s.w (s.from + j)
      static_value {value} e = sym (key_value value d.level) ∙ ap (λ (x : ℕ). x / 8192) (static_is value e) ∙ key_value _ _

      pub static_amount : d.level ≡ best_amount static (sums work d) d.rate d.level s.w (s.from + j)
      static_amount =
          let v = 10000 * d.level + get_or work (at + j) 0 / 8192 in
          let few = amount_le static (sums work d) d.rate d.level s.w (s.from + j) in
          sym (key_amount v d.level (omega (arith, span.layers.level_is, span.layers.width)))
          ∙ ap (λ (x : ℕ). 8191 - x % 8192) (static_is v refl)
          ∙ key_amount _ _ (omega (arith, span.layers.few, span.layers.width, span.columns))

-- ---- some entries, then those next to them
pub decided_none : {b : Behaviour} {e : ℕ → ℕ → ℕ} {work table : List ℕ} {d : Date} {low end : ℕ} → end ≤ low
    → Decided b e work table work table d low end
decided_none h = record {
  long = refl;
  long_table = refl;
  values = λ i p q. absurd (omega arith);
  amounts = λ i p q t. absurd (omega arith);
  rest = λ i o. refl;
  rest_table = λ i o. refl;
}

module _ {b : Behaviour} {e f : ℕ → ℕ → ℕ} {work table work₁ table₁ work₂ table₂ : List ℕ} {d : Date} {p q r s low end : ℕ}
    (same : f ≡ e) (x : Decided b e work table work₁ table₁ d p q) (y : Decided b f work₁ table₁ work₂ table₂ d r s)
    (meet : ((q ≡ r) × (low ≡ p) × (end ≡ s)) ⊎ ((s ≡ p) × (low ≡ r) × (end ≡ q))) (up : p ≤ q) (up' : r ≤ s)
  where
    second : Decided b e work₁ table₁ work₂ table₂ d r s
    second = subst (λ (g : ℕ → ℕ → ℕ). Decided b g work₁ table₁ work₂ table₂ d r s) same y

    -- an entry is of the second part, or outside it
    part : (i : ℕ) → low ≤ i → i < end → ((r ≤ i) × (i < s)) ⊎ (((i < r) ⊎ (s ≤ i)) × (p ≤ i) × (i < q))
    part i h l = go (dec_le r i) (dec_le s i) meet
      where
        go : Dec (r ≤ i) → Dec (s ≤ i) → ((q ≡ r) × (low ≡ p) × (end ≡ s)) ⊎ ((s ≡ p) × (low ≡ r) × (end ≡ q))
            → ((r ≤ i) × (i < s)) ⊎ (((i < r) ⊎ (s ≤ i)) × (p ≤ i) × (i < q))
        go (yes a) (no c) m = inl (a, omega arith)
        go (no a) c (inl (u, v, w)) = inr (inl (omega arith), omega arith, omega arith)
        go (no a) c (inr (u, v, w)) = absurd (omega arith)
        go (yes a) (yes c) (inl (u, v, w)) = absurd (omega arith)
        go (yes a) (yes c) (inr (u, v, w)) = inr (inr c, omega arith, omega arith)

    out : (i : ℕ) → (i < low) ⊎ (end ≤ i) → ((i < r) ⊎ (s ≤ i)) × ((i < p) ⊎ (q ≤ i))
    out i o = go meet o
      where
        go : ((q ≡ r) × (low ≡ p) × (end ≡ s)) ⊎ ((s ≡ p) × (low ≡ r) × (end ≡ q)) → (i < low) ⊎ (end ≤ i)
            → ((i < r) ⊎ (s ≤ i)) × ((i < p) ⊎ (q ≤ i))
        go (inl (u, v, w)) (inl h) = (inl (omega arith), inl (omega arith))
        go (inl (u, v, w)) (inr h) = (inr (omega arith), inr (omega arith))
        go (inr (u, v, w)) (inl h) = (inl (omega arith), inl (omega arith))
        go (inr (u, v, w)) (inr h) = (inr (omega arith), inr (omega arith))

    pub decided_join : Decided b e work table work₂ table₂ d low end
    decided_join = record {
      long = second.long ∙ x.long;
      long_table = second.long_table ∙ x.long_table;
      values = λ i h l. value i (part i h l);
      amounts = λ i h l t. amount i t (part i h l);
      rest = λ i o. second.rest i (out i o).0 ∙ x.rest i (out i o).1;
      rest_table = λ i o. second.rest_table i (out i o).0 ∙ x.rest_table i (out i o).1;
    }
      where
        value : (i : ℕ) → ((r ≤ i) × (i < s)) ⊎ (((i < r) ⊎ (s ≤ i)) × (p ≤ i) × (i < q))
            → get_or work₂ i 0 ≡ flat d.stride (best_value b e d.rate d.level) i
        value i (inl (h, l)) = second.values i h l
        value i (inr (o, h, l)) = second.rest i o ∙ x.values i h l

        amount : (i : ℕ) → i < length table → ((r ≤ i) × (i < s)) ⊎ (((i < r) ⊎ (s ≤ i)) × (p ≤ i) × (i < q))
            → get_or table₂ i 0 ≡ flat d.stride (best_amount b e d.rate d.level) i
        amount i t (inl (h, l)) = second.amounts i h l (omega (arith, x.long_table))
        amount i t (inr (o, h, l)) = second.rest_table i o ∙ x.amounts i h l t
