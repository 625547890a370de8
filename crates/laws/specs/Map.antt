-- The map of surrender: what its bits say, what the static one is, and that valuing stays what it is. Assumes nothing.
use Rattle.std.specs.Prelude.{Bool, ◌&&◌, List, ◌++◌, ◌≡◌, refl, ℕ, suc, ◌-◌, ◌*◌, ◌/◌, ◌%◌, ◌≤◌, ◌<◌, ltb, eqb, get_or, drop, replicate}
use Rattle.std.proofs.Math.Bool.{true, false}
use Rattle.std.proofs.Math.Path.{ap}
use Rattle.std.proofs.Common.{sym, ◌∙◌, div-lt_iff_lt-mul, arith, ltb→lt}
use Rattle.std.proofs.Math.Dec.{T, eqb→eq}
use Rattle.decision.specs.Index.{sum, sum_eq, get_d_tabulate, false_is}
use Rattle.decision.specs.Bits.{bit, words_for, word_of, words_of, bit_at, ones}
use Rattle.decision.proofs.Bits.{words_count, word_back, word_unused, words_none, bits_unset}
use Rattle.decision.specs.Choice.{and_left, and_right}
use Rattle.decision.proofs.Optimal.{recorded_best}
use Rattle.decision.specs.Layers.{lookup, layers, entry, entry_within, entry_state, Placed}
use Rattle.rules.specs.Contract.{Terms, Returns, Rates, terms_of, returns_of, rates_of, Input}
use Rattle.rules.specs.Date.{static, surrenders, admits}
use Rattle.rules.specs.Product.{recorded_amount, amount_layers, Product, entries}
use Rattle.rules.specs.FixedTerm.{State, free_in, admissible_in, process_of, layer_size, layout_of, fixed_term, Held, surrender_in}
use Rattle.rules.specs.Refusals.{Verdict, accepted, refused, verdict, on_success, short, number_of}
use Rattle.rules.specs.Operations.{behaviour_number, behaviour_of, valuing_checks, Policy, valued_answer, valued_table, valued_work, filled}
use Rattle.rules.specs.Map.{surrendered, surrender_map, surrender_count, map_size, mapping_checks, map_after, count_after}
use Rattle.rules.specs.Facts.{mapping_order}
use Rattle.laws.specs.Accepted.{Positive, zero_accepts, verdict_append, then_refused, then_accepted, then_earlier, Valid, then_none}
use Rattle.laws.specs.FixedTerm.{opened, size_some}
use Rattle.rules.specs.Policy.{policy_of}
use Rattle.laws.specs.ThirdDemand.{valuing_valid}

-- ---- the bits of a map, with anything behind it, of any product whose states have their entries
module _ {S H : Type 0} (X : Product S H) (table rest : List ℕ) where
  -- bit e read back is the bit of entry e, for every entry of the table
  pub map_back : (e : ℕ) → e < entries X → bit_at (surrender_map X table ++ rest) e ≡ bit (surrendered X table e)
  unfolding surrender_map
  map_back e l = word_back (surrendered X table) (entries X) e rest l

  -- .. and those behind the last entry are clear
  pub map_unused : (e : ℕ) → entries X ≤ e → e < 64 * map_size X → bit_at (surrender_map X table ++ rest) e ≡ 0
  unfolding surrender_map map_size
  map_unused e l h = word_unused (surrendered X table) (entries X) e rest l h

  -- the bit of a date and a state says whether the rule calls its amount a surrender
  pub map_state : Placed X.layout → (i : ℕ) (s : S) → 1 ≤ i → i < X.process.dates → X.layout.InRange s
      → bit_at (surrender_map X table ++ rest) (entry X.layout i s) ≡ bit (X.surrender s (lookup X.layout table i s))
  unfolding entries surrendered lookup
  map_state h i s l m g =
      let e = entry X.layout i s in
      map_back e (entry_within X.layout h (X.process.dates - 1) i s l (omega arith) g)
      ∙ ap (λ (z : S). bit (X.surrender z (get_or table e 0))) (entry_state X.layout h i s g)

  -- so it is set only where the account is surrendered
  pub map_surrenders : Placed X.layout → (i : ℕ) (s : S) → 1 ≤ i → i < X.process.dates → X.layout.InRange s
      → bit_at (surrender_map X table ++ rest) (entry X.layout i s) ≡ 1
      → T (X.surrender s (lookup X.layout table i s))
  unfolding bit
  map_surrenders h i s l m g e = go (X.surrender s (lookup X.layout table i s)) (sym (map_state h i s l m g) ∙ e)
    where
      go : (b : Bool) → bit b ≡ 1 → T b
      go true e = tt
      go false e = absurd (omega arith)

-- the count is that of the set bits of all words
pub map_count : {S H : Type 0} (X : Product S H) (table rest : List ℕ)
    → sum (λ j. ones (get_or (surrender_map X table ++ rest) j 0)) (map_size X) ≡ surrender_count X table
unfolding surrender_map surrender_count map_size words_of
map_count X table rest =
    sum_eq _ _ (words_for (entries X)) (λ j l. ap ones (get_d_tabulate _ j (word_of (surrendered X table) (entries X)) rest l))
    ∙ words_count (surrendered X table) (entries X)

-- ---- "Static: m only", and an account above m is no m
m_no_surrender : (m w : ℕ) → surrenders m w m ≡ false
unfolding surrenders
m_no_surrender m w =
    false_is (ltb m w && eqb m w) (λ p.
    let l = ltb→lt m w (and_left (ltb m w) (eqb m w) p) in
    let e = eqb→eq m w (and_right (ltb m w) (eqb m w) p) in
    omega arith)

module _ (c : Terms) (rs : Returns) (ds : Rates) (rest : List ℕ) where
  abbrev X : Product State Held
  X = fixed_term c rs ds

  static_clear : (e : ℕ) → e < entries X → surrendered X (amount_layers X static ++ rest) e ≡ false
  unfolding surrendered entries amount_layers layers recorded_amount fixed_term process_of layout_of admissible_in surrender_in admits
  static_clear e l =
      let size = layer_size c in
      let s = (layout_of c).state_at (e % size) in
      let m = free_in c s in
      let before = (div-lt_iff_lt-mul (size_some c)).1 l in
      let best = recorded_best (process_of c rs ds) (admissible_in c static) (opened c rs ds static) (suc (e / size)) s (omega arith) in
      let free = eqb→eq (recorded_amount (fixed_term c rs ds) static (suc (e / size)) s) m best.passes in
      ap (λ (t : ℕ). surrenders m s.account t) (get_d_tabulate _ e _ rest l ∙ free) ∙ m_no_surrender m s.account

  -- THE STATIC MAP IS EMPTY
  pub static_map : surrender_map (fixed_term c rs ds) (amount_layers (fixed_term c rs ds) static ++ rest)
      ≡ replicate (map_size (fixed_term c rs ds)) 0
  unfolding surrender_map map_size
  static_map = words_none _ (entries X) static_clear

  pub static_count : surrender_count (fixed_term c rs ds) (amount_layers (fixed_term c rs ds) static ++ rest) ≡ 0
  unfolding surrender_count
  static_count = bits_unset _ (entries X) static_clear

-- ---- the call, on any policy
module _ {S H : Type 0} (p : Policy S H) (behaviour : ℕ) (work table map : List ℕ) where
  pub mapping_refused : {n q : ℕ} → verdict (valuing_checks p behaviour work table) ≡ refused n q
      → verdict (mapping_checks p behaviour work table map) ≡ refused n q
  unfolding mapping_checks
  mapping_refused e = then_refused (valuing_checks p behaviour work table) _ e

  pub mapping_short : verdict (valuing_checks p behaviour work table) ≡ accepted → short (map_size p.product) map ≡ true
      → verdict (mapping_checks p behaviour work table map) ≡ refused 16 0
  unfolding mapping_checks verdict
  mapping_short e f = then_accepted (valuing_checks p behaviour work table) _ e ∙ rw f

  -- a map that is long enough: the verdict is that of valuing
  pub mapping_same : short (map_size p.product) map ≡ false
      → verdict (mapping_checks p behaviour work table map) ≡ verdict (valuing_checks p behaviour work table)
  unfolding mapping_checks verdict
  mapping_same f =
      let ks = valuing_checks p behaviour work table in
      verdict_append ks _ ∙ rw f (then_none (verdict ks))

  -- what is accepted with a map is accepted without
  pub mapping_valued : verdict (mapping_checks p behaviour work table map) ≡ accepted
      → verdict (valuing_checks p behaviour work table) ≡ accepted
  unfolding mapping_checks
  mapping_valued e = then_earlier _ _ e

  -- WHAT STAYS: lent a map that is long enough, the call answers what valuing answers and leaves what it leaves
  pub record SameAsValuing : Type 0 where
    pub answer_is : valued_answer p (verdict (mapping_checks p behaviour work table map)) behaviour
        ≡ valued_answer p (verdict (valuing_checks p behaviour work table)) behaviour
    pub work_is : valued_work p (verdict (mapping_checks p behaviour work table map)) behaviour work
        ≡ valued_work p (verdict (valuing_checks p behaviour work table)) behaviour work
    pub table_is : valued_table p (verdict (mapping_checks p behaviour work table map)) behaviour table
        ≡ valued_table p (verdict (valuing_checks p behaviour work table)) behaviour table

  pub map_keeps_valuing : short (map_size p.product) map ≡ false → SameAsValuing
  map_keeps_valuing f = let e = mapping_same f in record { answer_is = rw e; work_is = rw e; table_is = rw e }

-- a call that answers number 0 has accepted its input, and makes the third demand's claim of its value and its table
module _ (x : Input) (behaviour : ℕ) (work table map : List ℕ) where
  pub mapping_accepts : number_of (verdict (mapping_checks (policy_of x) behaviour work table map)) ≡ 0
      → verdict (mapping_checks (policy_of x) behaviour work table map) ≡ accepted
  unfolding Positive
  mapping_accepts e =
      zero_accepts (mapping_checks (policy_of x) behaviour work table map) (rw (mapping_order x behaviour work table map) (omega arith)) e

  pub mapping_valid : verdict (mapping_checks (policy_of x) behaviour work table map) ≡ accepted → Valid (terms_of x.bytes)
  mapping_valid a = (valuing_valid x behaviour work table (mapping_valued (policy_of x) behaviour work table map a)).terms

-- what a static call that accepts leaves in the map; and it counts nothing, whatever its verdict
pub static_map_empty : (x : Input) (v : Verdict) (table map : List ℕ)
    → (v ≡ accepted
    → map_after (policy_of x) v (behaviour_number static) table map
    ≡ replicate (map_size (policy_of x).product) 0 ++ drop (map_size (policy_of x).product) map)
    × (count_after (policy_of x) v (behaviour_number static) table ≡ 0)
unfolding map_after count_after valued_table filled on_success behaviour_number behaviour_of
static_map_empty x v table map =
    let X = (policy_of x).product in
    let rest = drop (entries X) table in (
      λ e. rw e (ap (λ (xs : List ℕ). xs ++ drop (map_size X) map)
          (static_map (terms_of x.bytes) (returns_of x.list) (rates_of x.rates) rest)),
      go v,
    )
  where
    go : (u : Verdict) → count_after (policy_of x) u (behaviour_number static) table ≡ 0
    go accepted =
        static_count (terms_of x.bytes) (returns_of x.list) (rates_of x.rates) (drop (entries (policy_of x).product) table)
    go (refused n p) = refl
