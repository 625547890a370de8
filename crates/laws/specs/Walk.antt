-- A walk, date by date, and what it conserves. Assumes nothing.
use Rattle.std.specs.Prelude.{List, ◌++◌, [], ◌∷◌, Bool, not, ◌||◌, ◌↔◌, ◌≡◌, leb, eqb, get_or, length, take}
use Rattle.std.proofs.Math.Bool.{true, false}
use Rattle.std.proofs.Math.Path.{refl, ap, subst}
use Rattle.std.proofs.Common.{sym, ◌∙◌, le_trans, zero-add, sub-le, arith, take-suc, length-take-le}
use Prim.Native.Nat.{ℕ, zero, suc, ◌+◌, ◌-◌, ◌*◌, ◌≤◌, ◌<◌}
use Rattle.std.proofs.Math.Nat.{le_refl, min-le_right}
use Rattle.std.proofs.Math.Dec.{T, ltb, eqb→eq, eqb_refl, nltb→le}
use Rattle.decision.specs.Index.{sum, first, all_fail}
use Rattle.decision.specs.Process.{met, start_met}
use Rattle.decision.specs.Layers.{lookup}
use Rattle.decision.proofs.Optimal.{Steps, start_met_steps}
use Rattle.rules.specs.Contract.{Terms, Returns, zero_rates, terms_of, returns_of, factor_most}
use Rattle.rules.specs.Date.{dynamic, free_amount, balance_after}
use Rattle.rules.specs.Product.{Product, entries, bad_date, walk_state, walk_amount, walk_held, walk_paid}
use Rattle.rules.specs.FixedTerm.{State, InRange, free_in, admissible_in, after_in, reach_by, paid_by, process_of, layout_of, fixed_term}
use Rattle.rules.specs.Refusals.{check_each, Verdict, accepted, refused, verdict, short, record_checks, list_checks, Check, terms_checks}
use Rattle.rules.specs.Refusals.{check}
use Rattle.rules.specs.Operations.{Policy, walk_checks}
use Rattle.rules.specs.Policy.{living_policy}
use Rattle.laws.specs.Terms.{start_held, living_term, table_size, read_policy}
use Rattle.laws.specs.Accepted.{Valid, AllPass, nor_left, nor_right, not_not, then_refused, then_earlier}
use Rattle.laws.specs.Accepted.{apart, first_iff, second_iff, absent}
use Rattle.laws.specs.Date.{guarantee_free, excess_paid_le}
use Rattle.laws.specs.FixedTerm.{reached_in_range, after_falls}
use Rattle.rules.specs.Facts.{check_numbers}

module _ {S H : Type 0} (X : Product S H) (table path : List ℕ) where
  -- the first return leads to date 1
  pub walk_first : 0 < length path → walk_state X table path 1 ≡ X.process.reach X.process.start (get_or path 0 0)
  unfolding walk_state start_met met
  walk_first l = rw (take-suc path 0 0 l)

  -- the amount of date i and the next return lead to date i + 1
  pub walk_next : (i : ℕ) → 1 ≤ i → i < length path
      → walk_state X table path (suc i)
      ≡ X.process.reach (X.process.after i (walk_state X table path i) (walk_amount X table path i)) (get_or path i 0)
  unfolding walk_state walk_amount Steps
  walk_next i l m =
      ap (start_met X.process (lookup X.layout table)) (take-suc path i 0 m)
      ∙ start_met_steps X.process (lookup X.layout table) i (get_or path i 0) (take i path) l
      (rw (length-take-le i path (omega arith)) (omega arith))

  -- what is held after the amount of date i
  pub walk_after : (i : ℕ) → 1 ≤ i
      → walk_held X table path i ≡ X.process.after i (walk_state X table path i) (walk_amount X table path i)
  unfolding walk_held
  walk_after zero l = absurd (omega arith)
  walk_after (suc j) l = refl

module _ (c : Terms) (rs : Returns) (table path : List ℕ) where
  -- the states met are in range, whatever the table holds
  pub walk_in_range : (n : ℕ) → n < length path → InRange c (walk_state (living_term c rs) table path (suc n))
  unfolding fixed_term process_of
  walk_in_range zero l =
      subst (InRange c) (sym (walk_first (living_term c rs) table path l)) (reached_in_range c rs (start_held c) _ (le_refl c.premium))
  walk_in_range (suc n) l =
      let s = walk_state (living_term c rs) table path (suc n) in
      let t = walk_amount (living_term c rs) table path (suc n) in
      subst (InRange c) (sym (walk_next (living_term c rs) table path (suc n) (omega arith) l))
      (reached_in_range c rs (after_in c (suc n) s t) _ (after_falls c (suc n) s t (walk_in_range n (omega arith)).guarantee))

  -- what is held after them is at most top and the premium
  pub walk_held_lem : c.premium ≤ c.top → (j : ℕ) → j < suc (length path)
      → ((walk_held (living_term c rs) table path j).balance ≤ c.top) × ((walk_held (living_term c rs) table path j).guarantee ≤ c.premium)
  unfolding walk_held fixed_term process_of after_in balance_after
  walk_held_lem below zero l = (below, le_refl _)
  walk_held_lem below (suc j) l =
      let s = walk_state (living_term c rs) table path (suc j) in
      let g = walk_in_range j (omega arith) in
      (le_trans (sub-le _ _) g.account, after_falls c (suc j) s (walk_amount (living_term c rs) table path (suc j)) g.guarantee)

  -- .. so a return pays on arrival at most 20,000 × top
  pub walk_paid_le : Valid c → (j : ℕ) → j < suc (length path) → rs.factor (get_or path j 0) ≤ factor_most
      → walk_paid (living_term c rs) table path j ≤ 20000 * c.top
  unfolding walk_paid fixed_term process_of paid_by
  walk_paid_le v j l f = excess_paid_le c.fee c.top _ _ (walk_held_lem v.premium j l).0 f

  -- where no date is bad, the amounts met are admissible
  pub walk_admits : c.dates - 1 ≤ first (bad_date (living_term c rs) table path) (c.dates - 1) → (j : ℕ) → j < c.dates - 1
      → T (admissible_in c dynamic (walk_state (living_term c rs) table path (suc j)) (walk_amount (living_term c rs) table path (suc j)))
  unfolding bad_date fixed_term
  walk_admits none j l =
      let s = walk_state (living_term c rs) table path (suc j) in
      let t = walk_amount (living_term c rs) table path (suc j) in
      not_not (admissible_in c dynamic s t) (rw (all_fail (bad_date (living_term c rs) table path) (c.dates - 1) none j l) tt)

-- ---- the checks of a walk, of any policy: those of what is read come first
module _ {S H : Type 0} (p : Policy S H) (table path cashes : List ℕ) where
  pub walk_read : verdict (walk_checks p table path cashes) ≡ accepted → verdict p.checks ≡ accepted
  unfolding walk_checks
  walk_read a = then_earlier p.checks _ a

  pub walk_refused : {n q : ℕ} → verdict p.checks ≡ refused n q → verdict (walk_checks p table path cashes) ≡ refused n q
  unfolding walk_checks
  walk_refused e = then_refused p.checks _ e

-- .. then the others, one by one: the count before the numbers, the numbers before the amounts
module _ (c : Terms) (rs : Returns) (table path cashes : List ℕ) where
  abbrev pub path_verdict : Verdict
  path_verdict = verdict (walk_checks (read_policy c rs zero_rates) table path cashes)

  pub slices_refused : (short (table_size c) table || short c.dates cashes) ≡ true → path_verdict ≡ refused 11 0
  unfolding walk_checks verdict entries table_size fixed_term process_of layout_of
  slices_refused e = rw e

  module _ (e : (short (table_size c) table || short c.dates cashes) ≡ false) where
    pub count_refused : eqb (length path) c.dates ≡ false → path_verdict ≡ refused 13 c.dates
    unfolding walk_checks verdict entries table_size fixed_term process_of layout_of
    count_refused f = simp (e, f)

    module _ (f : eqb (length path) c.dates ≡ true) where
      pub number_refused : ltb (first (λ j. leb rs.count (get_or path j 0)) c.dates) c.dates ≡ true
          → path_verdict ≡ refused 13 (first (λ j. leb rs.count (get_or path j 0)) c.dates)
      unfolding walk_checks verdict check_each entries table_size fixed_term process_of layout_of
      number_refused g = simp (e, f, g, zero-add)

      module _ (g : ltb (first (λ j. leb rs.count (get_or path j 0)) c.dates) c.dates ≡ false) where
        pub date_refused : ltb (first (bad_date (living_term c rs) table path) (c.dates - 1)) (c.dates - 1) ≡ true
            → path_verdict ≡ refused 14 (1 + first (bad_date (living_term c rs) table path) (c.dates - 1))
        unfolding walk_checks verdict check_each entries table_size fixed_term process_of layout_of
        date_refused h = simp (e, f, g, h)

        pub path_accepted : ltb (first (bad_date (living_term c rs) table path) (c.dates - 1)) (c.dates - 1) ≡ false
            → path_verdict ≡ accepted
        unfolding walk_checks verdict check_each entries table_size fixed_term process_of layout_of
        path_accepted h = simp (e, f, g, h)

  pub path_room : (short (table_size c) table || short c.dates cashes) ≡ false → (table_size c ≤ length table) × (c.dates ≤ length cashes)
  unfolding short
  path_room f =
      let x = ltb (length table) (table_size c) in
      let y = ltb (length cashes) c.dates in
      let t : T (not (x || y)) = rw f tt in
      (nltb→le (length table) (table_size c) (nor_left x y t), nltb→le (length cashes) c.dates (nor_right x y t))

-- ---- 13, exactly under its two conditions
-- the first number on the path that no return has, or N
abbrev pub first_missing : List ℕ → List ℕ → ℕ → ℕ
first_missing list path N = first (λ j. leb (returns_of list).count (get_or path j 0)) N

module _ (bytes list table path cashes : List ℕ) where
  abbrev N : ℕ
  N = (terms_of bytes).dates

  -- the checks before it
  abbrev pub earlier : List Check
  earlier =
      record_checks bytes
      ++ list_checks list
      ++ (check 11 0 (short (entries (living_policy bytes list).product) table || short N cashes) ∷ [])

  -- "count not N (looked at first)"
  pub path_count_iff : (verdict (walk_checks (living_policy bytes list) table path cashes) ≡ refused 13 (terms_of bytes).dates)
      ↔ (AllPass earlier × T (not (eqb (length path) (terms_of bytes).dates)))
  unfolding walk_checks record_checks terms_checks list_checks check_each check_numbers apart fixed_term process_of
  path_count_iff = first_iff earlier _ 13 N (first_missing list path N) _ (absent 13 _ tt) (absent 13 _ tt)

  -- "or no such return"
  pub path_number_iff : (k : ℕ) → k < (terms_of bytes).dates
      → (verdict (walk_checks (living_policy bytes list) table path cashes) ≡ refused 13 k)
      ↔ (AllPass earlier × (length path ≡ (terms_of bytes).dates) × (first_missing list path (terms_of bytes).dates ≡ k))
  unfolding walk_checks record_checks terms_checks list_checks check_each check_numbers apart fixed_term process_of
  path_number_iff k l =
      let both = second_iff earlier _ 13 N (first_missing list path N) _ (absent 13 _ tt) (absent 13 _ tt) k l in (
        λ e. let t = both.0 e in (t.0, eqb→eq (length path) N (not_not (eqb (length path) N) t.1), t.2),
        λ (a, e, m). both.1 (a, subst (λ (n : ℕ). T (not (not (eqb n N)))) (sym e) (twice (eqb N N) (eqb_refl N)), m),
      )
    where
      twice : (b : Bool) → T b → T (not (not b))
      twice true t = tt
      twice false t = t

-- "While no amount on a walk passes m, amounts withdrawn so far plus the guarantee equal the premium": on date n + 1, after
-- the amounts of dates 1 to n. (iv) "An excess is no withdrawal where amounts withdrawn are summed": the sum is that of the
-- table's amounts, whatever was paid on arrival.
pub walk_conserves : (c : Terms) (rs : Returns) (table path : List ℕ) (n : ℕ) → n < length path
    → ((j : ℕ) → j < n → walk_amount (living_term c rs) table path (suc j) ≤ free_in c (walk_state (living_term c rs) table path (suc j)))
    → sum (λ j. walk_amount (living_term c rs) table path (suc j)) n + (walk_state (living_term c rs) table path (suc n)).guarantee
    ≡ c.premium
unfolding sum fixed_term process_of reach_by after_in free_in free_amount
walk_conserves c rs table path zero l free =
    ap (λ (s : State). 0 + s.guarantee) (walk_first (living_term c rs) table path l) ∙ omega arith
walk_conserves c rs table path (suc n) l free =
    let s = walk_state (living_term c rs) table path (suc n) in
    let t = walk_amount (living_term c rs) table path (suc n) in
    let before = walk_conserves c rs table path n (omega arith) (λ j m. free j (omega arith)) in
    let small = free n (omega arith) in
    let next = ap (λ (x : State). x.guarantee) (walk_next (living_term c rs) table path (suc n) (omega arith) l) in
    let falls = guarantee_free (free_in c s) s.account s.guarantee t small in
    let most = min-le_right c.level s.guarantee in
    omega arith
