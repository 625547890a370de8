-- The steps of a search, and what the call tells of it. Assumes nothing.
use mathlib.Core.Bool.{Bool, true, false, cond, not}
use mathlib.Core.List.{List}
use mathlib.Core.Logic.{inr}
use mathlib.Core.Path.{◌≡◌, refl, ap, sym, ◌∙◌, subst}
use Prim.Native.Nat.{ℕ, ◌+◌, ◌-◌, ◌*◌, ◌≤◌, ◌<◌}
use native.Mathlib.Omega.{arith}
use lib.Dec.{T, leb, ltb, leb→le, le→leb, ltb→lt, nltb→le}
use lib.ListN.{length, get_or}
use native.Mathlib.Decide.{dec_le}
use borrow.Author.Tests.{lt-ltb, le-ltb}
use Rattle.decision.specs.Index.{first, first_from, false_is}
use Rattle.decision.specs.Layers.{layer}
use Rattle.decision.specs.Bisection.{narrow_none, narrow_down, narrow_up, narrow_end, halvings, half, Halved, halved, halvings_fall}
use Rattle.slices.specs.Stored.{stored, length_stored, stored_out, stored_two, stored_clear}
use Rattle.rules.specs.Contract.{Terms, Returns, Rates, terms_of, returns_of, rates_of, rate_most, Input, terms_under}
use Rattle.rules.specs.Date.{Behaviour}
use Rattle.rules.specs.Product.{value_layer}
use Rattle.rules.specs.FixedTerm.{fixed_term, layer_size, layout_of}
use Rattle.rules.specs.Refusals.{accepted, refused, number_of, place_of, on_success, Verdict, verdict}
use Rattle.rules.specs.Operations.{Answer, answer, work_after, behaviour_of, filled, no_table_checks}
use Rattle.rules.specs.Fee.{under_fee, fee_found, fee_answer, fee_work}
use Rattle.laws.specs.Terms.{with_fee}
use Rattle.laws.specs.Fee.{fee_value, meets, smallest_fee, first_to_meet}
use Rattle.laws.proofs.FeeSought.{meets_lasts}
use Rattle.laws.proofs.Pricing.{fee_refused, fee_accepted, fee_wanting, fee_accepts, fee_claim}
use Rattle.std.specs.Prelude.{Option, Some, None, ok_or}
use Rattle.contract.specs.declared.Refusal.TheVariants.{NoFee}
use Rattle.date.specs.Behaviour.{behaviour_in}
use Rattle.contract.specs.Reading.{terms_in}
use Rattle.date.specs.declared.Behaviour as date
use Rattle.input.specs.declared.Policy as input
use Rattle.valuing.specs.declared.Valuation.{Valuation}
use Rattle.valuing.specs.Answered.{WorkLent, Worked, Passed, of_the_bytes}
use Rattle.pricing.specs.declared.Bracket as bracket
use Rattle.pricing.specs.declared.Priced as declared
use Rattle.pricing.specs.Priced.{Told, told_fee, told_found, fee_refusal, priced_at, narrowed, Kept, Searching, Found, Pricing}
use Rattle.rules.specs.Policy.{policy_of}

-- ---- what stands behind both layers is kept
pub kept_same : (c : Terms) (work : List ℕ) → Kept c work work
kept_same c work = record { long = refl; rest = λ x l. refl }

kept_more : {c : Terms} {work work' work'' : List ℕ} → Kept c work work' → Kept c work' work'' → Kept c work work''
kept_more x y = record { long = y.long ∙ x.long; rest = λ j l. y.rest j l ∙ x.rest j l }

-- by a valuation, whatever the fee
worked_kept : {b : Behaviour} {c : Terms} {rs : Returns} {ds : Rates} {work work' : List ℕ} {a : Valuation}
    → layer_size c + layer_size c ≤ length work → Worked b c rs ds work a work' → Kept c work work'
unfolding work_after filled on_success value_layer layer fixed_term layout_of
worked_kept {c = c} {work = work} room w =
    let n = layer_size c in
    let z : ℕ → ℕ = λ i. 0 in
    let e = w.work_is ∙ sym (stored_two work _ n room) in record {
      long = ap length e ∙ length_stored _ n z n ∙ length_stored work 0 _ n;
      rest = λ x l.
          ap (λ (xs : List ℕ). get_or xs x 0) e ∙ stored_out _ n z n x (inr l) ∙ stored_out work 0 _ n x (inr (omega arith));
    }

-- ---- what a valuation under a fee is given ..
pub lent_under_fee : {c d : Terms} {work work' : List ℕ} (fee : ℕ) → d ≡ with_fee c fee → WorkLent c work → Kept c work work'
    → WorkLent d work'
unfolding layer_size
lent_under_fee fee e lent kept = rw e (record { room = omega (arith, lent.room, kept.long) })

-- .. and leaves: the returns and rates are the same
pub worked_under_fee : {b : Behaviour} (c : Terms) {d : Terms} {list list' rates rates' work work' : List ℕ} {a : Valuation} (fee : ℕ)
    → d ≡ with_fee c fee → list' ≡ list → rates' ≡ rates → Worked b d (returns_of list') (rates_of rates') work a work'
    → Worked b (with_fee c fee) (returns_of list) (rates_of rates) work a work'
worked_under_fee {b} c {d} {list} {list'} {rates} {rates'} {work} {work'} {a} fee e f g w =
    subst (λ (t : Terms). Worked b t (returns_of list) (rates_of rates) work a work') e
    (subst (λ (l : List ℕ). Worked b d (returns_of l) (rates_of rates) work a work') f
    (subst (λ (r : List ℕ). Worked b d (returns_of list') (rates_of r) work a work') g w))

-- ---- the search
-- none is found yet
pub searching_none : (c : Terms) (rs : Returns) (ds : Rates) (b : Behaviour) (wanted : ℕ) (work : List ℕ) {s : bracket.Bracket}
    → s ≡ record { low = 0; high = rate_most + 1; found = None } → Searching c rs ds b wanted work s work
unfolding priced_at
searching_none c rs ds b wanted work e = rw e (record {
  ends = narrow_none (meets c rs ds b wanted) (rate_most + 1);
  found_is = refl;
  kept = kept_same c work;
})

-- a fee that is found
pricing : (c : Terms) (rs : Returns) (ds : Rates) (b : Behaviour) (fee : ℕ) → fee ≤ rate_most
    → priced_at c rs ds b fee ≡ record { answer = answer accepted (fee_value c rs ds b fee) c.premium; fee = fee }
unfolding priced_at
pricing c rs ds b fee l = rw (le-ltb rate_most fee l)

module _ {c : Terms} {rs : Returns} {ds : Rates} {b : Behaviour} {wanted : ℕ} {work work' : List ℕ} {s : bracket.Bracket}
    (x : Searching c rs ds b wanted work s work')
  where
    -- one valuation more
    pub searching_more : {work'' : List ℕ} {a : Valuation} (fee : ℕ) → c.penalty ≤ rate_most
        → s.low ≤ fee → fee < s.high → layer_size c + layer_size c ≤ length work → Worked b (with_fee c fee) rs ds work' a work''
        → Searching c rs ds b wanted work (narrowed s fee a wanted) work''
    unfolding meets fee_value answer on_success layer_size
    searching_more {work'' = work''} {a = a} fee small low high room w =
        go (ltb wanted a.value) (ltb→lt wanted a.value) (nltb→le wanted a.value)
      where
        value : a.value ≡ fee_value c rs ds b fee
        value = ap (λ (r : Answer). r.value) w.answer_is

        keeps : Kept c work work''
        keeps =
            let y = worked_kept (omega (arith, x.kept.long)) w in
            kept_more x.kept (record { long = y.long; rest = y.rest })

        within : fee ≤ rate_most
        within = omega (arith, x.ends.within)

        go : (t : Bool) → (T t → wanted < a.value) → (T (not t) → a.value ≤ wanted)
            → Searching c rs ds b wanted work (cond t (record { low = fee + 1; high = s.high; found = s.found })
            (record { low = s.low; high = fee; found = Some (record { valuation = a; fee = fee }) })) work''
        go true more less = record {
          ends = narrow_up x.ends (meets_lasts c rs ds small b wanted) fee high
              (false_is (leb (fee_value c rs ds b fee) wanted) (λ t. let l = leb→le _ wanted t in let m = more tt in omega (arith, value)));
          found_is = x.found_is;
          kept = keeps;
        }
        go false more less = record {
          ends = narrow_down x.ends fee low high (le→leb _ wanted (let l = less tt in omega (arith, value)));
          found_is =
              ap (λ (r : Answer). record { answer = r; fee = fee }) w.answer_is ∙ sym (pricing c rs ds b fee within);
          kept = keeps;
        }

    -- .. where none is left
    pub searching_done : s.high ≤ s.low → Found c rs ds b wanted work s.found work'
    searching_done l = record {
      found_is = x.found_is ∙ ap (priced_at c rs ds b) (sym (first_to_meet c rs ds b wanted ∙ narrow_end x.ends l));
      kept = x.kept;
    }

-- each valuation leaves less than the power of two that cut what was left: of 10,001 fees, in at most 14 valuations
pub narrowed_less : (s : bracket.Bracket) (fee : ℕ) (a : Valuation) (wanted : ℕ) → s.low < s.high
    → fee ≡ s.high - half (s.high - s.low)
    → let r = narrowed s fee a wanted in halvings (r.high - r.low) < halvings (s.high - s.low)
narrowed_less s fee a wanted l e = go (ltb wanted a.value) (halved (s.high - s.low) (omega arith))
  where
    go : (t : Bool) → Halved (s.high - s.low)
        → let r : bracket.Bracket = cond t (record { low = fee + 1; high = s.high; found = s.found })
        (record { low = s.low; high = fee; found = Some (record { valuation = a; fee = fee }) }) in
        halvings (r.high - r.low) < halvings (s.high - s.low)
    go true x = halvings_fall _ _ (omega arith) (omega (arith, x.within, x.below))
    go false x = halvings_fall _ _ (omega arith) (omega (arith, x.within, x.below))

pub fourteen : halvings (rate_most + 1) ≡ 14
unfolding halvings first first_from
fourteen = refl

-- ---- what the call tells
-- what was found, or that there is no such fee
pub told_or_none : (found : Option declared.Priced) → told_fee (ok_or found NoFee) ≡ told_found found
told_or_none (Some x) = refl
told_or_none None = refl

module _ (x : Input) (behaviour wanted : ℕ) (work : List ℕ) where
  abbrev said : Verdict
  said = verdict (no_table_checks (policy_of x) behaviour work)

  abbrev sought : ℕ
  sought = smallest_fee (terms_of x.bytes) (returns_of x.list) (rates_of x.rates) (behaviour_of behaviour) wanted

  -- the claim follows from the equations
  tells : {r : Told} {work' : List ℕ}
      → r.answer ≡ fee_answer (policy_of x) (under_fee fixed_term x) behaviour wanted work
      → r.fee ≡ fee_found (policy_of x) (under_fee fixed_term x) behaviour wanted work → work' ≡ fee_work (policy_of x) behaviour work
      → Pricing x behaviour wanted work r work'
  tells is fee left = record {
    answer_is = is;
    fee_is = fee;
    work_is = left;
    claim = λ zero_number rest.
        let yes_to = fee_accepts x behaviour wanted work (ap (λ (a : Answer). a.number) (sym is) ∙ zero_number) in
        rw (ap (λ (a : Answer). a.value) is, fee) (fee_claim x behaviour wanted work yes_to rest);
  }

  pub told_refused : (n q : ℕ) → said ≡ refused n q → Pricing x behaviour wanted work (fee_refusal n q) work
  unfolding fee_answer fee_found fee_work answer filled on_success number_of place_of
  told_refused n q e = let v = fee_refused x behaviour wanted work e in tells (rw v) (rw v) (rw e)

  module _ {policy : input.Policy} {b : date.Behaviour} (passed : Passed said x behaviour policy b) where
    abbrev c : Terms
    c = terms_in policy.contract

    -- a fee was found, or none
    priced : {r : Told} {work' : List ℕ}
        → r ≡ priced_at (terms_of x.bytes) (returns_of x.list) (rates_of x.rates) (behaviour_of behaviour) sought
        → work' ≡ fee_work (policy_of x) behaviour work → Pricing x behaviour wanted work r work'
    unfolding priced_at fee_answer fee_found answer on_success number_of place_of smallest_fee fee_value terms_under terms_of
    priced {r = r} {work' = work'} f left = go (dec_le sought rate_most)
      where
        go : Dec (sought ≤ rate_most) → Pricing x behaviour wanted work r work'
        go (yes l) =
            let v = fee_accepted x behaviour wanted work passed.accepts l in
            let g = rw (le-ltb rate_most sought l) at f in
            tells (rw v (ap (λ (y : Told). y.answer) g)) (rw v (ap (λ (y : Told). y.fee) g)) left
        go (no l) =
            let m : rate_most < sought = omega arith in
            let v = fee_wanting x behaviour wanted work passed.accepts m in
            let g = rw (lt-ltb rate_most sought m) at f in
            tells (rw v (ap (λ (y : Told). y.answer) g)) (rw v (ap (λ (y : Told). y.fee) g)) left

    -- the working slice is cleared behind the search
    pub told_cleared : {r : Option declared.Priced} {work' work'' : List ℕ} {size : ℕ} → layer_size c + layer_size c ≤ length work
        → Found c (returns_of policy.list.now) (rates_of policy.rates.now) (behaviour_in b) wanted work r work'
        → size ≡ 2 * layer_size c → work'' ≡ stored work' 0 (λ (i : ℕ). 0) size
        → Pricing x behaviour wanted work (told_fee (ok_or r NoFee)) work''
    unfolding fee_work filled on_success fixed_term layout_of
    told_cleared {r = r} {work' = work'} room s size_is cleared =
        priced (told_or_none r
        ∙ of_the_bytes passed (λ d t list rates.
        let rs = returns_of list in
        let ds = rates_of rates in
        told_found r ≡ priced_at t rs ds d (smallest_fee t rs ds d wanted)) s.found_is)
        (cleared
        ∙ ap (λ (n : ℕ). stored work' 0 (λ (i : ℕ). 0) n) size_is
        ∙ stored_clear work _ (2 * layer_size c) s.kept.long (omega arith) (λ j l. s.kept.rest j (omega arith))
        ∙ rw (passed.accepts, passed.terms))
