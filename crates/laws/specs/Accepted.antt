-- What holds of terms, returns and death rates that no condition turns away. Assumes nothing.
use Rattle.std.specs.Prelude.{Bool, cond, not, ◌&&◌, ◌||◌, List, [], ◌∷◌, ◌++◌, ◌↔◌, ◌≡◌, refl, ℕ, ◌+◌, ◌*◌, ◌/◌, ◌%◌, ◌≤◌, ◌<◌, ltb, eqb}
use Rattle.std.specs.Prelude.{length}
use Rattle.std.proofs.Math.Bool.{true, false}
use Rattle.std.proofs.Math.Path.{ap}
use Rattle.std.proofs.Common.{sym, ◌∙◌, subst, eqb→eq, ltb→lt, nltb→le, T_not, lt-ltb}
use Rattle.std.proofs.Math.Decide.{dec_le}
use native.Mathlib.Omega.{arith}
use Rattle.std.proofs.Math.Dec.{T, eqb_refl, not_T}
use Rattle.std.proofs.Math.ListN.{get_or-eq_default}
use Rattle.decision.specs.Index.{sum, first, first_is}
use Rattle.decision.specs.Choice.{and_left, and_right}
use Rattle.rules.specs.Contract.{Input, Terms, Returns, Rates, word, terms_of, top_most, dates_most, rate_most, discount_most, return_bytes}
use Rattle.rules.specs.Contract.{returns_of, returns_most, factor_most, weight_most, weight_total, rate_bytes, rates_of, zero_rates}
use Rattle.rules.specs.Refusals.{Check, check, check_each, Verdict, accepted, refused, verdict, number_of, place_of, on_success, outside}
use Rattle.rules.specs.Refusals.{terms_checks, record_checks, bad_return, list_checks, rates_checks, input_checks}
use Rattle.rules.specs.Facts.{check_numbers}

-- the column of ranges, and refusals 2 to 6 and 15, for accepted terms
pub record Valid (c : Terms) : Type 0 where
  pub top : c.top ≤ top_most
  pub premium_least : 1 ≤ c.premium
  pub premium : c.premium ≤ c.top
  pub level_least : 1 ≤ c.level
  pub level : c.level ≤ c.premium
  pub dates_least : 1 ≤ c.dates
  pub dates : c.dates ≤ dates_most
  pub fee : c.fee ≤ rate_most
  pub penalty : c.penalty ≤ rate_most
  pub discount_least : 1 ≤ c.discount
  pub discount : c.discount ≤ discount_most
  pub step : c.step ≤ rate_most
  pub spare : c.spare ≡ 0

-- refusals 7 to 9, for accepted returns
pub record ValidReturns (rs : Returns) : Type 0 where
  pub count_least : 1 ≤ rs.count
  pub count : rs.count ≤ returns_most
  pub factor : (k : ℕ) → k < rs.count → rs.factor k ≤ factor_most
  pub weight_least : (k : ℕ) → k < rs.count → 1 ≤ rs.weight k
  pub weight : (k : ℕ) → k < rs.count → rs.weight k ≤ weight_most
  pub total : sum rs.weight rs.count ≡ weight_total

-- refusal 18, for accepted death rates: behind the last period their list has none
pub record ValidRates (ds : Rates) : Type 0 where
  pub rate : (i : ℕ) → ds i ≤ rate_most

-- all that a valuation is given
pub record ValidInput (c : Terms) (rs : Returns) (ds : Rates) : Type 0 where
  pub terms : Valid c
  pub returns : ValidReturns rs
  pub rates : ValidRates ds

-- every check passes
unfoldable pub AllPass : List Check → Type 0
AllPass [] = Unit {0}
AllPass (check number place failed ∷ ks) = T (not failed) × AllPass ks

pub all_pass : (ks : List Check) → verdict ks ≡ accepted → AllPass ks
unfolding verdict AllPass
all_pass [] e = tt
all_pass (check number place failed ∷ ks) e = go failed e (all_pass ks)
  where
    go : (b : Bool) → cond b (refused number place) (verdict ks) ≡ accepted → (verdict ks ≡ accepted → AllPass ks)
        → T (not b) × AllPass ks
    go true e f = let z : ◌≡◌ {A = ℕ} 0 1 = cc in absurd (omega arith)
    go false e f = (tt, f e)

pub passes : (ks : List Check) → AllPass ks → verdict ks ≡ accepted
unfolding verdict AllPass
passes [] p = refl
passes (check number place failed ∷ ks) (t, p) = go failed t (passes ks p)
  where
    go : (b : Bool) → T (not b) → verdict ks ≡ accepted → cond b (refused number place) (verdict ks) ≡ accepted
    go true t e = absurd t
    go false t e = e

-- no refusal has number 0, so number 0 is success
unfoldable pub Positive : List ℕ → Type 0
Positive [] = Unit {0}
Positive (n ∷ ns) = (1 ≤ n) × Positive ns

pub zero_accepts : (ks : List Check) → Positive (check_numbers ks) → number_of (verdict ks) ≡ 0 → verdict ks ≡ accepted
unfolding check_numbers Positive verdict number_of
zero_accepts [] p e = refl
zero_accepts (check number place failed ∷ ks) (l, p) e = go failed (zero_accepts ks p) e
  where
    go : (b : Bool) → (number_of (verdict ks) ≡ 0 → verdict ks ≡ accepted)
        → number_of (cond b (refused number place) (verdict ks)) ≡ 0
        → cond b (refused number place) (verdict ks) ≡ accepted
    go true later x = absurd (omega arith)
    go false later x = later x

pub pass_left : (ks ls : List Check) → AllPass (ks ++ ls) → AllPass ks
unfolding AllPass
pass_left [] ls p = tt
pass_left (check n q failed ∷ ks) ls (t, p) = (t, pass_left ks ls p)

pub pass_right : (ks ls : List Check) → AllPass (ks ++ ls) → AllPass ls
unfolding AllPass
pass_right [] ls p = p
pass_right (check n q failed ∷ ks) ls (t, p) = pass_right ks ls p

-- neither of two conditions holds
pub nor_left : (a b : Bool) → T (not (a || b)) → T (not a)
nor_left true b t = t
nor_left false b t = tt

pub nor_right : (a b : Bool) → T (not (a || b)) → T (not b)
nor_right true b t = absurd t
nor_right false b t = t

pub not_not : (b : Bool) → T (not (not b)) → T b
not_not true t = tt
not_not false t = t

pub at_least : (least most x : ℕ) → T (not (outside least most x)) → least ≤ x
unfolding outside
at_least least most x t = nltb→le x least (nor_left (ltb x least) (ltb most x) t)

pub at_most : (least most x : ℕ) → T (not (outside least most x)) → x ≤ most
unfolding outside
at_most least most x t = nltb→le most x (nor_right (ltb x least) (ltb most x) t)

-- where no thing is bad, each is good
each_passes : (n : ℕ) (bad : ℕ → Bool) → T (not (ltb (first bad n) n)) → (k : ℕ) → k < n → T (not (bad k))
each_passes n bad t k l =
    let x = first_is bad n in
    let m = nltb→le (first bad n) n t in
    not_T (bad k) (λ q. x.none k (omega arith) (omega arith) q)

pub valid_terms : (c : Terms) → AllPass (terms_checks c) → Valid c
unfolding terms_checks AllPass
valid_terms c (top_premium, (level, (dates, (rates, (discount, (step_spare, done)))))) =
    record {
      top = nltb→le top_most c.top (nor_left (ltb top_most c.top) (outside 1 c.top c.premium) top_premium);
      premium_least = at_least 1 c.top c.premium (nor_right (ltb top_most c.top) (outside 1 c.top c.premium) top_premium);
      premium = at_most 1 c.top c.premium (nor_right (ltb top_most c.top) (outside 1 c.top c.premium) top_premium);
      level_least = at_least 1 c.premium c.level level;
      level = at_most 1 c.premium c.level level;
      dates_least = at_least 1 dates_most c.dates dates;
      dates = at_most 1 dates_most c.dates dates;
      fee = nltb→le rate_most c.fee (nor_left (ltb rate_most c.fee) (ltb rate_most c.penalty) rates);
      penalty = nltb→le rate_most c.penalty (nor_right (ltb rate_most c.fee) (ltb rate_most c.penalty) rates);
      discount_least = at_least 1 discount_most c.discount discount;
      discount = at_most 1 discount_most c.discount discount;
      step = nltb→le rate_most c.step (nor_left (ltb rate_most c.step) (not (eqb c.spare 0)) step_spare);
      spare = eqb→eq c.spare 0 (not_not (eqb c.spare 0) (nor_right (ltb rate_most c.step) (not (eqb c.spare 0)) step_spare));
    }

pub valid_record : (bytes : List ℕ) → AllPass (record_checks bytes) → Valid (terms_of bytes)
unfolding record_checks AllPass
valid_record bytes (size, rest) = valid_terms (terms_of bytes) rest

-- a list of 4 to 256 bytes in fours holds 1 to 64 records
count_least : (n : ℕ) → 1 ≤ n → n % 4 ≡ 0 → 1 ≤ n / 4
count_least n l e = omega arith

count_most : (n : ℕ) → n ≤ 256 → n / 4 ≤ 64
count_most n l = omega arith

good_factor : (rs : Returns) (k : ℕ) → T (not (bad_return rs k)) → rs.factor k ≤ factor_most
unfolding bad_return
good_factor rs k t = nltb→le factor_most (rs.factor k) (nor_left (ltb factor_most (rs.factor k)) (outside 1 weight_most (rs.weight k)) t)

good_weight : (rs : Returns) (k : ℕ) → T (not (bad_return rs k)) → T (not (outside 1 weight_most (rs.weight k)))
unfolding bad_return
good_weight rs k t = nor_right (ltb factor_most (rs.factor k)) (outside 1 weight_most (rs.weight k)) t

pub valid_returns : (bytes : List ℕ) → AllPass (list_checks bytes) → ValidReturns (returns_of bytes)
unfolding list_checks check_each AllPass returns_of
valid_returns bytes (size, (each, (total, done))) =
    let n = length bytes in
    let rs = returns_of bytes in
    let long = nor_left (outside 1 (return_bytes * returns_most) n) (not (eqb (n % return_bytes) 0)) size in
    let fours =
    not_not (eqb (n % return_bytes) 0) (nor_right (outside 1 (return_bytes * returns_most) n) (not (eqb (n % return_bytes) 0)) size) in
    let good = each_passes rs.count (bad_return rs) each in
    record {
      count_least = count_least n (at_least 1 (return_bytes * returns_most) n long) (eqb→eq (n % return_bytes) 0 fours);
      count = count_most n (at_most 1 (return_bytes * returns_most) n long);
      factor = λ k l. good_factor rs k (good k l);
      weight_least = λ k l. at_least 1 weight_most (rs.weight k) (good_weight rs k (good k l));
      weight = λ k l. at_most 1 weight_most (rs.weight k) (good_weight rs k (good k l));
      total = eqb→eq (sum rs.weight rs.count) weight_total (not_not (eqb (sum rs.weight rs.count) weight_total) total);
    }

-- a number behind the end of a list is 0
word_behind : (bytes : List ℕ) (i : ℕ) → length bytes ≤ i → word bytes i ≡ 0
unfolding word
word_behind bytes i l =
    let low = get_or-eq_default bytes 0 {n = i} l in
    let high = get_or-eq_default bytes 0 {n = i + 1} (omega arith) in
    omega arith

pub valid_rates : (dates : ℕ) (bytes : List ℕ) → AllPass (rates_checks dates bytes) → ValidRates (rates_of bytes)
unfolding rates_checks check_each AllPass rates_of
valid_rates dates bytes (size, (each, done)) = record { rate = λ i. go i (dec_le dates i) }
  where
    go : (i : ℕ) → Dec (dates ≤ i) → word bytes (rate_bytes * i) ≤ rate_most
    go i (no h) =
        nltb→le rate_most (word bytes (rate_bytes * i))
        (each_passes dates (λ k. ltb rate_most (word bytes (rate_bytes * k))) each i (omega arith))
    go i (yes h) =
        let long = eqb→eq (length bytes) (rate_bytes * dates) (not_not (eqb (length bytes) (rate_bytes * dates)) size) in
        let none = word_behind bytes (rate_bytes * i) (omega arith) in
        omega arith

pub living_valid : ValidRates zero_rates
living_valid = record { rate = λ i. omega arith }

-- ---- checks in two parts
-- the later checks count where the earlier ones accept
abbrev pub and_then : Verdict → Verdict → Verdict
and_then accepted v = v
and_then (refused n p) v = refused n p

pub then_none : (v : Verdict) → and_then v accepted ≡ v
then_none accepted = refl
then_none (refused n p) = refl

pub verdict_append : (ks ls : List Check) → verdict (ks ++ ls) ≡ and_then (verdict ks) (verdict ls)
unfolding verdict
verdict_append [] ls = refl
verdict_append (check number place failed ∷ ks) ls = go failed (verdict_append ks ls)
  where
    go : (b : Bool) → verdict (ks ++ ls) ≡ and_then (verdict ks) (verdict ls)
        → cond b (refused number place) (verdict (ks ++ ls))
        ≡ and_then (cond b (refused number place) (verdict ks)) (verdict ls)
    go true e = refl
    go false e = e

pub then_accepted : (ks ls : List Check) → verdict ks ≡ accepted → verdict (ks ++ ls) ≡ verdict ls
then_accepted ks ls e = verdict_append ks ls ∙ ap (λ (v : Verdict). and_then v (verdict ls)) e

pub then_refused : (ks ls : List Check) {n p : ℕ} → verdict ks ≡ refused n p → verdict (ks ++ ls) ≡ refused n p
then_refused ks ls e = verdict_append ks ls ∙ ap (λ (v : Verdict). and_then v (verdict ls)) e

pub then_earlier : (ks ls : List Check) → verdict (ks ++ ls) ≡ accepted → verdict ks ≡ accepted
then_earlier ks ls e = passes ks (pass_left ks ls (all_pass _ e))

pub then_later : (ks ls : List Check) → verdict (ks ++ ls) ≡ accepted → verdict ls ≡ accepted
then_later ks ls e = passes ls (pass_right ks ls (all_pass _ e))

-- a record and a list that are accepted
pub both_terms : (bytes list : List ℕ) → verdict (record_checks bytes ++ list_checks list) ≡ accepted → Valid (terms_of bytes)
both_terms bytes list e = valid_record bytes (pass_left (record_checks bytes) _ (all_pass _ e))

pub both_returns : (bytes list : List ℕ) → verdict (record_checks bytes ++ list_checks list) ≡ accepted → ValidReturns (returns_of list)
both_returns bytes list e = valid_returns list (pass_right (record_checks bytes) _ (all_pass _ e))

-- .. and rates
pub input_both : (x : Input) → verdict (input_checks x) ≡ accepted → verdict (record_checks x.bytes ++ list_checks x.list) ≡ accepted
unfolding input_checks
input_both x e = then_earlier _ _ e

pub input_valid : (x : Input) → verdict (input_checks x) ≡ accepted
    → ValidInput (terms_of x.bytes) (returns_of x.list) (rates_of x.rates)
unfolding input_checks
input_valid x e = record {
  terms = both_terms x.bytes x.list (then_earlier _ _ e);
  returns = both_returns x.bytes x.list (then_earlier _ _ e);
  rates = valid_rates _ x.rates (pass_right (record_checks x.bytes ++ list_checks x.list) _ (all_pass _ e));
}

-- ---- what a verdict tells
pub success_reports : {A : Type 0} {v : Verdict} (new old : A) → v ≡ accepted → on_success v new old ≡ new
unfolding on_success
success_reports new old e = rw e

-- a number that is not 0 leaves what was there
pub refusal_keeps : {A : Type 0} (v : Verdict) (new old : A) → (number_of v ≡ 0 → ⊥) → on_success v new old ≡ old
unfolding number_of on_success
refusal_keeps accepted new old h = absurd (h refl)
refusal_keeps (refused n p) new old h = refl

-- checks whose place is 0
unfoldable pub NoPlace : List Check → Type 0
NoPlace [] = Unit {0}
NoPlace (check number place failed ∷ ks) = (place ≡ 0) × NoPlace ks

pub no_place : (ks : List Check) → NoPlace ks → place_of (verdict ks) ≡ 0
unfolding NoPlace verdict place_of
no_place [] p = refl
no_place (check number place failed ∷ ks) (e, p) = go failed (no_place ks p)
  where
    go : (b : Bool) → place_of (verdict ks) ≡ 0 → place_of (cond b (refused number place) (verdict ks)) ≡ 0
    go true x = e
    go false x = x

pub no_places : (ks ls : List Check) → NoPlace ks → NoPlace ls → NoPlace (ks ++ ls)
unfolding NoPlace
no_places [] ls p q = q
no_places (check number place failed ∷ ks) ls (e, p) q = (e, no_places ks ls p q)

-- ---- a refusal comes under its written condition and no other
-- a number that no check has
unfoldable pub Absent : ℕ → List ℕ → Type 0
Absent n [] = Unit {0}
Absent n (m ∷ ms) = (m ≡ n → ⊥) × Absent n ms

-- .. as a test finds it
unfoldable pub apart : ℕ → List ℕ → Bool
apart n [] = true
apart n (m ∷ ms) = not (eqb m n) && apart n ms

pub absent : (n : ℕ) (ms : List ℕ) → T (apart n ms) → Absent n ms
unfolding apart Absent
absent n [] t = tt
absent n (m ∷ ms) t = (
  λ e. T_not (eqb m n) (and_left (not (eqb m n)) (apart n ms) t) (subst (λ (x : ℕ). T (eqb m x)) e (eqb_refl m)),
  absent n ms (and_right (not (eqb m n)) (apart n ms) t),
)

pub not_refused : (ks : List Check) (n p : ℕ) → Absent n (check_numbers ks) → verdict ks ≡ refused n p → ⊥
unfolding check_numbers number_of Absent verdict
not_refused [] n p a e = let z : ◌≡◌ {A = ℕ} 0 1 = cc in omega arith
not_refused (check number place failed ∷ ks) n p (apart, a) e = go failed e (not_refused ks n p a)
  where
    go : (b : Bool) → cond b (refused number place) (verdict ks) ≡ refused n p → (verdict ks ≡ refused n p → ⊥) → ⊥
    go true x later = apart (ap number_of x)
    go false x later = later x

-- EACH REFUSAL: with its number and place exactly where every check before it passes and its own fails
pub refused_iff : (ks : List Check) (n p : ℕ) (failed : Bool) (ls : List Check) → Absent n (check_numbers ks) → Absent n (check_numbers ls)
    → (verdict (ks ++ (check n p failed ∷ ls)) ≡ refused n p) ↔ (AllPass ks × T failed)
unfolding check_numbers number_of Absent verdict AllPass
refused_iff [] n p failed ls a b = (λ e. (tt, fails failed e), λ (t, f). does failed f)
  where
    fails : (x : Bool) → cond x (refused n p) (verdict ls) ≡ refused n p → T x
    fails true e = tt
    fails false e = absurd (not_refused ls n p b e)

    does : (x : Bool) → T x → cond x (refused n p) (verdict ls) ≡ refused n p
    does true t = refl
    does false t = absurd t
refused_iff (check number place fell ∷ ks) n p failed ls (apart, a) b =
    let later = refused_iff ks n p failed ls a b in
    (λ e. passes_first fell e later.0, λ ((t, ts), f). does fell t (later.1 (ts, f)))
  where
    rest : Verdict
    rest = verdict (ks ++ (check n p failed ∷ ls))

    passes_first : (x : Bool) → cond x (refused number place) rest ≡ refused n p
        → (rest ≡ refused n p → AllPass ks × T failed) → (T (not x) × AllPass ks) × T failed
    passes_first true e later = absurd (apart (ap number_of e))
    passes_first false e later = let q = later e in ((tt, q.0), q.1)

    does : (x : Bool) → T (not x) → rest ≡ refused n p → cond x (refused number place) rest ≡ refused n p
    does true t e = absurd t
    does false t e = e

-- a number that two checks in a row have, the first with the place N, the second with a place m where m is below N: each comes
-- exactly where every check before it passes and its own fails
module _ (ks ls : List Check) (n N m : ℕ) (fell : Bool) (before : Absent n (check_numbers ks)) (behind : Absent n (check_numbers ls)) where
  abbrev pub pair : Verdict
  pair = verdict (ks ++ (check n N fell ∷ check n (0 + m) (ltb m N) ∷ ls))

  -- what the two say, once the checks before them pass
  abbrev said : Bool → Bool → Verdict
  said x y = cond x (refused n N) (cond y (refused n (0 + m)) (verdict ls))

  tail_is : verdict ks ≡ accepted → pair ≡ said fell (ltb m N)
  unfolding verdict
  tail_is e = then_accepted ks _ e

  passed : (p : ℕ) → pair ≡ refused n p → verdict ks ≡ accepted
  passed p e = go (verdict ks) refl
    where
      go : (v : Verdict) → verdict ks ≡ v → verdict ks ≡ accepted
      go accepted a = a
      go (refused i q) a = absurd (not_refused ks n p before (a ∙ sym (then_refused ks _ a) ∙ e))

  pub first_iff : (pair ≡ refused n N) ↔ (AllPass ks × T fell)
  unfolding place_of
  first_iff = (
    λ e. let a = passed N e in (all_pass ks a, fails fell (ltb m N) (ltb→lt m N) (sym (tail_is a) ∙ e)),
    λ (p, f). tail_is (passes ks p) ∙ does fell f,
  )
    where
      fails : (x y : Bool) → (T y → m < N) → said x y ≡ refused n N → T x
      fails true y l e = tt
      fails false true l e = let z = ap place_of e in let k = l tt in absurd (omega arith)
      fails false false l e = absurd (not_refused ls n N behind e)

      does : (x : Bool) → T x → said x (ltb m N) ≡ refused n N
      does true t = refl
      does false t = absurd t

  pub second_iff : (k : ℕ) → k < N → (pair ≡ refused n k) ↔ (AllPass ks × T (not fell) × (m ≡ k))
  unfolding place_of
  second_iff k below = (
    λ e. let a = passed k e in let both = falls fell (ltb m N) (sym (tail_is a) ∙ e) in (all_pass ks a, both.0, both.1),
    λ (p, t, e). tail_is (passes ks p) ∙ does fell t e,
  )
    where
      falls : (x y : Bool) → said x y ≡ refused n k → T (not x) × (m ≡ k)
      falls true y e = let z = ap place_of e in absurd (omega arith)
      falls false true e = let z = ap place_of e in let same : m ≡ k = omega arith in (tt, same)
      falls false false e = absurd (not_refused ls n k behind e)

      does : (x : Bool) → T (not x) → m ≡ k → said x (ltb m N) ≡ refused n k
      does true t e = absurd t
      does false t e = let same : 0 + m ≡ k = omega arith in rw (lt-ltb m N (omega arith)) (ap (refused n) same)
