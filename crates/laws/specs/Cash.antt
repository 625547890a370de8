-- What a walk pays: document 02 (iv), "A walk adds 10,000 × the excess to the cash of the date reached." Assumes nothing.
use Rattle.std.specs.Prelude.{List, [], ◌∷◌, ◌++◌, ◌≡◌, refl, length, drop}
use Rattle.std.proofs.Math.Path.{ap, sym}
use Rattle.std.proofs.Common.{◌∙◌, mul-le-mul, sub-le}
use Prim.Native.Nat.{ℕ, zero, suc, ◌+◌, ◌-◌, ◌*◌, ◌≤◌}
use Rattle.std.proofs.Math.Nat.{le_trans}
use native.Mathlib.Omega.{arith}
use Rattle.std.proofs.Math.ListN.{get_or, get_or-append}
use Rattle.decision.specs.Index.{sum, sum_eq, sum_add, sum_times, tabulate, get_d_tabulate}
use Rattle.rules.specs.Contract.{Terms, Returns, terms_of, returns_of}
use Rattle.rules.specs.Date.{penalty, cash, excess, excess_paid, maturity_value}
use Rattle.rules.specs.Product.{walk_state, walk_amount, walk_held, walk_paid, walk_cash_on, walk_cash_last, walk_cash}
use Rattle.rules.specs.FixedTerm.{free_in, rate_in, cash_in, paid_by, process_of, fixed_term}
use Rattle.rules.specs.Refusals.{accepted, verdict, on_success}
use Rattle.rules.specs.Operations.{filled, walk_checks, walk_cashes}
use Rattle.rules.specs.Policy.{living_policy}
use Rattle.laws.specs.Walk.{walk_read}
use Rattle.laws.specs.Accepted.{Valid, both_terms}
use Rattle.laws.specs.Step.{rate_le}
use Rattle.laws.specs.Terms.{living_term}

-- the penalty on date j + 1, and the excess of the return that leads to date j + 1
abbrev pub walk_penalty : Terms → Returns → List ℕ → List ℕ → ℕ → ℕ
walk_penalty c rs table path j =
    penalty (rate_in c (suc j)) (free_in c (walk_state (living_term c rs) table path (suc j)))
    (walk_amount (living_term c rs) table path (suc j))

abbrev pub walk_excess : Terms → Returns → List ℕ → List ℕ → ℕ → ℕ
walk_excess c rs table path j =
    excess c.fee c.top (walk_held (living_term c rs) table path j).balance (rs.factor (get_or path j 0))

-- withdrawals, excess and the maturity payment
abbrev pub walk_due : Terms → Returns → List ℕ → List ℕ → ℕ
walk_due c rs table path =
    let last = walk_state (living_term c rs) table path c.dates in
    10000 * sum (λ j. walk_amount (living_term c rs) table path (suc j)) (c.dates - 1)
    + 10000 * sum (walk_excess c rs table path) c.dates
    + maturity_value last.account last.guarantee

-- a number behind n others
last_of : (n : ℕ) (f : ℕ → ℕ) (y : ℕ) → get_or (tabulate n f ++ (y ∷ [])) n 0 ≡ y
unfolding tabulate
last_of zero f y = refl
last_of (suc n) f y = last_of n (λ k. f (suc k)) y

listed_long : (n : ℕ) (f : ℕ → ℕ) (y : ℕ) → length (tabulate n f ++ (y ∷ [])) ≡ suc n
unfolding tabulate
listed_long zero f y = refl
listed_long (suc n) f y = ap suc (listed_long n (λ k. f (suc k)) y)

listed_sum : (n : ℕ) (f : ℕ → ℕ) (y : ℕ) → sum (λ j. get_or (tabulate n f ++ (y ∷ [])) j 0) (suc n) ≡ sum f n + y
unfolding sum
listed_sum n f y =
    let front = sum_eq (λ j. get_or (tabulate n f ++ (y ∷ [])) j 0) f n (λ j l. get_d_tabulate n j f (y ∷ []) l) in
    let last = last_of n f y in
    omega arith

-- cash and penalty are the amount
cash_penalty : (rate m t : ℕ) → rate ≤ 10000 → cash rate m t + penalty rate m t ≡ t * 10000
unfolding cash penalty
cash_penalty rate m t h = let l : rate * (t - m) ≤ 10000 * t = mul-le-mul h (sub-le t m) in omega arith

module _ (c : Terms) (rs : Returns) (table path : List ℕ) (v : Valid c) where
  -- on each date: what is withdrawn less its penalty, and the excess
  cash_of : (j : ℕ)
      → walk_cash_on (living_term c rs) table path j + walk_penalty c rs table path j
      ≡ walk_amount (living_term c rs) table path (suc j) * 10000 + walk_excess c rs table path j * 10000
  unfolding walk_cash_on walk_paid fixed_term process_of paid_by excess_paid cash_in
  cash_of j =
      let rate = le_trans (rate_le c.penalty c.step (suc j)) v.penalty in
      let s = walk_state (living_term c rs) table path (suc j) in
      let e = cash_penalty (rate_in c (suc j)) (free_in c s) (walk_amount (living_term c rs) table path (suc j)) rate in
      omega arith

  cash_long : length (walk_cash (living_term c rs) table path) ≡ c.dates
  unfolding walk_cash fixed_term process_of
  cash_long = listed_long (c.dates - 1) _ _ ∙ (let up : suc (c.dates - 1) ≡ c.dates = omega (arith, v.dates_least) in up)

  -- along any walk, cash paid is withdrawals less penalties plus excess plus the maturity payment
  pub walk_pays :
      sum (λ j. get_or (walk_cash (living_term c rs) table path) j 0) c.dates + sum (walk_penalty c rs table path) (c.dates - 1)
      ≡ walk_due c rs table path
  unfolding sum walk_cash walk_cash_last walk_paid fixed_term process_of paid_by excess_paid
  walk_pays =
      let n = c.dates - 1 in
      let up : suc n ≡ c.dates = omega (arith, v.dates_least) in
      let X = living_term c rs in
      let all = ap (sum (λ j. get_or (walk_cash X table path) j 0)) (sym up) ∙ listed_sum n (walk_cash_on X table path) _ in
      let amounts : ℕ → ℕ = λ j. walk_amount X table path (suc j) in
      let each =
      sym (sum_add (walk_cash_on X table path) (walk_penalty c rs table path) n)
      ∙ sum_eq _ _ n (λ j l. cash_of j)
      ∙ sum_add (λ j. amounts j * 10000) (λ j. walk_excess c rs table path j * 10000) n in
      let last = ap (sum (walk_excess c rs table path)) (sym up) in
      omega (arith, sum_times amounts 10000 n, sum_times (walk_excess c rs table path) 10000 n)

-- .. of a walk that is accepted, by the cash that it leaves
pub walk_settles : (bytes list table path cashes : List ℕ) → verdict (walk_checks (living_policy bytes list) table path cashes) ≡ accepted
    → sum (λ j. get_or (walk_cashes (living_policy bytes list) table path cashes) j 0) (terms_of bytes).dates
    + sum (walk_penalty (terms_of bytes) (returns_of list) table path) ((terms_of bytes).dates - 1)
    ≡ walk_due (terms_of bytes) (returns_of list) table path
unfolding walk_cashes filled on_success fixed_term process_of
walk_settles bytes list table path cashes a =
    let c = terms_of bytes in
    let rs = returns_of list in
    let v = both_terms bytes list (walk_read (living_policy bytes list) table path cashes a) in
    let cash = walk_cash (living_term c rs) table path in
    let long = cash_long c rs table path v in
    let front = sum_eq (λ j. get_or (cash ++ drop c.dates cashes) j 0) (λ j. get_or cash j 0) c.dates (λ j l.
    get_or-append cash (drop c.dates cashes) 0 j (omega arith)) in
    rw a (ap (λ (x : ℕ). x + sum (walk_penalty c rs table path) (c.dates - 1)) front ∙ walk_pays c rs table path v)
