-- Functions of an index: their sum, their list, and the first index that passes a test. Assumes nothing.
use Rattle.std.specs.Prelude.{Bool, true, false, List, [], ◌∷◌, ◌++◌, ◌≡◌, refl, ℕ, zero, suc, ◌+◌, ◌-◌, ◌*◌, ◌≤◌, ◌<◌, T, get_or, length}
use Rattle.std.specs.Prelude.{replicate, drop}
use Rattle.std.proofs.Common.{ap, ap₂, sym, subst, ◌∙◌, le_refl, le_trans, le_of_eq, add-le-add, mul-le-mul_left, add-zero, zero-add}
use Rattle.std.proofs.Common.{suc-add, add-one, arith}
use Rattle.std.proofs.Math.Decide.{dec_le}

-- f 0 + f 1 + .. + f (n - 1)
unfoldable pub sum : (ℕ → ℕ) → ℕ → ℕ
sum f zero = 0
sum f (suc n) = sum f n + f n

-- f 0, f 1, .. f (n - 1)
unfoldable pub tabulate : ℕ → (ℕ → ℕ) → List ℕ
tabulate zero f = []
tabulate (suc n) f = f 0 ∷ tabulate n (λ k. f (suc k))

-- the first of the n indexes from i on that passes the test; i + n where none does
unfoldable pub first_from : (ℕ → Bool) → ℕ → ℕ → ℕ
first_from test zero i = i
first_from test (suc n) i = elim (test i) [ true ↦ i | false ↦ first_from test n (suc i) ]

-- the first index below n that passes the test; n where none does
unfoldable pub first : (ℕ → Bool) → ℕ → ℕ
first test n = first_from test n 0

-- ---- sums
pub sum_le : (f g : ℕ → ℕ) (n : ℕ) → ((k : ℕ) → k < n → f k ≤ g k) → sum f n ≤ sum g n
unfolding sum
sum_le f g zero h = le_refl 0
sum_le f g (suc n) h = add-le-add (sum_le f g n (λ k l. h k (omega arith))) (h n (le_refl (suc n)))

pub sum_eq : (f g : ℕ → ℕ) (n : ℕ) → ((k : ℕ) → k < n → f k ≡ g k) → sum f n ≡ sum g n
unfolding sum
sum_eq f g zero h = refl
sum_eq f g (suc n) h =
    let e = sum_eq f g n (λ k l. h k (omega arith)) in
    let x = h n (le_refl (suc n)) in
    omega arith

pub sum_times : (f : ℕ → ℕ) (c n : ℕ) → sum (λ k. f k * c) n ≡ sum f n * c
unfolding sum
sum_times f c zero = omega arith
sum_times f c (suc n) = let e = sum_times f c n in omega arith

-- a mean is at most what nothing in it passes: by weights that add to `total`
pub weighted_le : (f g : ℕ → ℕ) (n : ℕ) {total most : ℕ} → sum f n ≡ total → ((k : ℕ) → k < n → g k ≤ most)
    → sum (λ k. f k * g k) n ≤ total * most
weighted_le f g n {total} {most} e h =
    le_trans (sum_le (λ k. f k * g k) (λ k. f k * most) n (λ k l. mul-le-mul_left (f k) (h k l)))
    (le_of_eq (sum_times f most n ∙ ap (λ (x : ℕ). x * most) e))

pub sum_add : (f g : ℕ → ℕ) (n : ℕ) → sum (λ k. f k + g k) n ≡ sum f n + sum g n
unfolding sum
sum_add f g zero = refl
sum_add f g (suc n) = let e = sum_add f g n in omega arith

pub sum_append : (f : ℕ → ℕ) (a b : ℕ) → sum f (a + b) ≡ sum f a + sum (λ k. f (a + k)) b
unfolding sum
sum_append f a zero = rw (add-zero a) (omega arith)
sum_append f a (suc b) =
    let e : a + suc b ≡ suc (a + b) = omega arith in
    let before = sum_append f a b in
    rw e (omega arith)

pub sum_zeros : (f : ℕ → ℕ) (n : ℕ) → ((k : ℕ) → k < n → f k ≡ 0) → sum f n ≡ 0
unfolding sum
sum_zeros f zero h = refl
sum_zeros f (suc n) h =
    let before = sum_zeros f n (λ k l. h k (omega arith)) in
    let last = h n (le_refl (suc n)) in
    omega arith

pub sum_ones : (n : ℕ) → sum (λ k. 1) n ≡ n
unfolding sum
sum_ones zero = refl
sum_ones (suc n) = let before = sum_ones n in omega arith

-- a part is at most the whole: the first terms, and any one of them
pub sum_part : (f : ℕ → ℕ) (k n : ℕ) → k ≤ n → sum f k ≤ sum f n
sum_part f k n l = let e = ap (sum f) (let z : n ≡ k + (n - k) = omega arith in z) ∙ sum_append f k (n - k) in omega arith

pub sum_term : (f : ℕ → ℕ) (n k : ℕ) → k < n → f k ≤ sum f n
unfolding sum
sum_term f n k l = let h = sum_part f (suc k) n l in omega arith

-- ---- lists
pub length_tabulate : (n : ℕ) (f : ℕ → ℕ) → length (tabulate n f) ≡ n
unfolding tabulate
length_tabulate zero f = refl
length_tabulate (suc n) f = ap suc (length_tabulate n (λ k. f (suc k)))

pub tabulate_zeros : (n : ℕ) (f : ℕ → ℕ) → ((k : ℕ) → k < n → f k ≡ 0) → tabulate n f ≡ replicate n 0
unfolding tabulate
tabulate_zeros zero f h = refl
tabulate_zeros (suc n) f h = ap₂ ◌∷◌ (h 0 (omega arith)) (tabulate_zeros n (λ k. f (suc k)) (λ k l. h (suc k) (omega arith)))

pub tabulate_eq : (n : ℕ) (f g : ℕ → ℕ) → ((k : ℕ) → k < n → f k ≡ g k) → tabulate n f ≡ tabulate n g
unfolding tabulate
tabulate_eq zero f g h = refl
tabulate_eq (suc n) f g h =
    ap₂ ◌∷◌ (h 0 (omega arith)) (tabulate_eq n (λ k. f (suc k)) (λ k. g (suc k)) (λ k l. h (suc k) (omega arith)))

-- behind the first d
pub drop_tabulate : (d n : ℕ) (f : ℕ → ℕ) → drop d (tabulate (d + n) f) ≡ tabulate n (λ k. f (d + k))
unfolding tabulate
drop_tabulate zero n f =
    ap (λ (m : ℕ). tabulate m f) (zero-add n) ∙ tabulate_eq n f (λ k. f (0 + k)) (λ k l. ap f (sym (zero-add k)))
drop_tabulate (suc d) n f =
    ap (λ (m : ℕ). drop (suc d) (tabulate m f)) (suc-add d n)
    ∙ drop_tabulate d n (λ k. f (suc k))
    ∙ tabulate_eq n _ _ (λ k l. ap f (sym (suc-add d k)))

pub get_d_drop : (d k : ℕ) (xs : List ℕ) → get_or (drop d xs) k 0 ≡ get_or xs (d + k) 0
get_d_drop zero k xs = ap (λ (n : ℕ). get_or xs n 0) (sym (zero-add k))
get_d_drop (suc d) k [] = refl
get_d_drop (suc d) k (x ∷ xs) = get_d_drop d k xs ∙ ap (λ (n : ℕ). get_or (x ∷ xs) n 0) (sym (suc-add d k))

-- with anything behind
pub get_d_tabulate : (n e : ℕ) (f : ℕ → ℕ) (rest : List ℕ) → e < n → get_or (tabulate n f ++ rest) e 0 ≡ f e
unfolding tabulate
get_d_tabulate zero e f rest l = absurd (omega arith)
get_d_tabulate (suc n) zero f rest l = refl
get_d_tabulate (suc n) (suc e) f rest l = get_d_tabulate n e (λ k. f (suc k)) rest (omega arith)

-- ---- tests
pub true_is : (b : Bool) → T b → b ≡ true
true_is true t = refl
true_is false t = absurd t

pub false_is : (b : Bool) → (T b → ⊥) → b ≡ false
false_is true f = absurd (f tt)
false_is false f = refl

-- ---- the first index
-- what makes r the first of the indexes from i to j that passes, or j
pub record FirstFrom (test : ℕ → Bool) (i j r : ℕ) : Type 0 where
  pub from : i ≤ r
  pub within : r ≤ j
  pub passes : r < j → T (test r)
  pub none : (k : ℕ) → i ≤ k → k < r → T (test k) → ⊥

abbrev pub First : (ℕ → Bool) → ℕ → ℕ → Type 0
First test n r = FirstFrom test 0 n r

first_from_is : (test : ℕ → Bool) (n i : ℕ) → FirstFrom test i (i + n) (first_from test n i)
unfolding first_from
first_from_is test zero i = record {
  from = le_refl i;
  within = omega arith;
  passes = λ l. absurd (omega arith);
  none = λ k l m t. omega arith;
}
first_from_is test (suc n) i = go (test i) (λ t. t) (λ t. t) (first_from_is test n (suc i))
  where
    go : (b : Bool) → (T b → T (test i)) → (T (test i) → T b) → FirstFrom test (suc i) (suc i + n) (first_from test n (suc i))
        → FirstFrom test i (i + suc n) (elim b [ true ↦ i | false ↦ first_from test n (suc i) ])
    go true p q h = record { from = le_refl i; within = omega arith; passes = λ l. p tt; none = λ k l m t. omega arith }
    go false p q h = record {
      from = omega (arith, h.from);
      within = omega (arith, h.within);
      passes = λ l. h.passes (omega arith);
      none = λ k l m t. after k l m t (dec_le (suc i) k);
    }
      where
        after : (k : ℕ) → i ≤ k → k < first_from test n (suc i) → T (test k) → Dec (suc i ≤ k) → ⊥
        after k l m t (yes x) = h.none k x m t
        after k l m t (no x) = let e : k ≡ i = omega arith in q (subst (λ (j : ℕ). T (test j)) e t)

pub first_is : (test : ℕ → Bool) (n : ℕ) → First test n (first test n)
unfolding first
first_is test n = subst (λ (j : ℕ). FirstFrom test 0 j (first_from test n 0)) (omega arith) (first_from_is test n 0)

pub first_unique : {test : ℕ → Bool} {n r s : ℕ} → First test n r → First test n s → r ≡ s
first_unique {test} {n} {r} {s} x y = go (dec_le r s) (dec_le s r)
  where
    go : Dec (r ≤ s) → Dec (s ≤ r) → r ≡ s
    go (yes l) (yes m) = omega arith
    go (yes l) (no m) = let k : r < s = omega arith in absurd (y.none r (omega arith) k (x.passes (omega (arith, y.within))))
    go (no l) m = let k : s < r = omega arith in absurd (x.none s (omega arith) k (y.passes (omega (arith, x.within))))

-- an index that is first by what is known of it
pub is_first : {test : ℕ → Bool} {n r : ℕ} → First test n r → first test n ≡ r
is_first {test} {n} x = first_unique (first_is test n) x

-- nothing that passes comes before it
pub first_least : {test : ℕ → Bool} {n r : ℕ} → First test n r → (u : ℕ) → T (test u) → r ≤ u
first_least {test} {n} {r} x u t = elim (dec_le r u) [ yes l ↦ l | no l ↦ absurd (x.none u (omega arith) (omega arith) t) ]

-- where the search comes to its end, every index fails the test, and the other way round
pub all_fail : (test : ℕ → Bool) (n : ℕ) → n ≤ first test n → (k : ℕ) → k < n → test k ≡ false
all_fail test n h k l = false_is (test k) ((first_is test n).none k (omega arith) (omega arith))

pub none_found : (test : ℕ → Bool) (n : ℕ) → ((k : ℕ) → k < n → test k ≡ false) → n ≤ first test n
none_found test n h = go (dec_le n (first test n)) (first_is test n).passes
  where
    go : Dec (n ≤ first test n) → (first test n < n → T (test (first test n))) → n ≤ first test n
    go (yes l) passes = l
    go (no l) passes = absurd (subst T (h (first test n) (omega arith)) (passes (omega arith)))

-- ---- what a loop that counts up holds, where it says k + 1
pub sum_next : (f : ℕ → ℕ) (k : ℕ) → sum f (k + 1) ≡ sum f k + f k
unfolding sum
sum_next f k = rw add-one

-- a search that has come to k has passed nothing below it
pub record Searched (test : ℕ → Bool) (n k : ℕ) : Type 0 where
  pub within : k ≤ n
  pub passed : (j : ℕ) → j < k → test j ≡ false

pub search_none : (test : ℕ → Bool) (n : ℕ) → Searched test n 0
search_none test n = record { within = omega arith; passed = λ j l. absurd (omega arith) }

pub search_more : {test : ℕ → Bool} {n k : ℕ} → Searched test n k → k < n → test k ≡ false → Searched test n (k + 1)
search_more {test} {n} {k} x l e = record { within = omega arith; passed = λ j m. go j (omega arith) (dec_le (suc j) k) }
  where
    go : (j : ℕ) → j ≤ k → Dec (suc j ≤ k) → test j ≡ false
    go j m (yes h) = x.passed j h
    go j m (no h) = let z : j ≡ k = omega arith in rw z e

never : {b : Bool} → b ≡ false → T b → ⊥
never e t = subst T e t

pub search_hit : {test : ℕ → Bool} {n k : ℕ} → Searched test n k → k < n → test k ≡ true → first test n ≡ k
search_hit {test} {n} {k} x l e = is_first (record {
  from = omega arith;
  within = x.within;
  passes = λ m. subst T (sym e) tt;
  none = λ j i m t. never (x.passed j m) t;
})

pub search_end : {test : ℕ → Bool} {n k : ℕ} → Searched test n k → n ≤ k → first test n ≡ k
search_end {test} {n} {k} x l = is_first (record {
  from = omega arith;
  within = x.within;
  passes = λ m. absurd (omega arith);
  none = λ j i m t. never (x.passed j m) t;
})

-- a search in runs: `part` is the test from k on, and r its first index below m
module _ {test part : ℕ → Bool} {n k m r : ℕ} (x : Searched test n k) (fits : k + m ≤ n) (same : (e : ℕ) → e < m → test (k + e) ≡ part e)
    (found : first part m ≡ r)
  where
    here : First part m r
    here = subst (First part m) found (first_is part m)

    clear : (e : ℕ) → e < r → test (k + e) ≡ false
    clear e l = same e (omega (arith, here.within)) ∙ false_is (part e) (here.none e (omega arith) l)

    passed : (j : ℕ) → j < k + r → Dec (suc j ≤ k) → test j ≡ false
    passed j l (yes h) = x.passed j h
    passed j l (no h) = let e : j ≡ k + (j - k) = omega arith in rw e (clear (j - k) (omega arith))

    pub run_hit : r < m → first test n ≡ k + r
    run_hit l =
        search_hit (record { within = omega arith; passed = λ j h. passed j h (dec_le (suc j) k) }) (omega arith)
        (same r l ∙ true_is (part r) (here.passes l))

    pub run_end : m ≤ r → Searched test n (k + m)
    run_end l = record { within = fits; passed = λ j h. passed j (omega arith) (dec_le (suc j) k) }

-- tests that agree have the same first index
pub first_eq : (p q : ℕ → Bool) (n : ℕ) → ((k : ℕ) → k < n → p k ≡ q k) → first p n ≡ first q n
first_eq p q n h = first_unique (first_is p n) (record {
  from = x.from;
  within = x.within;
  passes = λ l. subst T (sym (h _ l)) (x.passes l);
  none = λ k i l t. x.none k i l (subst T (h k (omega (arith, x.within))) t);
})
  where
    x : First q n (first q n)
    x = first_is q n
