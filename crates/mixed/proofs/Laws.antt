-- The keys of the amounts that are compared, state by state and over a row. Assumes nothing.
use Rattle.std.specs.Prelude.{◌≢◌, ◌⊎◌, Bool, true, false}
use Rattle.std.proofs.Common.{inl, inr, true≢false}
use denote.Enum.Bare.{sameb}
use Rattle.date.specs.contracts.Behaviour.{the_type}
use Rattle.date.specs.declared.Behaviour as code
use Rattle.date.specs.declared.Behaviour.TheVariants.{Static, Mixed, Dynamic}
use Rattle.date.specs.Behaviour.{behaviour_in}
use mathlib.Core.List.{List}
use mathlib.Core.Path.{◌≡◌, refl, ap, ap₂, sym, ◌∙◌}
use Prim.Native.Nat.{ℕ, ◌+◌, ◌-◌, ◌*◌, ◌^◌, ◌≤◌, ◌<◌, max, min}
use native.Mathlib.Nat.{le_trans, le_of_eq, zero-add}
use native.Mathlib.Omega.{arith}
use lib.ListN.{length, get_or}
use Rattle.slices.specs.Stored.{stored, length_stored, stored_join, stored_first}
use Rattle.slices.specs.Rows.{cells}
use Rattle.rules.specs.Date.{Behaviour, static, mixed, dynamic, free_amount, cash}
use Rattle.laws.specs.Date.{free_level}
use Rattle.keys.specs.declared.Date.{Date}
use Rattle.keys.specs.declared.Block.{Block}
use Rattle.keys.specs.Key.{key, key_add}
use Rattle.keys.specs.Sums.{Sums, Span, Copying, sums, sum_most, sum_small, sum_in}
use Rattle.worth.specs.Worth.{best_key, key_over, Keys}
use Rattle.worth.specs.Laws.{free_is, surrender_is, static_key, mixed_key, surrender_key}

-- ---- the keys that are compared
-- a sum as it is stored, and with the key of the cash
module _ {work : List ℕ} {d : Date} {n at : ℕ} (s : Sums work d n) (x y : ℕ) (h : x < n) (l : y < d.stride)
    (at_is : at ≡ d.base + (x * d.stride + y))
  where
    pub cell_in : at < length work
    cell_in = let r = sum_in s x y 1 h (omega arith) in omega arith

    cell_is : get_or work at 0 ≡ cells work d.base d.stride x y
    cell_is = ap (λ (j : ℕ). get_or work j 0) at_is

    pub cell_small : get_or work at 0 ≤ sum_most
    cell_small = le_trans (le_of_eq cell_is) (sum_small s x y h l)

    pub key_is : {k : ℕ} (c t : ℕ) → k ≡ key c t → get_or work at 0 + k ≡ key (c + sums work d x y) t
    key_is c t e = ap₂ ◌+◌ (cell_is ∙ s.scaled x y h l) e ∙ sym (key_add c (sums work d x y) t)

-- m is the only amount
abbrev pub Alone : Behaviour → ℕ → ℕ → Type 0
Alone static w m = Unit
Alone mixed w m = w ≤ m
Alone dynamic w m = ⊥

-- .. by the code's test, or the account is the other
pub alone : (b : code.Behaviour) {is : Bool} {w m : ℕ} → is ≡ sameb the_type b Static → behaviour_in b ≢ dynamic
    → (is ≡ true) ⊎ ((is ≡ false) × (w ≤ m)) → Alone (behaviour_in b) w m
alone Static e n h = tt
alone Mixed e n (inl h) = absurd (true≢false (sym h ∙ e))
alone Mixed e n (inr (_, h)) = h
alone Dynamic e n h = absurd (n refl)

pub not_static : (b : code.Behaviour) {is : Bool} → is ≡ sameb the_type b Static → behaviour_in b ≢ dynamic → is ≡ false
    → behaviour_in b ≡ mixed
not_static Static e n h = absurd (true≢false (sym e ∙ h))
not_static Mixed e n h = refl
not_static Dynamic e n h = absurd (n refl)

-- the states of account w, by their guarantee
abbrev pub row_key : Behaviour → Date → ℕ → (ℕ → ℕ → ℕ) → ℕ → ℕ
row_key b d w e = best_key b e d.rate d.level w

-- the free amount
module _ {work : List ℕ} {d : Date} (w a : ℕ) {m x at k : ℕ} (s : Sums work d (w + 1)) (l : a < d.stride)
    (m_is : m ≡ free_amount d.level a) (x_is : x ≡ w - m) (at_is : at ≡ d.base + (x * d.stride + (a - m)))
    (k_is : k ≡ key (10000 * m) m)
  where
    stay_is : get_or work at 0 + k ≡ key_over (sums work d) d.rate (free_amount d.level a) w a (free_amount d.level a)
    stay_is =
        key_is s x (a - m) (omega arith) (omega arith) at_is (10000 * m) m k_is
        ∙ ap (λ (z : ℕ). key (10000 * m + sums work d z (a - m)) m) x_is
        ∙ ap (λ (v : ℕ). key v m) (sym (free_is (sums work d) d.rate m w a m (omega arith)))
        ∙ ap (λ (z : ℕ). key_over (sums work d) d.rate z w a z) m_is

    -- .. alone, where nothing else may be withdrawn
    pub free_alone : (b : Behaviour) → Alone b w m → get_or work at 0 + k ≡ row_key b d w (sums work d) a
    free_alone static h = stay_is ∙ static_key (sums work d) d.rate d.level w a
    free_alone mixed h = stay_is ∙ mixed_key (sums work d) d.rate d.level w a (omega arith)
    free_alone dynamic h = absurd h

    -- .. or the whole account
    pub larger_is : {b : Behaviour} {other : ℕ} → b ≡ mixed → m < w → other ≡ key (cash d.rate m w + sums work d 0 0) w
        → max (get_or work at 0 + k) other ≡ row_key b d w (sums work d) a
    larger_is e h o =
        let all = surrender_is (sums work d) d.rate (free_amount d.level a) w a (omega arith) in
        let all_is = o ∙ ap (λ (z : ℕ). key (cash d.rate z w + sums work d 0 0) w) m_is ∙ ap (λ (v : ℕ). key v w) (sym all) in
        rw e (ap₂ max stay_is all_is ∙ surrender_key (sums work d) d.rate d.level w a (omega arith))

-- ---- from the level on
level_from : (level from low n : ℕ) → low ≡ min n (level - from) → (i : ℕ) → i < n - low
    → (level ≤ from + (low + i)) × (from + low - level + i ≡ from + (low + i) - level)
level_from level from low n e i l = (omega arith, omega arith)

module _ {work : List ℕ} {d : Date} {s : Block} (b : Span work d s) {x y at low : ℕ} (low_is : low ≡ min s.n (d.level - s.from))
    (x_is : x ≡ s.w - d.level) (y_is : y ≡ s.from + low - d.level) (at_is : at ≡ d.base + (x * d.stride + y))
  where
    pub rest_room : at + (s.n - low) ≤ length work
    rest_room = let r = sum_in b.layers x y (s.n - low) (omega arith) (omega (arith, b.columns)) in omega arith

    module _ (i : ℕ) (l : i < s.n - low) where
      column : s.from + (low + i) < d.stride
      column = omega (arith, b.columns)

      place_is : at + i ≡ d.base + (x * d.stride + (s.from + (low + i) - d.level))
      place_is = let q = (level_from d.level s.from low s.n low_is i l).1 in omega arith

      rest_small : get_or work (at + i) 0 ≤ sum_most
      rest_small = cell_small b.layers x (s.from + (low + i) - d.level) (omega arith) (let c = column in omega arith) place_is

      free : d.level ≡ free_amount d.level (s.from + (low + i))
      free = sym (free_level d.level _ (level_from d.level s.from low s.n low_is i l).0)

      module _ {k : ℕ} (behaviour : Behaviour) (k_is : k ≡ key (10000 * d.level) d.level) where
        pub rest_alone : Alone behaviour s.w d.level
            → get_or work (at + i) 0 + k ≡ row_key behaviour d s.w (sums work d) (s.from + (low + i))
        rest_alone h = free_alone s.w _ b.layers column free x_is place_is k_is behaviour h

        pub rest_larger : {other : ℕ} → behaviour ≡ mixed → d.level < s.w → other
            ≡ key (cash d.rate d.level s.w + sums work d 0 0) s.w
            → max (get_or work (at + i) 0 + k) other ≡ row_key behaviour d s.w (sums work d) (s.from + (low + i))
        rest_larger e h o = larger_is s.w _ b.layers column free x_is place_is k_is e h o

    pub copying : {add : ℕ} → add < 2 ^ 62 → Copying work low at (s.n - low) add
    copying more = record {
      within = omega (arith, b.short);
      room = rest_room;
      more = more;
      small = λ i l. let k = rest_small i l in omega arith;
    }

-- ---- the two parts of a block
pub both_parts : {d : Date} {s : Block} {e : ℕ → ℕ → ℕ} (behaviour : Behaviour) (best best₁ best₂ : List ℕ) (low : ℕ) → low ≤ s.n
    → s.n ≤ 512
    → 512 ≤ length best
    → best₁ ≡ stored best 0 (λ j. row_key behaviour d s.w e (s.from + j)) low
    → best₂ ≡ stored best₁ low (λ i. row_key behaviour d s.w e (s.from + (low + i))) (s.n - low)
    → Keys behaviour e d s best₂
both_parts {d} {s} {e} behaviour best best₁ best₂ low h short long p q =
    let f : ℕ → ℕ = λ j. row_key behaviour d s.w e (s.from + j) in
    let all : low + (s.n - low) ≡ s.n = omega arith in
    let is = q
    ∙ ap (λ (xs : List ℕ). stored xs low (λ i. f (low + i)) (s.n - low)) p
    ∙ ap (λ (at : ℕ). stored (stored best 0 f low) at (λ i. f (low + i)) (s.n - low)) (sym (zero-add low))
    ∙ stored_join best 0 f (λ i. f (low + i)) low (s.n - low) (λ k m. refl)
    ∙ ap (stored best 0 f) all in record {
      long = omega (arith, ap length is ∙ length_stored best 0 f s.n);
      each = λ j l. ap (λ (xs : List ℕ). get_or xs j 0) is ∙ stored_first best f s.n j (omega arith) l;
    }
