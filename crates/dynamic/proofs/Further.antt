-- The best of withdrawing further than m, for states that have the same m. Assumes nothing.
use mathlib.Core.List.{List}
use mathlib.Core.Logic.{◌⊎◌, inl, inr}
use mathlib.Core.Path.{◌≡◌, ap, ap₂, sym, ◌∙◌, subst}
use Prim.Native.Nat.{ℕ, ◌+◌, ◌-◌, ◌*◌, ◌^◌, ◌≤◌, ◌<◌, min, max}
use native.Mathlib.Nat.{mul-le-mul, max-eq_left}
use native.Mathlib.Omega.{arith}
use lib.ListN.{get_or}
use Rattle.slices.specs.Stored.{stored}
use Rattle.slices.specs.Rows.{cells}
use Rattle.rules.specs.Date.{free_amount}
use Rattle.keys.specs.declared.Date.{Date}
use Rattle.keys.specs.Key.{key}
use Rattle.keys.specs.Most.{most}
use Rattle.keys.specs.Sums.{Span, sums, sum_most, row_in, sum_small}
use Rattle.worth.specs.Further.{further_key, further_small, Furthered}
use Rattle.worth.specs.Laws.{further_joins}
use Rattle.keys.specs.declared.Block.{Block}
use Rattle.proportion.specs.Held.{Held, free_of, key_at, tried_below}
use Rattle.dynamic.specs.Block.{Offering, Alike}
use Rattle.proportion.specs.Offers.{offered}
use Rattle.proportion.specs.Tried.{below_all, below_free, below_same}

-- ---- which states are alike
-- one state up to the level: m is its guarantee
pub alike_one : (d : Date) (s : Block) (j few : ℕ) → few ≡ min s.n (min (d.level + 1) s.w - s.from) → j < few
    → Alike d s j 1 (s.from + j)
unfolding free_amount
alike_one d s j few e l = record {
  within = omega arith;
  below = omega arith;
  upto = λ i k. omega arith;
  free = λ i k. omega arith;
  aligned = λ i k. omega arith;
}

-- those above the level
pub alike_level : (d : Date) (s : Block) (low end : ℕ) → low ≡ d.level + 1 - s.from → end ≡ min s.n (s.w + 1 - s.from) → low < end
    → Alike d s low (end - low) d.level
unfolding free_amount
alike_level d s low end p q l = record {
  within = omega arith;
  below = omega arith;
  upto = λ i k. omega arith;
  free = λ i k. omega arith;
  aligned = λ i k. omega arith;
}

module _ {work : List ℕ} {d : Date} {s : Block} (b : Span work d s) {low n m : ℕ} (x : Alike d s low n m) where
  pub further_room : (s.w - m - 1) * d.stride + (s.from + low - (m + 1)) + n ≤ d.base
  further_room = row_in b.layers (s.w - m - 1) (s.from + low - (m + 1)) n (omega arith) (omega (arith, b.columns, x.within))

  module _ (f : Furthered work d s.w) {at add : ℕ} (at_is : at ≡ (s.w - m - 1) * d.stride + (s.from + low - (m + 1)))
      (add_is : add ≡ key (10000 * m + (10000 - d.rate)) s.w) (small : add < 2 ^ 59)
    where
      abbrev step : ℕ
      step = 8192 * (10000 - d.rate)

      inside : (i : ℕ) → i < n → s.from + (low + i) - (m + 1) < d.stride
      inside i l = omega (arith, b.columns, x.within)

      entry : (i : ℕ) → i < n
          → get_or work (at + i) 0 ≡ further_key (cells work d.base d.stride) step (s.w - m - 1) (s.from + (low + i) - (m + 1))
      entry i l =
          ap (λ (y : ℕ). get_or work y 0) (let q = x.aligned i l in omega arith)
          ∙ f.each (s.w - m - 1) (s.from + (low + i) - (m + 1)) (omega (arith, x.below)) (inside i l)

      few : (i : ℕ) → i < n → get_or work (at + i) 0 < 2 ^ 59
      few i l =
          let k = further_small (cells work d.base d.stride) step (s.w - m - 1) (s.from + (low + i) - (m + 1)) sum_most
          (λ y z p q. sum_small b.layers y z (omega arith) (let r = inside i l in omega arith)) in
          let more : (step + 1) * (s.w - m - 1) ≤ 81920001 * 4000 =
          mul-le-mul {n₂ = 81920001} {m₂ = 4000} (omega arith) (omega (arith, b.layers.few)) in
          omega (arith, entry i l)

      module _ {best : List ℕ} (h : Held (key_at work d s) best s.n (tried_below d s low)) where
        pub further_offering : Offering best work low at n add
        further_offering = record {
          within = omega (arith, b.short, x.within);
          room = omega (arith, further_room, b.layers.room);
          more = small;
          small = few;
          held = λ i l. h.small (low + i) (omega (arith, x.within));
        }

        pub further_offered : {best' : List ℕ}
            → best' ≡ stored best low (λ i. max (get_or best (low + i) 0) (get_or work (at + i) 0 + add)) n
            → Held (key_at work d s) best' s.n (tried_below d s (low + n))
        further_offered e =
            offered (tried_below d s (low + n)) (λ i. get_or work (at + i) 0 + add) h e b.short x.within
            (λ i l. let k = few i l in omega arith)
            joins
            else
          where
            joins : (i : ℕ) → i < n
                → max (most (key_at work d s (low + i)) (tried_below d s low (low + i))) (get_or work (at + i) 0 + add)
                ≡ most (key_at work d s (low + i)) (tried_below d s (low + n) (low + i))
            joins i l =
                let free = x.free i l in
                ap₂ (λ (y z : ℕ). max (most (key_at work d s (low + i)) y) z) (below_free d s low (low + i) (omega arith))
                (ap₂ (λ (y z : ℕ). y + z) (entry i l) add_is)
                ∙ subst (λ (y : ℕ). max (most (key_at work d s (low + i)) (free_of d s (low + i) + 1))
                (further_key (cells work d.base d.stride) step (s.w - y - 1) (s.from + (low + i) - (y + 1)) + key
                (10000 * y + (10000 - d.rate)) s.w) ≡ most (key_at work d s (low + i)) (s.w + 1)) free
                (further_joins (sums work d) (cells work d.base d.stride) d.rate (free_of d s (low + i)) s.w
                (s.from + (low + i)) b.layers.rate_is (omega (arith, free, x.below)) (x.upto i l) (omega (arith, b.layers.few))
                (λ y z p q. b.layers.scaled y z (omega arith) (omega (arith, b.columns, x.within))))
                ∙ ap (most (key_at work d s (low + i))) (sym (below_all d s (low + n) (low + i) (omega arith)
                ∙ ap (λ (y : ℕ). y + 1) (max-eq_left (omega (arith, free, x.below)))))

            else : (j : ℕ) → (j < low) ⊎ (low + n ≤ j) → j < s.n → tried_below d s low j ≡ tried_below d s (low + n) j
            else j (inl l) k = below_all d s low j l ∙ sym (below_all d s (low + n) j (omega arith))
            else j (inr l) k = below_free d s low j (omega arith) ∙ sym (below_free d s (low + n) j l)

-- ---- between the states up to the level and those above it, m is not below the account
past : {few n x j : ℕ} → few ≡ min n x → few ≤ j → j < n → x ≤ j
past e h l = omega arith

gap : (level w from j : ℕ) → min (level + 1) w - from ≤ j → from + j < level + 1 → w ≤ free_amount level (from + j)
unfolding free_amount
gap level w from j h l = omega arith

module _ (d : Date) (s : Block) {few : ℕ} (few_is : few ≡ min s.n (min (d.level + 1) s.w - s.from)) where
  pub few_level : {low : ℕ} → low ≡ d.level + 1 - s.from → low < s.n → (j : ℕ) → tried_below d s few j ≡ tried_below d s low j
  few_level e h j = below_same d s few _ j (omega arith)
      (λ p q. gap d.level s.w s.from j (past few_is p (omega arith)) (omega arith))

  pub few_all : {low end : ℕ} → low ≡ d.level + 1 - s.from → end ≡ min s.n (s.w + 1 - s.from) → end ≤ low
      → (j : ℕ) → tried_below d s few j ≡ tried_below d s end j
  few_all e f h j = below_same d s few _ j (omega arith)
      (λ p q. gap d.level s.w s.from j (past few_is p (omega arith)) (omega arith))
