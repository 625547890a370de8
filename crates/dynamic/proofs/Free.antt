-- An amount up to the level, for the states whose guarantee it does not pass. Assumes nothing.
use mathlib.Core.List.{List}
use mathlib.Core.Logic.{◌⊎◌, inl, inr}
use mathlib.Core.Path.{◌≡◌, ap, ap₂, sym, ◌∙◌}
use Prim.Native.Nat.{ℕ, ◌+◌, ◌-◌, ◌*◌, ◌^◌, ◌≤◌, ◌<◌, min, max}
use native.Mathlib.Nat.{sub-zero, max-eq_right}
use native.Mathlib.Omega.{arith}
use lib.ListN.{length, get_or}
use Rattle.slices.specs.Stored.{stored, length_stored, stored_first}
use Rattle.slices.specs.Rows.{cells}
use Rattle.rules.specs.Date.{free_amount}
use Rattle.keys.specs.declared.Date.{Date}
use Rattle.keys.specs.Key.{key, key_add}
use Rattle.keys.specs.Most.{most, most_next}
use Rattle.keys.specs.Sums.{Span, Copying, sums, sum_in, sum_small}
use Rattle.worth.specs.Worth.{key_over}
use Rattle.worth.specs.Laws.{free_is}
use Rattle.keys.specs.declared.Block.{Block}
use Rattle.proportion.specs.Held.{Held, free_of, key_at, tried_below}
use Rattle.dynamic.specs.Block.{Offering, tried_to}
use Rattle.proportion.specs.Offers.{offered}
use Rattle.proportion.specs.Tried.{below_free}

free_le : (level a : ℕ) {t : ℕ} → t ≤ level → t ≤ a → t ≤ free_amount level a
unfolding free_amount
free_le level a h l = omega arith

-- all amounts up to the level
pub free_all : (d : Date) (s : Block) {t : ℕ} → t ≡ d.level + 1 → (j : ℕ) → tried_to s t j ≡ tried_below d s 0 j
unfolding free_amount
free_all d s e j = rw e (sym (below_free d s 0 j (omega arith) ∙ omega arith))

module _ {work : List ℕ} {d : Date} {s : Block} (b : Span work d s) {t low : ℕ} (upto : t ≤ d.level)
    (low_is : low ≡ min s.n (t - s.from))
  where
    pub free_room : d.base + ((s.w - t) * d.stride + (s.from + low - t)) + (s.n - low) ≤ length work
    free_room = sum_in b.layers (s.w - t) (s.from + low - t) (s.n - low) (omega arith) (omega (arith, b.columns))

    module _ {at add : ℕ} (at_is : at ≡ d.base + ((s.w - t) * d.stride + (s.from + low - t)))
        (add_is : add ≡ key (10000 * t) t) (small : add < 2 ^ 59)
      where
        -- the balance and the guarantee that state low + i is left with
        balance : s.w - t < s.w + 1
        balance = omega arith

        column : (i : ℕ) → i < s.n - low → (s.from + low - t + i ≡ s.from + (low + i) - t) × (t ≤ s.from + (low + i))
        column i l = (omega arith, omega arith)

        entry : (i : ℕ) → i < s.n - low → get_or work (at + i) 0 ≡ cells work d.base d.stride (s.w - t) (s.from + (low + i) - t)
        entry i l = ap (λ (x : ℕ). get_or work x 0) (let q = column i l in omega arith)

        inside : (i : ℕ) → i < s.n - low → s.from + (low + i) - t < d.stride
        inside i l = omega (arith, b.columns)

        pub free_small : (i : ℕ) → i < s.n - low → get_or work (at + i) 0 < 2 ^ 59
        free_small i l = let m = sum_small b.layers (s.w - t) _ balance (inside i l) in omega (arith, entry i l)

        module _ {best : List ℕ} (h : Held (key_at work d s) best s.n (tried_to s t)) where
          pub free_offering : Offering best work low at (s.n - low) add
          free_offering = record {
            within = omega (arith, b.short);
            room = omega (arith, free_room);
            more = small;
            small = free_small;
            held = λ i l. h.small (low + i) (omega arith);
          }

          pub free_offered : {best' : List ℕ}
              → best' ≡ stored best low (λ i. max (get_or best (low + i) 0) (get_or work (at + i) 0 + add)) (s.n - low)
              → Held (key_at work d s) best' s.n (tried_to s (t + 1))
          free_offered e =
              offered (tried_to s (t + 1)) (λ i. get_or work (at + i) 0 + add) h e b.short (omega arith)
              (λ i l. let m = free_small i l in omega arith)
              joins
              else
            where
              worth : (i : ℕ) → i < s.n - low → get_or work (at + i) 0 + add ≡ key_at work d s (low + i) t
              worth i l =
                  let q = column i l in
                  ap₂ (λ (x y : ℕ). x + y) (entry i l ∙ b.layers.scaled (s.w - t) _ balance (inside i l)) add_is
                  ∙ sym (ap (λ (v : ℕ). key v t) (free_is (sums work d) d.rate (free_of d s (low + i)) s.w (s.from + (low + i)) t
                  (free_le d.level _ upto q.1)) ∙ key_add (10000 * t) _ t)

              tried : (i : ℕ) → i < s.n - low → tried_to s t (low + i) ≡ t
              tried i l = let q = column i l in omega arith

              next : (i : ℕ) → i < s.n - low → tried_to s (t + 1) (low + i) ≡ t + 1
              next i l = let q = column i l in omega arith

              joins : (i : ℕ) → i < s.n - low
                  → max (most (key_at work d s (low + i)) (tried_to s t (low + i))) (get_or work (at + i) 0 + add)
                  ≡ most (key_at work d s (low + i)) (tried_to s (t + 1) (low + i))
              joins i l =
                  ap₂ (λ (x y : ℕ). max (most (key_at work d s (low + i)) x) y) (tried i l) (worth i l)
                  ∙ most_next (key_at work d s (low + i)) t
                  ∙ ap (most (key_at work d s (low + i))) (sym (next i l))

              else : (j : ℕ) → (j < low) ⊎ (low + (s.n - low) ≤ j) → j < s.n → tried_to s t j ≡ tried_to s (t + 1) j
              else j (inl l) k = omega arith
              else j (inr l) k = absurd (omega arith)

-- ---- amount 0
none_key : (e : ℕ → ℕ → ℕ) (rate m w a : ℕ) → key_over e rate m w a 0 ≡ 8192 * e w a + key 0 0
none_key e rate m w a =
    ap (λ (v : ℕ). key v 0)
    (free_is e rate m w a 0 (omega arith) ∙ ap₂ (λ (x y : ℕ). 10000 * 0 + e x y) (sub-zero w) (sub-zero a) ∙ omega arith)
    ∙ key_add 0 (e w a) 0

module _ {work : List ℕ} {d : Date} {s : Block} (b : Span work d s) {at add : ℕ} (at_is : at ≡ d.base + (s.w * d.stride + s.from))
    (add_is : add ≡ key 0 0) (small : add < 2 ^ 59)
  where
    entry_first : (j : ℕ) → j < s.n → get_or work (at + j) 0 ≡ cells work d.base d.stride s.w (s.from + j)
    entry_first j l = ap (λ (x : ℕ). get_or work x 0) (omega arith)

    few : (j : ℕ) → j < s.n → get_or work (at + j) 0 < 2 ^ 59
    few j l = let m = sum_small b.layers s.w (s.from + j) (omega arith) (omega (arith, b.columns)) in omega (arith, entry_first j l)

    pub first_copying : Copying work 0 at s.n add
    first_copying = record {
      within = omega (arith, b.short);
      room = let r = sum_in b.layers s.w s.from s.n (omega arith) b.columns in omega arith;
      more = omega arith;
      small = λ j l. let m = few j l in omega arith;
    }

    pub first_held : (best best' : List ℕ) → 512 ≤ length best → best' ≡ stored best 0 (λ j. get_or work (at + j) 0 + add) s.n
        → Held (key_at work d s) best' s.n (tried_to s 1)
    unfolding most
    first_held best best' long e = record {
      long = omega (arith, ap length e ∙ length_stored best 0 _ s.n);
      small = λ j l. let m = few j l in omega (arith, held j l);
      each = λ j l.
          held j l
          ∙ ap₂ (λ (x y : ℕ). x + y) (entry_first j l
          ∙ b.layers.scaled s.w (s.from + j) (omega arith) (omega (arith, b.columns))) add_is
          ∙ sym (none_key (sums work d) d.rate (free_of d s j) s.w (s.from + j))
          ∙ (let z : 1 ≡ tried_to s 1 j = omega arith in sym (max-eq_right (omega arith)) ∙ ap (most (key_at work d s j)) z);
    }
      where
        held : (j : ℕ) → j < s.n → get_or best' j 0 ≡ get_or work (at + j) 0 + add
        held j l = ap (λ (xs : List ℕ). get_or xs j 0) e ∙ stored_first best _ s.n j (omega (arith, b.short)) l
