-- The rows that are filled one after the other, each in two runs. Assumes nothing.
use mathlib.Core.List.{List}
use mathlib.Core.Path.{◌≡◌, refl, ap, ap₂, sym, ◌∙◌}
use Prim.Native.Nat.{ℕ, ◌+◌, ◌-◌, ◌*◌, ◌^◌, ◌≤◌, ◌<◌, max}
use native.Mathlib.Nat.{zero-mul, mul-le-mul, le_trans}
use native.Mathlib.Omega.{arith}
use lib.ListN.{length, get_or}
use Rattle.slices.specs.Stored.{stored, length_stored, stored_join}
use Rattle.slices.specs.Rows.{cells, flat, cells_kept, layer_stored, row_next, rows_le, rows_before}
use Rattle.keys.specs.declared.Date.{Date}
use Rattle.keys.specs.Sums.{Sums, sum_most, sum_small, sum_in, row_in, sums_less, sums_kept}
use Rattle.worth.specs.Further.{further_key, further_step, further_small, Furthered}
use Rattle.further.proofs.Run.{Run, run_out, run_before}

-- ---- a row, in two runs
abbrev pub sum_of : List ℕ → Date → ℕ → ℕ → ℕ
sum_of work d = cells work d.base d.stride

abbrev pub best : List ℕ → Date → ℕ → ℕ → ℕ → ℕ
best work d = further_key (sum_of work d)

-- entries n to n + m - 1: where they stand, what stays, and the entries below that they come from
pub record Part (d : Date) (b n m to stay from : ℕ) : Type 0 where
  pub fits : n + m ≤ d.stride
  pub to_is : to ≡ b * d.stride + n
  pub stay_is : stay ≡ d.base + (b * d.stride + n)
  pub from_is : from + d.stride ≡ b * d.stride + (n - 1)
  pub on : (i : ℕ) → i < m → n - 1 + i ≡ n + i - 1

module _ {work : List ℕ} {d : Date} (b : ℕ) (s : Sums work d (b + 1)) (h : 1 ≤ b) where
  pub row_below : d.stride ≤ b * d.stride
  row_below = let p = rows_before d.stride b h in omega arith

  pub first_part : Part d b 0 1 (b * d.stride) (d.base + b * d.stride) (b * d.stride - d.stride)
  first_part = let p = row_below in record {
    fits = omega (arith, s.level_is);
    to_is = omega arith;
    stay_is = omega arith;
    from_is = omega arith;
    on = λ i l. omega arith;
  }

  pub rest_part : Part d b 1 (d.stride - 1) (b * d.stride + 1) (d.base + b * d.stride + 1) (b * d.stride - d.stride)
  rest_part = let p = row_below in record {
    fits = omega (arith, s.level_is);
    to_is = refl;
    stay_is = omega arith;
    from_is = omega arith;
    on = λ i l. omega arith;
  }

module _ {work work' : List ℕ} {d : Date} {b n m step to stay from : ℕ} (s : Sums work d (b + 1)) (x : Furthered work d b) (h : 1 ≤ b)
    (k : step ≡ 8192 * (10000 - d.rate)) (p : Part d b n m to stay from)
    (e : work' ≡ stored work (b * d.stride) (best work d step b) n)
  where
    r : Run work work' (b * d.stride) (best work d step b) n
    r = record { long = ap length e ∙ length_stored work _ _ n; is = e }

    read_stay : (i : ℕ) → i < m → get_or work' (stay + i) 0 ≡ sum_of work d b (n + i)
    read_stay i l =
        let o = row_in s b 0 n (omega arith) (omega arith) in
        let j : stay + i ≡ d.base + (b * d.stride + (n + i)) = omega arith in
        run_out r (stay + i) (omega arith) ∙ ap (λ (z : ℕ). get_or work z 0) j

    read_from : (i : ℕ) → i < m → get_or work' (from + i) 0 ≡ best work d step (b - 1) (n + i - 1)
    read_from i l =
        let o = rows_before d.stride b h in
        let q = p.on i l in
        let j : from + i ≡ 0 + ((b - 1) * d.stride + (n + i - 1)) = omega arith in
        run_before r (from + i) (omega arith)
        ∙ ap (λ (z : ℕ). get_or work z 0) j
        ∙ x.each (b - 1) (n + i - 1) (omega arith) (omega arith)
        ∙ ap (λ (z : ℕ). best work d z (b - 1) (n + i - 1)) (sym k)

    below_small : (i : ℕ) → i < m → best work d step (b - 1) (n + i - 1) + step < 2 ^ 63
    below_small i l =
        let v =
        further_small (sum_of work d) step (b - 1) (n + i - 1) sum_most (λ y z u v. sum_small s y z (omega arith) (omega arith)) in
        let few : b - 1 ≤ 4000 = omega (arith, s.few) in
        let most : step + 1 ≤ 81920001 = omega arith in
        let t = mul-le-mul most few in
        omega arith

    pub run_room : (to + m ≤ stay) × (stay + m ≤ length work') × (from + m ≤ to)
        × ((i : ℕ) → i < m → get_or work' (stay + i) 0 + b < 2 ^ 63) × ((i : ℕ) → i < m → get_or work' (from + i) 0 + step < 2 ^ 63)
    run_room =
        let o = row_in s b n m (omega arith) p.fits in
        let q = sum_in s b n m (omega arith) p.fits in
        let before = rows_before d.stride b h in (
          omega arith,
          omega (arith, r.long),
          omega arith,
          λ i l. let small = sum_small s b (n + i) (omega arith) (omega arith) in omega (arith, read_stay i l, s.few),
          λ i l. rw (read_from i l) (below_small i l),
        )

    abbrev pub better : ℕ → ℕ
    better i = max (get_or work' (stay + i) 0 + b) (get_or work' (from + i) 0 + step)

    pub run_joins : {work'' : List ℕ} → work'' ≡ stored work' to better m
        → work'' ≡ stored work (b * d.stride) (best work d step b) (n + m)
    run_joins g =
        g
        ∙ ap₂ (λ (xs : List ℕ) (j : ℕ). stored xs j better m) e p.to_is
        ∙ stored_join work (b * d.stride) (best work d step b) _ n m
        (λ i l.
        ap₂ (λ (y z : ℕ). max (y + b) (z + step)) (read_stay i l) (read_from i l)
        ∙ sym (further_step (sum_of work d) step b (n + i) h))

-- ---- the first row
pub first_is : (work : List ℕ) (d : Date) (step b : ℕ) → b ≡ 0
    → stored work 0 (sum_of work d 0) d.stride ≡ stored work (b * d.stride) (best work d step b) d.stride
unfolding further_key
first_is work d step b e = rw (e, zero-mul d.stride)

-- ---- row after row
abbrev pub step_of : Date → ℕ
step_of d = 8192 * (10000 - d.rate)

abbrev pub rows : List ℕ → Date → ℕ → ℕ
rows work d = flat d.stride (best work d (step_of d))

module _ {work work' : List ℕ} {d : Date} {n : ℕ} (b : ℕ) (s : Sums work d n) (h : b < n)
    (e : work' ≡ stored work 0 (rows work d) (b * d.stride))
  where
    apart : 0 + b * d.stride ≤ d.base
    apart = let l = rows_le d.stride b n (omega arith) in omega (arith, s.apart)

    kept : sum_of work' d ≡ sum_of work d
    kept = ap (λ (xs : List ℕ). sum_of xs d) e ∙ cells_kept work 0 (b * d.stride) d.base d.stride (rows work d) apart

    pub layer_sums : Sums work' d (b + 1)
    layer_sums = rw e (sums_less (sums_kept s 0 (b * d.stride) (rows work d) apart) (b + 1) (omega arith))

    pub layer_below : Furthered work' d b
    layer_below = record {
      each = λ x a i l.
          ap (λ (xs : List ℕ). cells xs 0 d.stride x a) e
          ∙ (layer_stored work 0 d.stride b (best work d (step_of d)) (le_trans apart (omega (arith, s.room)))).cell x a i l
          ∙ ap (λ (f : ℕ → ℕ → ℕ). further_key f (step_of d) x a) (sym kept);
    }

    pub layer_next : {work'' : List ℕ} → work'' ≡ stored work' (b * d.stride) (best work' d (step_of d) b) d.stride
        → work'' ≡ stored work 0 (rows work d) ((b + 1) * d.stride)
    layer_next g =
        g
        ∙ ap (λ (xs : List ℕ). stored xs (b * d.stride) (best work' d (step_of d) b) d.stride) e
        ∙ row_next work d.stride b (best work d (step_of d)) _ (λ a l. ap (λ (f : ℕ → ℕ → ℕ). further_key f (step_of d) b a) kept)
