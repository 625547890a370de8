-- The best of withdrawing further, one unit after the other, where account and guarantee both fall by each: found by one step
-- from the best of the balance below. What is left of the balance stands for the amount: the more is left, the less was
-- withdrawn. Assumes nothing.
use Rattle.std.specs.Prelude.{List, ◌≡◌, refl, ℕ, zero, suc, ◌+◌, ◌-◌, ◌*◌, ◌≤◌, ◌<◌, max}
use Rattle.std.proofs.Common.{ap, ap₂, sym, ◌∙◌, arith}
use Rattle.std.proofs.Math.Nat.{sub-zero}
use Rattle.slices.specs.Rows.{cells}
use Rattle.keys.specs.declared.Date.{Date}
use Rattle.keys.specs.Most.{most, most_join, most_shift}

-- withdrawing s further from balance b and guarantee a, each unit worth a step; e gives the sums
abbrev pub further : (ℕ → ℕ → ℕ) → ℕ → ℕ → ℕ → ℕ → ℕ
further e step b a s = e (b - s) (a - s) + (step * s + (b - s))

-- the largest of them
unfoldable pub further_key : (ℕ → ℕ → ℕ) → ℕ → ℕ → ℕ → ℕ
further_key e step zero a = e 0 a
further_key e step (suc b) a = max (e (suc b) a + suc b) (further_key e step b (a - 1) + step)

-- from the balance below
pub further_step : (e : ℕ → ℕ → ℕ) (step b a : ℕ) → 1 ≤ b → further_key e step b a
    ≡ max (e b a + b) (further_key e step (b - 1) (a - 1) + step)
unfolding further_key
further_step e step zero a h = absurd (omega arith)
further_step e step (suc b) a h = let z : suc b - 1 ≡ b = omega arith in rw z

pub further_first : (e : ℕ → ℕ → ℕ) (step a : ℕ) → further_key e step 0 a ≡ e 0 a
unfolding further_key
further_first e step a = refl

-- nothing further
stay : (e : ℕ → ℕ → ℕ) (step b a : ℕ) → most (further e step b a) 1 ≡ e b a + b
unfolding most
stay e step b a = ap₂ (λ (x y : ℕ). max 0 (e x y + (step * 0 + x))) (sub-zero b) (sub-zero a) ∙ omega arith

pub further_most : (e : ℕ → ℕ → ℕ) (step b a : ℕ) → further_key e step b a ≡ most (further e step b a) (b + 1)
unfolding further_key
further_most e step zero a = sym (stay e step 0 a ∙ omega arith)
further_most e step (suc b) a =
    let n : suc b + 1 ≡ 1 + (b + 1) = omega arith in
    let on : (s : ℕ) → s < b + 1 → further e step (suc b) a (1 + s) ≡ further e step b (a - 1) s + step = λ s l.
    let p : suc b - (1 + s) ≡ b - s = omega arith in
    let q : a - (1 + s) ≡ a - 1 - s = omega arith in
    ap₂ (λ (x y : ℕ). e x y + (step * (1 + s) + x)) p q ∙ omega arith in
    ap₂ (λ (x y : ℕ). max x (y + step)) (sym (stay e step (suc b) a)) (further_most e step b (a - 1))
    ∙ ap (max (most (further e step (suc b) a) 1))
    (sym (most_shift (λ s. further e step (suc b) a (1 + s)) (further e step b (a - 1)) step (b + 1) on (omega arith)))
    ∙ sym (most_join (further e step (suc b) a) 1 (b + 1))
    ∙ ap (most (further e step (suc b) a)) (sym n)

-- ---- how large it gets
pub further_small : (e : ℕ → ℕ → ℕ) (step b a top : ℕ) → ((x y : ℕ) → x ≤ b → y ≤ a → e x y ≤ top)
    → further_key e step b a ≤ top + (step + 1) * b
unfolding further_key
further_small e step zero a top h = let m = h 0 a (omega arith) (omega arith) in omega arith
further_small e step (suc b) a top h =
    let m = h (suc b) a (omega arith) (omega arith) in
    let n = further_small e step b (a - 1) top (λ x y l k. h x y (omega arith) (omega arith)) in
    omega arith

-- ---- the rows below n of the first layer hold it
pub record Furthered (work : List ℕ) (d : Date) (n : ℕ) : Type 0 where
  pub each : (b a : ℕ) → b < n → a < d.stride
      → cells work 0 d.stride b a ≡ further_key (cells work d.base d.stride) (8192 * (10000 - d.rate)) b a
