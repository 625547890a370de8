-- The largest worth among the amounts from 0 to a limit that pass a test, and the smallest amount that has it.
-- Assumes nothing.
use Rattle.std.specs.Prelude.{Bool, true, false, cond, ◌&&◌, ◌≡◌, refl, ℕ, zero, suc, max, ◌≤◌, ◌<◌, T, eqb}
use Rattle.std.proofs.Common.{subst}
use Rattle.std.proofs.Math.Dec.{eqb_refl}
use Rattle.decision.specs.Index.{first, first_from}

-- both tests, taken apart and put together
pub and_left : (a b : Bool) → T (a && b) → T a
and_left true b t = tt
and_left false b t = t

pub and_right : (a b : Bool) → T (a && b) → T b
and_right true b t = t
and_right false b t = absurd t

pub and_intro : (a b : Bool) → T a → T b → T (a && b)
and_intro true b p q = q
and_intro false b p q = p

-- two numbers are equal by the test
pub eq→eqb : {m n : ℕ} → m ≡ n → T (eqb m n)
eq→eqb {m} e = subst (λ (x : ℕ). T (eqb m x)) e (eqb_refl m)

-- 0 for every amount (a function, so that an amount that fails its test has no worth computed)
abbrev pub nothing : ℕ → ℕ
nothing t = 0

-- the largest worth f t of the amounts t from 0 to the limit that pass
unfoldable pub largest : (ℕ → Bool) → (ℕ → ℕ) → ℕ → ℕ
largest ok f zero = cond (ok 0) f nothing 0
largest ok f (suc n) = max (largest ok f n) (cond (ok (suc n)) f nothing (suc n))

-- the smallest of the amounts that pass and have the largest worth
unfoldable pub smallest_best : (ℕ → Bool) → (ℕ → ℕ) → ℕ → ℕ
smallest_best ok f n = let v = largest ok f n in first (λ t. ok t && eqb (f t) v) (suc n)

-- where two amounts are worth the same, the smaller one
pub ties_to_smaller : smallest_best (λ t. true) (λ t. 7) 3 ≡ 0
unfolding smallest_best largest first first_from
ties_to_smaller = refl

-- amount c and worth v are best: c passes and is worth v, no other is worth more, and no smaller one as much
pub record Best (ok : ℕ → Bool) (f : ℕ → ℕ) (limit c v : ℕ) : Type 0 where
  pub within : c ≤ limit
  pub passes : T (ok c)
  pub worth : f c ≡ v
  pub most : (t : ℕ) → t ≤ limit → T (ok t) → f t ≤ v
  pub smallest : (t : ℕ) → t < c → T (ok t) → f t < v
