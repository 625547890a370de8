-- A run of entries that a loop stores, one each turn. Assumes nothing.
use mathlib.Core.List.{List}
use mathlib.Core.Logic.{inl, inr}
use mathlib.Core.Path.{◌≡◌, refl, ap, ◌∙◌}
use Prim.Native.Nat.{ℕ, ◌+◌, ◌≤◌, ◌<◌}
use lib.ListN.{length, get_or, set, length-set}
use Rattle.slices.specs.Stored.{stored, stored_next, stored_out}

-- i of them are stored
pub record Run (work work' : List ℕ) (to : ℕ) (f : ℕ → ℕ) (i : ℕ) : Type 0 where
  pub long : length work' ≡ length work
  pub is : work' ≡ stored work to f i

pub run_none : {work : List ℕ} {to : ℕ} {f : ℕ → ℕ} → Run work work to f 0
unfolding stored
run_none = record { long = refl; is = refl }

module _ {work work' : List ℕ} {to i : ℕ} {f : ℕ → ℕ} (r : Run work work' to f i) where
  pub run_next : (v : ℕ) → v ≡ f i → Run work (set work' (to + i) v) to f (i + 1)
  run_next v e = record {
    long = length-set work' (to + i) v ∙ r.long;
    is = (λ k. set (r.is k) (to + i) (e k)) ∙ stored_next work to f i;
  }

  -- an entry behind it is as it was
  pub run_out : (j : ℕ) → to + i ≤ j → get_or work' j 0 ≡ get_or work j 0
  run_out j h = ap (λ (xs : List ℕ). get_or xs j 0) r.is ∙ stored_out work to f i j (inr h)

  -- .. and so is one before it
  pub run_before : (j : ℕ) → j < to → get_or work' j 0 ≡ get_or work j 0
  run_before j h = ap (λ (xs : List ℕ). get_or xs j 0) r.is ∙ stored_out work to f i j (inl h)
