-- A flat list as a table: a layer of entries for each date, one after the other, and an entry for each state in range.
-- Assumes nothing.
use Rattle.std.specs.Prelude.{List, ◌++◌, ◌≡◌, get_or}
use Rattle.std.proofs.Math.Path.{ap, ap₂}
use Rattle.std.proofs.Common.{◌∙◌, add-zero, mul-le-mul_right, mod-eq_of_lt}
use Prim.Native.Nat.{ℕ, suc, ◌+◌, ◌-◌, ◌*◌, ◌/◌, ◌%◌, ◌≤◌, ◌<◌}
use Rattle.std.proofs.Math.Nat.{mul-add-div_right, div-eq_of_lt, mul-add-mod_self_right}
use native.Mathlib.Omega.{arith}
use Rattle.decision.specs.Index.{tabulate, get_d_tabulate}
use Rattle.decision.specs.Process.{Table}

-- the states that have an entry, how many entries a layer has, the entry of each state and the state of each entry
pub record Layout (S : Type 0) : Type 1 where
  pub InRange : S → Type 0
  pub size : ℕ
  pub place : S → ℕ
  pub state_at : ℕ → S

module _ {S : Type 0} (L : Layout S) where
  -- the layer of date i starts at (i - 1) × size
  unfoldable pub entry : ℕ → S → ℕ
  entry i s = (i - 1) * L.size + L.place s

  -- the table that a list holds, whatever stands behind its layers
  unfoldable pub lookup : List ℕ → Table S
  lookup xs i s = get_or xs (entry i s) 0

  -- one layer of f
  unfoldable pub layer : (S → ℕ) → List ℕ
  layer f = tabulate L.size (λ e. f (L.state_at e))

  -- the layers of dates 1 to n
  unfoldable pub layers : ℕ → (ℕ → S → ℕ) → List ℕ
  layers n f = tabulate (n * L.size) (λ e. f (suc (e / L.size)) (L.state_at (e % L.size)))

  -- the entries of a layer are the states in range, each once
  pub record Placed : Type 0 where
    pub placed : (s : S) → L.InRange s → L.place s < L.size
    pub state_place : (s : S) → L.InRange s → L.state_at (L.place s) ≡ s

-- ---- a number of two digits, the low one below n
pub low_digit : (x y n : ℕ) → y < n → (x * n + y) % n ≡ y
low_digit x y n l = mul-add-mod_self_right x n y ∙ mod-eq_of_lt l

pub high_digit : (x y n : ℕ) → y < n → (x * n + y) / n ≡ x
high_digit x y n l =
    let p : 0 < n = omega arith in
    mul-add-div_right p x y ∙ ap (λ (z : ℕ). x + z) (div-eq_of_lt l) ∙ add-zero x

pub two_digits : (x y m n : ℕ) → x < m → y < n → x * n + y < m * n
two_digits x y m n h l = let q = mul-le-mul_right n h in omega arith

module _ {S : Type 0} (L : Layout S) (h : Placed L) where
  -- the entry of a date and a state leads back to both
  pub entry_within : (n i : ℕ) (s : S) → 1 ≤ i → i ≤ n → L.InRange s → entry L i s < n * L.size
  unfolding entry
  entry_within n i s l m g = two_digits (i - 1) (L.place s) n L.size (omega arith) (h.placed s g)

  pub entry_date : (i : ℕ) (s : S) → 1 ≤ i → L.InRange s → suc (entry L i s / L.size) ≡ i
  unfolding entry
  entry_date i s l g =
      let e = high_digit (i - 1) (L.place s) L.size (h.placed s g) in
      ap suc e ∙ (let d : suc (i - 1) ≡ i = omega arith in d)

  pub entry_state : (i : ℕ) (s : S) → L.InRange s → L.state_at (entry L i s % L.size) ≡ s
  unfolding entry
  entry_state i s g = ap L.state_at (low_digit (i - 1) (L.place s) L.size (h.placed s g)) ∙ h.state_place s g

  -- what the layers of f hold, with anything behind them
  pub lookup_layers : (n : ℕ) (f : ℕ → S → ℕ) (rest : List ℕ) (i : ℕ) (s : S) → 1 ≤ i → i ≤ n → L.InRange s
      → lookup L (layers L n f ++ rest) i s ≡ f i s
  unfolding lookup layers
  lookup_layers n f rest i s l m g =
      get_d_tabulate _ _ _ rest (entry_within n i s l m g) ∙ ap₂ f (entry_date i s l g) (entry_state i s g)
