-- `further::first_row` meets its contract. Assumes nothing.
use Prim.Native.Nat.{ℕ, ◌+◌, ◌≤◌, ◌<◌}
use lib.ListN.{get_or}
use mathlib.Core.Logic.{◌⊎◌, inl, inr}
use mathlib.Core.Path.{◌≡◌, ap, ◌∙◌}
use native.Mathlib.Omega.{arith}
use Rattle.slices.specs.Rows.{cells}
use Rattle.slices.specs.Stored.{is_stored}
use Rattle.further.proofs.first_row.Goals as goal

pub returns : goal.returns
returns c =
    let work = c.args.work.now in
    let d = c.args.d in
    let now = c.copy_within.new.self in
    let e = c.copy_within.ensures in
    let inside : (k : ℕ) → k < d.stride → get_or now (0 + k) 0 ≡ cells work d.base d.stride 0 k =
    λ k h. e.by_index.0 (0 + k) 0 (omega arith) (omega arith) ∙ ap (λ (j : ℕ). get_or work j 0) (omega arith) in
    let outside : (j : ℕ) → (j < 0) ⊎ (0 + d.stride ≤ j) → get_or now j 0 ≡ get_or work j 0 =
    λ j o. e.by_index.2 j 0 (let h = above j d.stride o in omega arith) in
    is_stored work now 0 (cells work d.base d.stride 0) d.stride e.len (let r = c.requires.room in omega arith) inside outside
  where
    above : (j n : ℕ) → (j < 0) ⊎ (0 + n ≤ j) → 0 + n ≤ j
    above j n (inl l) = omega arith
    above j n (inr l) = l
