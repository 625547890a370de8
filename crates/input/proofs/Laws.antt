-- A list whose length passes holds at most 64 whole records. Assumes nothing.
use mathlib.Core.Bool.{Bool, false, not, ◌||◌}
use mathlib.Core.Path.{◌≡◌, sym, subst}
use Prim.Native.Nat.{ℕ, ◌*◌, ◌/◌, ◌%◌, ◌≤◌}
use native.Mathlib.Omega.{arith}
use lib.Dec.{T, eqb}
use Rattle.rules.specs.Refusals.{outside}
use Rattle.laws.specs.Accepted.{nor_left, at_most}

pub few : (n : ℕ) → (outside 1 256 n || not (eqb (n % 4) 0)) ≡ false → (4 * (n / 4) ≤ n) × (n / 4 ≤ 64)
few n e =
    let p : T (not (outside 1 256 n || not (eqb (n % 4) 0))) = subst (λ (b : Bool). T (not b)) (sym e) tt in
    let l = at_most 1 256 n (nor_left (outside 1 256 n) (not (eqb (n % 4) 0)) p) in
    omega arith
