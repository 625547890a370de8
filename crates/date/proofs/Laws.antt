-- Products below a bound, and a quotient in two parts. Assumes nothing.
use mathlib.Core.Path.{◌≡◌, ap, sym, ◌∙◌}
use Prim.Native.Nat.{ℕ, ◌+◌, ◌*◌, ◌/◌, ◌%◌, ◌≤◌}
use native.Mathlib.Nat.{mul-le-mul, mul-add-div, div-add-mod, div-div-eq-div-mul}
use native.Mathlib.Omega.{arith}
use lib.Dec.{lit<}

pub product : (a b : ℕ) {x y : ℕ} → x ≤ a → y ≤ b → x * y ≤ a * b
product a b h k = mul-le-mul h k

-- d × s / (10,000 × 1,000,000), where s is taken apart at 10,000
pub two_parts : (d s : ℕ) → (d * (s / 10000) + d * (s % 10000) / 10000) / 1000000 ≡ d * s / 10000000000
two_parts d s =
    ap (λ (x : ℕ). x / 1000000) (sym (mul-add-div (lit< tt) (d * (s / 10000)) (d * (s % 10000))))
    ∙ ap (λ (x : ℕ). x / 10000 / 1000000) (let e = ap (λ (y : ℕ). d * y) (div-add-mod s 10000) in omega arith)
    ∙ div-div-eq-div-mul (d * s) 10000 1000000
