-- `date::discounted` meets its contract. Assumes nothing.
use Prim.Native.Nat.{◌/◌, ◌%◌}
use mathlib.Core.Path.{refl}
use native.Mathlib.Omega.{arith}
use Rattle.rules.specs.Date.{discounted}
use Rattle.date.proofs.Laws.{product, two_parts}
use Rattle.date.proofs.discounted.Goals as goal

pub overflow_mul-result : goal.overflow_mul-result
overflow_mul-result c = omega (
  arith,
  product 1000000 18000000000000 {x = c.args.discount} {y = c.args.sum}
      (omega arith) (omega arith),
)

pub returns-then-sum-le18000000000000 : goal.returns-then-sum-le18000000000000
unfolding discounted
returns-then-sum-le18000000000000 c = refl

pub overflow_mul-result-2 : goal.overflow_mul-result-2
overflow_mul-result-2 c = omega (
  arith,
  product 1000000 10000000000000 {x = c.args.discount} {y = c.args.sum / 10000}
      (omega arith) (omega arith),
)

pub overflow_mul-result-3 : goal.overflow_mul-result-3
overflow_mul-result-3 c = omega (
  arith,
  product 1000000 10000 {x = c.args.discount} {y = c.args.sum % 10000}
      (omega arith) (omega arith),
)

pub overflow_add-result : goal.overflow_add-result
overflow_add-result c =
    let args = c.args in
    let discount₀ = args.discount in
    let sum₀ = args.sum in
    omega (
      arith,
      product 1000000 10000000000000 {x = discount₀} {y = sum₀ / 10000} (omega arith) (omega arith),
      product 1000000 10000 {x = discount₀} {y = sum₀ % 10000} (omega arith) (omega arith),
    )

pub returns : goal.returns
unfolding discounted
returns c = two_parts c.args.discount c.args.sum
