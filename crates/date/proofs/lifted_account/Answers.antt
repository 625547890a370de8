-- `date::lifted_account` meets its contract. Assumes nothing.
use Prim.Native.Nat.{◌-◌}
use mathlib.Core.Path.{refl}
use native.Mathlib.Omega.{arith}
use Rattle.rules.specs.Date.{lifted_account}
use Rattle.rules.specs.Facts.{lifted_le}
use Rattle.date.proofs.Laws.{product}
use Rattle.date.proofs.lifted_account.Goals as goal

pub overflow_mul-result : goal.overflow_mul-result
overflow_mul-result c = omega (arith, product 4000 30000 {x = c.args.balance} {y = c.args.factor} (omega arith) (omega arith))

pub overflow_mul-result-2 : goal.overflow_mul-result-2
overflow_mul-result-2 c =
    let grown = product 4000 30000 {x = c.args.balance} {y = c.args.factor} (omega arith) (omega arith) in
    omega (arith, product 120000000 10000 {y = 10000 - c.args.fee} grown (omega arith))

pub returns : goal.returns
unfolding lifted_account
returns c = (refl, lifted_le c.args.fee c.args.balance c.args.factor c.requires.2)
