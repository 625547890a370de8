-- `date::death_share` meets its contract: the share of those who live and that of those who die. Assumes nothing.
use Rattle.std.proofs.Common.{◌-◌, refl, arith}
use Rattle.std.proofs.Math.Nat.{mul-le-mul_left}
use Rattle.rules.specs.Date.{death_share}
use Rattle.date.proofs.death_share.Goals as goal

pub overflow_mul-result : goal.overflow_mul-result
overflow_mul-result c = omega (arith, mul-le-mul_left (10000 - c.args.rate) c.requires.1)

pub overflow_mul-result-2 : goal.overflow_mul-result-2
overflow_mul-result-2 c = omega (arith, mul-le-mul_left c.args.rate c.requires.2)

pub overflow_add-result : goal.overflow_add-result
overflow_add-result c =
    omega (arith, mul-le-mul_left (10000 - c.args.rate) c.requires.1, mul-le-mul_left c.args.rate c.requires.2)

pub returns : goal.returns
unfolding death_share
returns c =
    (refl, omega (arith, mul-le-mul_left (10000 - c.args.rate) c.requires.1, mul-le-mul_left c.args.rate c.requires.2))
