-- `expect::scaled_sum` meets its contract. Assumes nothing.
use mathlib.Core.Path.{refl}
use native.Mathlib.Omega.{arith}
use Rattle.laws.specs.Bounds.{entry_most, discounted_average}
use Rattle.rules.specs.Date.{discounted}
use Rattle.expect.proofs.scaled_sum.Goals as goal

pub returns-then-low : goal.returns-then-low
unfolding discounted
returns-then-low c = refl

pub overflow_mul-result-2 : goal.overflow_mul-result-2
overflow_mul-result-2 c =
    let pre = c.requires in omega (arith, c.discounted.ensures, discounted_average _ _ entry_most pre.0 pre.1)
