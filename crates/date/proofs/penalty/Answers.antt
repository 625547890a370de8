-- `date::penalty` meets its contract. Assumes nothing.
use Rattle.std.proofs.Common.{ℕ, ◌*◌, ◌≤◌, ap, arith}
use Rattle.rules.specs.Date.{penalty}
use Rattle.date.proofs.Laws.{product}
use Rattle.date.proofs.penalty.Goals as goal

pub overflow_mul-result : goal.overflow_mul-result
overflow_mul-result c = omega (arith, product 10000 4000 {x = c.args.rate} {y = c.saturating_sub.result} (omega arith) (omega arith))

pub returns : goal.returns
unfolding penalty
returns c =
    let scaled : c.args.rate * c.saturating_sub.result ≤ 10000 * 4000 = product 10000 4000 (omega arith) (omega arith) in
    (ap (λ (x : ℕ). c.args.rate * x) c.saturating_sub.ensures, omega (arith, scaled))
