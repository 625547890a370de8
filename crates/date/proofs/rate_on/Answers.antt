-- `date::rate_on` meets its contract. Assumes nothing.
use Prim.Native.Nat.{ℕ, ◌-◌, ◌*◌}
use mathlib.Core.Path.{ap, ◌∙◌}
use native.Mathlib.Omega.{arith}
use Rattle.rules.specs.Date.{rate_on}
use Rattle.date.proofs.Laws.{product}
use Rattle.date.proofs.rate_on.Goals as goal

pub overflow_mul-saturating_sub : goal.overflow_mul-saturating_sub
overflow_mul-saturating_sub c = omega (arith, product 40 10000 {x = c.saturating_sub.result} {y = c.args.step} (omega arith) (omega arith))

pub returns : goal.returns
unfolding rate_on
returns c =
    let args = c.args in
    (c.saturating_sub-2.ensures ∙ ap (λ (x : ℕ). args.rate - x * args.step) c.saturating_sub.ensures, omega arith)
