-- `date::cash` meets its contract. Assumes nothing.
use Prim.Native.Nat.{ℕ, ◌*◌, ◌-◌}
use mathlib.Core.Path.{ap, ◌∙◌}
use native.Mathlib.Omega.{arith}
use Rattle.rules.specs.Date.{cash}
use Rattle.date.proofs.cash.Goals as goal

pub returns : goal.returns
unfolding cash
returns c = (c.saturating_sub.ensures ∙ ap (λ (x : ℕ). 10000 * c.args.t - x) c.penalty.ensures.0, omega arith)
