-- `date::guarantee_after` meets its contract. Assumes nothing.
use Prim.Native.Nat.{ℕ, ◌*◌, ◌-◌, ◌/◌, min}
use borrow.Author.Tests.{le-leb, lt-leb}
use mathlib.Core.Path.{ap, ◌∙◌}
use native.Mathlib.Omega.{arith}
use Rattle.rules.specs.Date.{guarantee_after}
use Rattle.date.proofs.Laws.{product}
use Rattle.date.proofs.guarantee_after.Goals as goal

pub returns-then-t-m : goal.returns-then-t-m
unfolding guarantee_after
returns-then-t-m c = rw (le-leb _ _ c.if-t-m.true) c.saturating_sub.ensures

pub overflow_mul-a : goal.overflow_mul-a
overflow_mul-a c = omega (
  arith,
  product 4000 4000 {x = c.args.a} {y =
      c.args.w - c.args.t} (omega arith) (omega arith),
)

pub returns : goal.returns
unfolding guarantee_after
returns c =
    let args = c.args in
    let w₀ = args.w in
    let if1 = c.if-t-m in
    rw (lt-leb _ _ if1.false) (c.min.ensures ∙ ap (λ (x : ℕ). min x (args.a * (w₀ - args.t) / w₀)) c.saturating_sub-2.ensures)
