-- `dates::fill_maturity` meets its contract. Assumes nothing.
use Prim.Native.Nat.{ℕ, ◌*◌}
use mathlib.Core.List.{List}
use mathlib.Core.Path.{refl, ap, ◌∙◌}
use native.Mathlib.Omega.{arith}
use Rattle.rules.specs.Date.{maturity_value}
use Rattle.slices.specs.Rows.{row_next}
use Rattle.slices.specs.Stored.{stored, stored_none}
use Rattle.dates.proofs.fill_maturity.Goals as goal

pub loop-w-init : goal.loop-w-init
loop-w-init c = (omega arith, stored_none _ _ _ _)

pub loop-w-preserved : goal.loop-w-preserved
loop-w-preserved c =
    let args = c.args in
    let stride₀ = args.stride in
    let loop = c.loop-w in
    let w' = loop.w in
    let maturity-row = c.maturity_row in (
      omega arith,
      maturity-row.ensures
          ∙ ap (λ (xs : List ℕ). stored xs (w' * stride₀) (maturity_value w') stride₀) loop.invariant.1
          ∙ row_next _ _ _ maturity_value _ (λ a l. refl),
    )
