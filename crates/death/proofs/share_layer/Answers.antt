-- `death::share_layer` meets its contract. Assumes nothing.
use Prim.Native.Nat.{ℕ, ◌*◌}
use mathlib.Core.Path.{ap, ◌∙◌}
use native.Mathlib.Omega.{arith}
use Rattle.laws.specs.Date.{shared}
use Rattle.slices.specs.Rows.{cells}
use Rattle.slices.specs.Stored.{stored, stored_none}
use Rattle.death.proofs.Laws.{row_of, share_step, shared_none}
use Rattle.death.proofs.share_layer.Goals as goal

pub returns-then-rate-eq0 : goal.returns-then-rate-eq0
returns-then-rate-eq0 c =
    let args =
    c.args in shared_none args.work.now args.rate args.stride args.n c.requires.room
    c.if-rate-eq0.true

pub loop-w-init : goal.loop-w-init
loop-w-init c = (omega arith, stored_none _ _ _ _)

pub share_row-requires : goal.share_row-requires
share_row-requires c =
    let loop = c.loop-w in row_of c.requires loop.w c.loop-w-test.true _ loop.invariant.1

pub loop-w-preserved : goal.loop-w-preserved
loop-w-preserved c =
    let loop = c.loop-w in
    let args = c.args in
    let by-rate =
    ap (λ (r : ℕ). stored loop.work (loop.w * args.stride) (shared r (cells loop.work 0 args.stride) loop.w) args.stride)
    c.new-death.ensures in (
      omega arith,
      c.share_row.ensures
          ∙ by-rate
          ∙ share_step _ _ _ _ c.requires loop.w c.loop-w-test.true loop.work loop.invariant.1,
    )
