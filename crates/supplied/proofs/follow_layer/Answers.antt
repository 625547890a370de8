-- `supplied::follow_layer` meets its contract. Assumes nothing.
use Prim.Native.Nat.{ℕ, ◌*◌}
use lib.ListN.{length}
use mathlib.Core.Path.{◌≡◌, ap, ◌∙◌}
use native.Mathlib.Omega.{arith}
use Rattle.slices.specs.Rows.{flat}
use Rattle.slices.specs.Stored.{stored, stored_none, length_stored}
use Rattle.supplied.specs.Followed.{followed_on}
use Rattle.supplied.proofs.Laws.{following_on, follow_step}
use Rattle.supplied.proofs.follow_layer.Goals as goal

pub loop-w-init : goal.loop-w-init
loop-w-init c = (omega arith, stored_none _ _ _ _)

pub follow_row-requires : goal.follow_row-requires
follow_row-requires c =
    let loop = c.loop-w in
    following_on c.requires loop.w (omega arith) loop.work loop.invariant.1

pub overflow_step-w : goal.overflow_step-w
overflow_step-w c = omega (arith, c.requires.layers.few)

pub loop-w-preserved : goal.loop-w-preserved
loop-w-preserved c =
    let pre = c.requires in
    let loop = c.loop-w in
    (omega arith, c.follow_row.ensures ∙ follow_step pre loop.w (omega arith) loop.work loop.invariant.1)

pub shape_of-work : goal.shape_of-work
shape_of-work c = ap length c.loop-w.invariant.1 ∙ length_stored _ _ _ _

pub returns : goal.returns
returns c =
    let args = c.args in
    let e : c.loop-w.w ≡ args.n = omega arith in
    let rows = flat args.d.stride (followed_on args.d args.work.now args.layer.now) in
    c.loop-w.invariant.1 ∙ ap (λ (x : ℕ). stored args.work.now 0 rows (x * args.d.stride)) e
