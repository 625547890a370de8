-- `surrender::whole` meets its contract. Assumes nothing.
use Prim.Native.Nat.{◌+◌}
use lib.ListN.{length}
use mathlib.Core.Path.{◌≡◌, ap, ap₂, sym, ◌∙◌}
use native.Mathlib.Omega.{arith}
use Rattle.decision.specs.Bits.{set_bits}
use Rattle.surrender.specs.Mapped.{draws}
use Rattle.surrender.proofs.Bits.{set_none, set_next, set_most, bit_is}
use Rattle.surrender.proofs.whole.Goals as goal

pub loop-t-init : goal.loop-t-init
loop-t-init c = (omega arith, sym (set_none (draws c.args.row.now c.args.account)))

pub overflow_add-n : goal.overflow_add-n
overflow_add-n c =
    let args = c.args in
    let loop = c.loop-t in
    let pre = c.requires in
    let f = draws args.row.now args.account in
    omega (
      arith,
      loop.invariant.1,
      c.from-n.ensures ∙ bit_is _,
      set_most f loop.t-index,
      set_next f loop.t-index,
      set_most f (loop.t-index + 1),
      pre,
    )

pub loop-t-preserved : goal.loop-t-preserved
loop-t-preserved c =
    let args = c.args in
    let loop = c.loop-t in
    let f = draws args.row.now args.account in
    (omega arith, ap₂ ◌+◌ loop.invariant.1 (c.from-n.ensures ∙ bit_is _) ∙ sym (set_next f loop.t-index))

pub returns : goal.returns
returns c =
    let loop = c.loop-t in
    let args = c.args in
    let all : loop.t-index ≡ length args.row.now = omega arith in
    c.from.ensures ∙ loop.invariant.1 ∙ ap (set_bits (draws args.row.now args.account)) all
