-- `surrender::row_bits` meets its contract. Assumes nothing.
use Prim.Native.Nat.{ℕ, ◌-◌, ◌/◌, ◌^◌}
use mathlib.Core.Path.{sym, ap, ◌∙◌}
use native.Mathlib.Omega.{arith}
use lib.ListN.{length}
use Rattle.surrender.specs.Mapped.{draws}
use Rattle.surrender.proofs.Bits.{unset_bits, all_ones}
use Rattle.surrender.proofs.row_bits.Goals as goal

pub returns-then-n-eq0 : goal.returns-then-n-eq0
returns-then-n-eq0 c =
    let args = c.args in
    let whole = c.whole-n in
    let if1 = c.if-n-eq0 in
    sym (unset_bits (draws args.row.now args.account) (length args.row.now) (sym whole.ensures ∙ if1.true))

pub overflow_sub-result : goal.overflow_sub-result
overflow_sub-result c = omega (arith, c.requires)

pub overflow_shr-result : goal.overflow_shr-result
overflow_shr-result c = omega (arith, c.requires)

pub returns-then-n-row : goal.returns-then-n-row
returns-then-n-row c =
    let if2 = c.if-n-row in
    let args = c.args in
    let pre = c.requires in
    let whole = c.whole-n in
    ap (λ (n : ℕ). 18446744073709551615 / 2 ^ (64 - n)) if2.true
    ∙ all_ones (draws args.row.now args.account) (length args.row.now) (pre) (sym whole.ensures ∙ if2.true)

pub returns : goal.returns
returns c = c.each.ensures
