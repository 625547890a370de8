-- `pricing::search` meets its contract. Assumes nothing.
use mathlib.Core.Path.{refl, ap}
use native.Mathlib.Omega.{arith}
use Prim.Native.Nat.{ℕ, ◌-◌}
use Rattle.contract.specs.Reading.{terms_in}
use Rattle.decision.specs.Bisection.{halved}
use Rattle.pricing.proofs.Laws.{lent_under_fee, worked_under_fee, searching_none, searching_more, searching_done, narrowed_less}
use Rattle.pricing.proofs.search.Goals as goal

pub loop-s-init : goal.loop-s-init
loop-s-init c = searching_none _ _ _ _ _ _ refl

pub overflow_sub-fee : goal.overflow_sub-fee
overflow_sub-fee c =
    let s = c.loop-s.s in
    let cut = halved (s.high - s.low) (omega arith) in
    omega (arith, cut.within, c.power_within.ensures)

pub with_fee-requires : goal.with_fee-requires
with_fee-requires c =
    let s = c.loop-s.s in
    let cut = halved (s.high - s.low) (omega arith) in
    omega (arith, c.loop-s.invariant.ends.within, cut.below, c.power_within.ensures)

pub valued_no_table-valuation-requires : goal.valued_no_table-valuation-requires
valued_no_table-valuation-requires c = lent_under_fee _ c.with_fee.ensures.terms c.requires c.loop-s.invariant.kept

pub narrow-s-requires : goal.narrow-s-requires
narrow-s-requires c =
    let s = c.loop-s.s in
    let cut = halved (s.high - s.low) (omega arith) in
    omega (arith, c.loop-s.invariant.ends.within, cut.below, c.power_within.ensures)

pub loop-s-smaller : goal.loop-s-smaller
loop-s-smaller c =
    let s = c.loop-s.s in
    let args = c.args in
    rw c.narrow-s.ensures
    (narrowed_less s (s.high - c.power_within.result) c.valued_no_table-valuation.result args.wanted (omega arith)
    (ap (λ (p : ℕ). s.high - p) c.power_within.ensures))

pub loop-s-preserved : goal.loop-s-preserved
loop-s-preserved c =
    let pre = c.requires in
    let policy = c.args.policy in
    let s = c.loop-s.s in
    let cut = halved (s.high - s.low) (omega arith) in
    let power = c.power_within.ensures in
    let under = c.with_fee.ensures in
    rw c.narrow-s.ensures
    (searching_more c.loop-s.invariant _ policy.contract.in_range.penalty (omega (arith, cut.within)) (omega (arith, cut.below)) pre.room
    (worked_under_fee (terms_in policy.contract) _ under.terms under.list under.rates c.valued_no_table-valuation.ensures))

pub shape_of-work : goal.shape_of-work
shape_of-work c = c.loop-s.invariant.kept.long

pub returns : goal.returns
returns c = searching_done c.loop-s.invariant (omega arith)
