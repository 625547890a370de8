-- `proportion::States::share_few` meets its contract. Assumes nothing.
use Rattle.std.proofs.Common.{◌≡◌, ◌-◌, sym, arith}
use Rattle.proportion.proofs.Parts.{raised_none}
use Rattle.proportion.proofs.Share.{way_last, way_sharing, way_raised, way_passed}
use Rattle.proportion.proofs.States.share_few.Goals as goal

pub key-requires : goal.key-requires
key-requires c =
    let pre = c.requires in
    way_last c.args.self.span pre.2 pre.0 c.if-r.true

pub offer-requires : goal.offer-requires
offer-requires c =
    let pre = c.requires in
    way_sharing c.args.self.span pre.2 pre.0 c.if-r.true

pub returns-then-r-key : goal.returns-then-r-key
returns-then-r-key c =
    let pre = c.requires in
    way_raised c.args.self.span pre.2 pre.0 c.if-r.true _ c.offer.ensures

pub returns-else-r-key : goal.returns-else-r-key
returns-else-r-key c =
    let pre = c.requires in
    way_passed c.args.self.span pre.2 pre.0 c.if-r.true (omega (arith, c.told-best)) pre.1 (omega (arith, c.key.ensures))

pub returns-else-r : goal.returns-else-r
returns-else-r c =
    let args = c.args in
    let none : args.r.end - args.r.low ≡ 0 = omega arith in
    sym (raised_none _ args.r.low _ none)
