-- `proportion::States::share_amount` meets its contract. Assumes nothing.
use Rattle.std.proofs.Common.{ℕ, sym, arith}
use Rattle.proportion.proofs.Bounds.{bounds_all}
use Rattle.proportion.proofs.Parts.{part_bounded, part_raised, part_running, raised_none}
use Rattle.proportion.proofs.Share.{way_last, way_passed}
use Rattle.proportion.specs.Held.{key_at}
use Rattle.proportion.proofs.States.share_amount.Goals as goal

pub key-requires : goal.key-requires
key-requires c =
    let pre = c.requires in
    way_last c.args.self.span pre.3 pre.0 pre.1

pub loop-p-init : goal.loop-p-init
loop-p-init c = (omega arith, sym (raised_none _ _ _ (omega arith)))

pub share_few-requires : goal.share_few-requires
share_few-requires c =
    let pre = c.requires in
    let told = c.part.ensures in
    let e = c.loop-p.invariant.1 in
    let args = c.args in
    let keys : ℕ → ℕ = λ j. key_at args.self.work.now args.self.d args.self.s j args.to.t in
    let few = c.loop-p-test.true in (
      part_running c.loop-p.p pre.0 told.0 told.1,
      part_bounded args.r c.part.result c.loop-p.p told.0 told.1 keys _ e pre.2 few told.2,
      pre.3,
    )

pub loop-p-preserved : goal.loop-p-preserved
loop-p-preserved c =
    let args = c.args in
    let told = c.part.ensures in
    let keys : ℕ → ℕ = λ j. key_at args.self.work.now args.self.d args.self.s j args.to.t in (
      omega arith,
      part_raised args.r c.part.result c.loop-p.p told.0 told.1 keys _ c.loop-p.invariant.1
          c.share_few.ensures,
    )

pub returns-else-r-key : goal.returns-else-r-key
returns-else-r-key c =
    let pre = c.requires in
    way_passed c.args.self.span pre.3 pre.0 pre.1 (omega (arith, c.told-best)) (bounds_all pre.2) (omega (arith, c.key.ensures))
