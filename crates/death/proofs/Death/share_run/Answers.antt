-- `death::Death::share_run` meets its contract. Assumes nothing.
use Rattle.std.proofs.Common.{ℕ, ◌+◌, ◌-◌, ◌*◌, ◌/◌, refl, ap, ◌∙◌, arith}
use Rattle.std.proofs.Math.Nat.{le_trans, le_of_eq}
use Rattle.slices.specs.Stored.{stored, stored_more}
use Rattle.death.proofs.Laws.{entry_kept}
use Rattle.death.proofs.Death.share_run.Goals as goal

pub loop-j-init : goal.loop-j-init
unfolding stored
loop-j-init c = (omega arith, refl)

pub left-requires : goal.left-requires
left-requires c =
    let pre = c.requires in
    le_trans (le_of_eq (entry_kept _ c.args.from c.loop-j.j _ c.loop-j.invariant.1)) (pre.small c.loop-j.j c.loop-j-test.true)

pub loop-j-preserved : goal.loop-j-preserved
loop-j-preserved c =
    let args = c.args in
    let loop = c.loop-j in
    let is =
    c.left.ensures.0
    ∙ ap (λ (v : ℕ). (10000 - args.self.rate) * v / 10000) (entry_kept _ args.from loop.j _ loop.invariant.1) in (
      omega arith,
      stored_more args.work.now args.from _ loop.j loop.invariant.1
          (ap (λ (x : ℕ). args.paid + args.step * loop.j + x) is),
    )
