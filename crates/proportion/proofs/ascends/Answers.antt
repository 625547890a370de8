-- `proportion::ascends` meets its contract. Assumes nothing.
use Rattle.std.proofs.Common.{◌≡◌, ℕ, ◌+◌, ◌^◌, ◌<◌, get_or, subst, arith}
use Rattle.proportion.proofs.ascends.Goals as goal

pub falls_at-falls-requires : goal.falls_at-falls-requires
falls_at-falls-requires c =
    let here = c.requires.1 c.loop-i.i (omega arith) in
    let next = c.requires.1 (c.loop-i.i + 1) (omega arith) in
    let at : c.args.at + (c.loop-i.i + 1) ≡ c.args.at + c.loop-i.i + 1 = omega arith in
    (omega (arith, next.0), here.1, subst (λ (x : ℕ). get_or c.args.work.now x 0 < 2 ^ 63) at next.1)
