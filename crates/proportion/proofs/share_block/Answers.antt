-- `proportion::share_block` meets its contract. Assumes nothing.
use Rattle.std.proofs.Common.{◌∙◌, arith}
use Rattle.proportion.specs.Offers.{held_as}
use Rattle.proportion.proofs.Amount.{none_above}
use Rattle.proportion.specs.Tried.{below_all, below_same}
use Rattle.proportion.proofs.share_block.Goals as goal

pub returns-else-d-s : goal.returns-else-d-s
returns-else-d-s c =
    let args = c.args in
    let s = args.s in
    held_as _ c.requires.1 (λ j l. below_same args.d s _ s.n j (omega arith)
    (λ p q. none_above s.n args.d.level s.w s.from j p l c.if-d-s.false) ∙ below_all args.d s s.n j l)
