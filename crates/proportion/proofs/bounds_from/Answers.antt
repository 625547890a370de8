-- `proportion::bounds_from` meets its contract. Assumes nothing.
use Rattle.std.proofs.Common.{rules}
use Rattle.proportion.proofs.bounds_from.Goals as goal

pub returns : goal.returns
returns c = λ p l. let called = c.from_fn.ensures.items.at p 0 l in search rules
