-- `dates::clear` meets its contract. Assumes nothing.
use Rattle.keys.specs.Filled.{filled}
use Rattle.dates.proofs.clear.Goals as goal

pub returns : goal.returns
returns c = filled _ _ c.args.from c.args.n 0 c.requires (c.fill.ensures.after (λ y e. e))
