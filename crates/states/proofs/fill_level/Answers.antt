-- `states::fill_level` meets its contract. Assumes nothing.
use Rattle.keys.specs.Filled.{filled}
use Rattle.states.proofs.fill_level.Goals as goal

pub returns : goal.returns
returns c = filled _ _ c.args.at c.args.n c.args.level c.requires.0 (c.fill.ensures.after (λ y e. e))
