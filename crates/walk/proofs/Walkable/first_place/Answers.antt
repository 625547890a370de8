-- `walk::Walkable::first_place` meets its contract. Assumes nothing.
use mathlib.Core.Path.{sym, subst}
use Rattle.walk.specs.Met.{Met}
use Rattle.walk.proofs.Laws.{first_met}
use Rattle.walk.proofs.Walkable.first_place.Goals as goal

pub returns : goal.returns
returns c = subst (Met c.args.self.now 1) (sym c.arrive.ensures) (first_met c.args.self.now)
