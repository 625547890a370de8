-- `walk::Walkable::check_dates` meets its contract. Assumes nothing.
use Prim.Native.Nat.{◌-◌}
use Rattle.decision.specs.Index.{Searched}
use Rattle.rules.specs.Product.{bad_date}
use Rattle.walk.specs.Met.{term_of, Met}
use Rattle.walk.proofs.Walkable.check_dates.Given as goal

abbrev pub invariant-loop-i : goal.invariant-loop-i
invariant-loop-i l =
    Met l.self l.i l.place
    × Searched (bad_date (term_of l.self) l.self.table.now l.self.path.now) (l.self.contract.dates - 1) (l.i - 1)
