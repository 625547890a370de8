-- `walk::Walkable::pay` meets its contract. Assumes nothing.
use Prim.Native.Nat.{◌-◌}
use mathlib.Core.Path.{◌≡◌}
use Rattle.rules.specs.Product.{walk_cash_on}
use Rattle.slices.specs.Stored.{stored}
use Rattle.walk.specs.Met.{term_of, Met}
use Rattle.walk.proofs.Walkable.pay.Given as goal

abbrev pub invariant-loop-i : goal.invariant-loop-i
invariant-loop-i l =
    Met l.self l.i l.place
    × (l.cash ≡ stored l.initial.cash 0 (walk_cash_on (term_of l.self) l.self.table.now l.self.path.now) (l.i - 1))
