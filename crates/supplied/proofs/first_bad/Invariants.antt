-- `supplied::first_bad` meets its contract. Assumes nothing.
use Prim.Native.Nat.{◌-◌, ◌*◌}
use Rattle.contract.specs.Reading.{terms_in}
use Rattle.decision.specs.Index.{Searched}
use Rattle.rules.specs.FixedTerm.{layer_size}
use Rattle.laws.specs.Terms.{table_size, bad_in}
use Rattle.supplied.proofs.first_bad.Given as goal

abbrev pub invariant-loop-i : goal.invariant-loop-i
invariant-loop-i l =
    Searched (bad_in (terms_in l.c) l.table) (table_size (terms_in l.c)) ((l.i - 1) * layer_size (terms_in l.c))
