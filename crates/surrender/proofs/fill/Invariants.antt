-- `surrender::fill` meets its contract. Assumes nothing.
use Prim.Native.Nat.{◌-◌}
use Rattle.contract.specs.Reading.{terms_in}
use Rattle.surrender.proofs.Words.{Filled}
use Rattle.surrender.proofs.fill.Given as goal

abbrev pub invariant-loop-j : goal.invariant-loop-j
invariant-loop-j l = Filled (terms_in l.c) l.table l.initial.map l.at l.count l.map l.j

abbrev pub decreases-loop-j : goal.decreases-loop-j
decreases-loop-j l = l.j-end - l.j
