-- `surrender::word` meets its contract. Assumes nothing.
use Prim.Native.Nat.{◌-◌}
use Rattle.contract.specs.Reading.{terms_in}
use Rattle.surrender.proofs.Words.{Taken}
use Rattle.surrender.proofs.word.Given as goal

abbrev pub invariant-loop-k : goal.invariant-loop-k
invariant-loop-k l = Taken (terms_in l.c) l.table l.from l.n l.bits l.next l.k

abbrev pub decreases-loop-k : goal.decreases-loop-k
decreases-loop-k l = l.n - l.k
