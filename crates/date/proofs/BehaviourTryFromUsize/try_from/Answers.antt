-- A number is read as its behaviour. Assumes nothing.
use Rattle.std.proofs.Common.{arith}
use Rattle.rules.specs.Operations.{behaviour_of}
use Rattle.date.proofs.BehaviourTryFromUsize.try_from.Goals as goal

pub returns-in-0 : goal.returns-in-0
unfolding behaviour_of
returns-in-0 c = (omega arith, rw c.in-0.is)

pub returns-in-1 : goal.returns-in-1
unfolding behaviour_of
returns-in-1 c = (omega arith, rw c.in-1.is)

pub returns-in-2 : goal.returns-in-2
unfolding behaviour_of
returns-in-2 c = (omega arith, rw c.in-2.is)
