-- `states::States::decide_next` meets its contract. Assumes nothing.
use Rattle.states.proofs.States.decide_next.Goals as goal

pub returns-in-Static : goal.returns-in-Static
returns-in-Static c = rw c.in-Static.is c.static_block.ensures
