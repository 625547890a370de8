-- `states::States::decide_keys` meets its contract. Assumes nothing.
use Rattle.states.proofs.States.decide_keys.Goals as goal

pub returns-in-Dynamic : goal.returns-in-Dynamic
returns-in-Dynamic c = rw c.in-Dynamic.is c.decide_block.ensures
