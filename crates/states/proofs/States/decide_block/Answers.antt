-- `states::States::decide_block` meets its contract. Assumes nothing.
use Rattle.keys.specs.Sums.{sums}
use Rattle.date.specs.Behaviour.{behaviour_in}
use Rattle.states.proofs.Blocks.{block_decided, key_holds_value, key_holds_amount}
use Rattle.states.proofs.States.decide_block.Goals as goal

pub returns : goal.returns
returns c =
    let args = c.args in
    let span = c.requires.span in
    let keys = c.decide_keys.ensures in
    block_decided (behaviour_in args.self.behaviour) (sums args.work.now args.self.d) args.table.now _ _ span
    c.min-at.ensures c.min.ensures
    c.take_amounts.ensures c.take_values.ensures (key_holds_amount span keys) (key_holds_value span keys)
