-- `states::prepare` meets its contract. Assumes nothing.
use Rattle.states.proofs.Layers.{prepared_further}
use Rattle.states.proofs.prepare.Goals as goal

pub returns : goal.returns
returns c =
    prepared_further c.requires c.further_layer.ensures
    c.rises-rising.ensures
