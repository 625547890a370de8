-- `states::decide_layer` meets its contract. Assumes nothing.
use Rattle.states.proofs.Layers.{prepared_layers, prepared_row, decided_all, ready_down}
use Rattle.states.proofs.decide_layer.Goals as goal

pub decide_down-requires : goal.decide_down-requires
decide_down-requires c =
    let sums = prepared_layers c.requires c.prepare-rising.ensures in
    (sums, λ w h. ready_down sums h (prepared_row c.requires c.prepare-rising.ensures w h))

pub returns-in-Dynamic : goal.returns-in-Dynamic
returns-in-Dynamic c = decided_all c.requires c.prepare-rising.ensures c.decide_down.ensures
