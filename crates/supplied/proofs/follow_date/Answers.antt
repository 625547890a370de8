-- `supplied::follow_date` meets its contract. Assumes nothing.
use Rattle.supplied.proofs.Laws.{following, back}
use Rattle.supplied.proofs.follow_date.Goals as goal

pub follow_layer-requires : goal.follow_layer-requires
follow_layer-requires c =
    let told = c.sum_date-d.ensures in following c.args.course.rates.now c.requires told.0 told.1

pub returns : goal.returns
returns c =
    let told = c.sum_date-d.ensures in back c.args.course.rates.now c.requires told.0 told.1 c.follow_layer.ensures
