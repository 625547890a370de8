-- `dates::layer_of` meets its contract. Assumes nothing.
use Rattle.contract.specs.Reading.{terms_in}
use Rattle.dates.specs.Layer.{date_layer}
use Rattle.dates.proofs.layer_of.Goals as goal

pub returns : goal.returns
returns c = rw c.layer_size-size.ensures.0 (date_layer (terms_in c.args.c) c.requires.0 c.requires.1)
