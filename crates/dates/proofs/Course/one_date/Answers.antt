-- `dates::Course::one_date` meets its contract. Assumes nothing.
use Rattle.rules.specs.Contract.{rates_of}
use Rattle.dates.proofs.Laws.{dated}
use Rattle.dates.proofs.Course.one_date.Goals as goal

pub returns : goal.returns
returns c = dated (rates_of c.args.self.rates.now) c.sum_date-d.ensures.0 c.sum_date-d.ensures.1 c.decide_layer.ensures
