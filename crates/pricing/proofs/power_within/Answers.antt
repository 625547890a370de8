-- `pricing::power_within` meets its contract. Assumes nothing.
use mathlib.Core.Path.{◌∙◌}
use Rattle.decision.specs.Bisection.{half_is}
use Rattle.pricing.proofs.power_within.Goals as goal

pub returns : goal.returns
returns c =
    let log = c.ilog2.ensures in
    c.pow.ensures ∙ half_is _ c.ilog2.result log.power_le log.next_power_gt
