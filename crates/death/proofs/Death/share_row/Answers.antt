-- `death::Death::share_row` meets its contract. Assumes nothing.
use Rattle.death.proofs.Laws.{high_run, two_runs}
use Rattle.death.proofs.Death.share_row.Goals as goal

pub share_run-requires-2 : goal.share_run-requires-2
share_run-requires-2 c =
    high_run c.args.self.halves.rate_is c.requires _ c.min-n.ensures c.share_run.ensures

pub returns : goal.returns
returns c =
    two_runs c.args.self.halves.rate_is c.requires _ c.min-n.ensures c.share_run.ensures c.share_run-2.ensures
