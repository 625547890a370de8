-- `dates::Course::all_dates` meets its contract. Assumes nothing.
use mathlib.Core.Path.{◌≡◌}
use Prim.Native.Nat.{◌-◌}
use native.Mathlib.Omega.{arith}
use Rattle.dates.proofs.Laws.{dating, valued_before, valued_none}
use Rattle.dates.proofs.Course.all_dates.Goals as goal

pub loop-i-init : goal.loop-i-init
loop-i-init c =
    let given = c.args.self.given in
    (omega (arith, given.valid.terms.dates_least), omega arith, valued_none given c.requires)

pub one_date-requires : goal.one_date-requires
one_date-requires c =
    let loop = c.loop-i in
    dating c.args.self.given c.requires loop.invariant.2 (omega (arith, loop.invariant.1))

pub loop-i-preserved : goal.loop-i-preserved
loop-i-preserved c =
    let loop = c.loop-i in
    let part = c.lent_layer-part.ensures in
    let one-date = c.one_date in (
      omega arith,
      omega arith,
      valued_before c.args.self.given c.requires loop.invariant.2 part (omega arith) (omega (arith, loop.invariant.1))
          one-date.new.work one-date.new.table one-date.ensures,
    )

pub returns : goal.returns
returns c =
    let loop = c.loop-i in
    let all : loop.i - 1 ≡ 0 = omega arith in
    rw all at loop.invariant.2
