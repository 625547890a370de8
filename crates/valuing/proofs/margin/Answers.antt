-- `valuing::margin` meets its contract. Assumes nothing.
use Prim.Native.Nat.{◌*◌, ◌^◌}
use borrow.Author.Rules.{sfits_of}
use mir.Facts.{to_z_pos, to_z-of_z}
use mir.Syntax.{w64}
use native.Mathlib.Omega.{arith}
use Rattle.rules.specs.Date.{margin}
use Rattle.valuing.proofs.Laws.{diff, mag_sub}
use Rattle.valuing.proofs.margin.Goals as goal

pub overflow_sub-result : goal.overflow_sub-result
overflow_sub-result c =
    rw (
      to_z_pos w64 {n = c.args.value} (omega arith),
      to_z_pos w64 {n = 10000 * c.args.premium} (omega arith),
      diff c.args.value (10000 * c.args.premium),
    )
    (sfits_of (mag_sub c.args.value (10000 * c.args.premium) (2 ^ 63) (omega arith) (omega arith)))

pub returns : goal.returns
unfolding margin
returns c = rw (
  to_z-of_z (overflow_sub-result c),
  to_z_pos w64 {n = c.args.value} (omega arith),
  to_z_pos w64 {n = 10000 * c.args.premium} (omega arith),
  diff c.args.value (10000 * c.args.premium),
)
