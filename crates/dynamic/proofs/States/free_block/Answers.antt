-- `dynamic::States::free_block` meets its contract. Assumes nothing.
use mathlib.Core.Path.{◌≡◌}
use native.Mathlib.Omega.{arith}
use Prim.Native.Nat.{◌+◌}
use Rattle.dynamic.proofs.Free.{free_all, first_copying, first_held}
use Rattle.proportion.specs.Offers.{held_as}
use Rattle.dynamic.proofs.States.free_block.Goals as goal

pub copy-requires : goal.copy-requires
copy-requires c =
    first_copying c.args.self.span c.place-at.ensures c.key.ensures.0 (omega (arith, c.key.ensures.1))

pub loop-t-init : goal.loop-t-init
loop-t-init c =
    let held = first_held c.args.self.span c.place-at.ensures c.key.ensures.0
    (omega (arith, c.key.ensures.1)) c.args.best.now _ (omega (arith, c.told-best)) c.copy.ensures in
    (omega arith, omega arith, held)

pub returns : goal.returns
returns c =
    let args = c.args in
    let end : c.loop-t.t ≡ args.self.d.level + 1 = omega arith in
    held_as _ c.loop-t.invariant.2 (λ j l. free_all args.self.d args.self.s end j)
