-- `dynamic::States::further_run` meets its contract. Assumes nothing.
use mathlib.Core.Path.{ap}
use native.Mathlib.Omega.{arith}
use Prim.Native.Nat.{ℕ, ◌+◌, ◌-◌, ◌*◌}
use Rattle.dynamic.proofs.Further.{further_offering, further_offered}
use Rattle.dynamic.proofs.States.further_run.Goals as goal

pub offer-requires : goal.offer-requires
offer-requires c =
    let args = c.args in
    let pre = c.requires in
    let at_is = ap (λ (x : ℕ). (args.self.s.w - args.m - 1) * args.self.d.stride + x) c.saturating_sub.ensures in
    further_offering args.self.span pre.0 args.self.furthered at_is c.key.ensures.0 (omega (arith, c.key.ensures.1)) pre.1

pub returns : goal.returns
returns c =
    let args = c.args in
    let pre = c.requires in
    let at_is = ap (λ (x : ℕ). (args.self.s.w - args.m - 1) * args.self.d.stride + x) c.saturating_sub.ensures in
    further_offered args.self.span pre.0 args.self.furthered at_is c.key.ensures.0 (omega (arith, c.key.ensures.1)) pre.1
    c.offer.ensures
