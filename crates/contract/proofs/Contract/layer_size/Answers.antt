-- `contract::Contract::layer_size` meets its contract. Assumes nothing.
use Prim.Native.Nat.{ℕ, ◌+◌, ◌*◌, ◌≤◌}
use mathlib.Core.Path.{ap, sym, subst}
use native.Mathlib.Omega.{arith}
use Rattle.rules.specs.FixedTerm.{layer_size}
use Rattle.laws.specs.FixedTerm.{layer_most, size_most}
use Rattle.contract.proofs.Contract.layer_size.Goals as goal

pub overflow_mul-result : goal.overflow_mul-result
unfolding layer_size
overflow_mul-result c = let m = size_most c.args.self.in_range in
    omega (arith, ap (λ (n : ℕ). (c.args.self.top + 1) * n) c.stride.ensures)

pub returns : goal.returns
unfolding layer_size
returns c =
    let e = ap (λ (n : ℕ). (c.args.self.top + 1) * n) c.stride.ensures in
    (e, subst (λ (n : ℕ). n ≤ layer_most) (sym e) (size_most c.args.self.in_range))
