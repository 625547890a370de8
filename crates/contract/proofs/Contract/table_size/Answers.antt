-- `contract::Contract::table_size` meets its contract. Assumes nothing.
use Prim.Native.Nat.{ℕ, ◌-◌, ◌*◌, ◌≤◌}
use mathlib.Core.Path.{ap, sym, subst}
use native.Mathlib.Omega.{arith}
use Rattle.laws.specs.FixedTerm.{table_most_lem}
use Rattle.laws.specs.Terms.{table_size}
use Rattle.contract.proofs.Contract.table_size.Goals as goal

pub overflow_mul-result : goal.overflow_mul-result
unfolding table_size
overflow_mul-result c = let m = table_most_lem c.args.self.in_range in
    omega (arith, ap (λ (n : ℕ). (c.args.self.dates - 1) * n) c.layer_size.ensures.0)

pub returns : goal.returns
unfolding table_size
returns c =
    let e = ap (λ (n : ℕ). (c.args.self.dates - 1) * n) c.layer_size.ensures.0 in
    (e, subst (λ (n : ℕ). n ≤ 624312039) (sym e) (table_most_lem c.args.self.in_range))
