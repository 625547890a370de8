-- `expect::start_value` meets its contract. Assumes nothing.
use Prim.Native.Nat.{◌+◌, ◌*◌, ◌<◌}
use mathlib.Core.Path.{◌≡◌, refl, ap, ap₂, sym, ◌∙◌}
use native.Mathlib.Nat.{mul-le-mul}
use native.Mathlib.Omega.{arith}
use Rattle.decision.specs.Index.{sum, sum_next}
use Rattle.laws.specs.Date.{shared}
use Rattle.rules.specs.Contract.{returns_of}
use Rattle.rules.specs.Date.{discounted}
use Rattle.rules.specs.FixedTerm.{mean_by_list}
use Rattle.contract.specs.Reading.{terms_in}
use Rattle.slices.specs.Rows.{cells}
use Rattle.expect.specs.Expected.{expected_listed}
use Rattle.expect.proofs.Laws.{start_le, return_in, return_number, weight_small}
use Rattle.expect.proofs.start_value.Goals as goal

pub loop-k-init : goal.loop-k-init
unfolding sum
loop-k-init c = (omega arith, refl, omega arith)

pub weight_of-requires : goal.weight_of-requires
weight_of-requires c =
    let k = c.loop-k.k in
    let met : k < (returns_of c.args.list.now).count = omega (arith, c.returns_in-k-end.ensures) in
    (return_number c.requires k met, omega (arith, return_in c.requires k met))

pub loop-k-preserved : goal.loop-k-preserved
loop-k-preserved c =
    let loop = c.loop-k in
    -- the return met stands in the list
    let met : loop.k < (returns_of c.args.list.now).count = omega (arith, c.returns_in-k-end.ensures) in
    let last = ap₂ ◌*◌ c.weight_of.ensures.0 c.first_reached.ensures.0 in
    let small = mul-le-mul (weight_small c.requires loop.k met c.weight_of.ensures.0) c.first_reached.ensures.1 in
    (omega arith, ap₂ ◌+◌ loop.invariant.1 last ∙ sym (sum_next _ loop.k), omega (arith, loop.invariant.2, small))

pub returns : goal.returns
unfolding mean_by_list
returns c =
    let start = c in
    let all : c.loop-k.k ≡ (returns_of c.args.list.now).count = omega (arith, c.returns_in-k-end.ensures) in
    let is =
    c.discounted.ensures
    ∙ ap (discounted start.args.c.discount) (c.loop-k.invariant.1 ∙ ap (sum _) all)
    ∙ sym
    (expected_listed (terms_in start.args.c) (returns_of start.args.list.now)
    (shared start.args.rate (cells start.args.work.now 0 (start.args.c.premium + 1))) start.args.c.premium
    start.args.c.premium) in
    (is, rw is (start_le start.requires))
