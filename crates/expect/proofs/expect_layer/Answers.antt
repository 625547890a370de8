-- `expect::expect_layer` meets its contract. Assumes nothing.
use Prim.Native.Nat.{ℕ, ◌+◌, ◌*◌}
use mathlib.Core.Path.{◌≡◌, ap, ap₂, sym, ◌∙◌}
use native.Mathlib.Omega.{arith}
use Rattle.contract.specs.Reading.{terms_in}
use Rattle.expect.specs.Expected.{expected, scaled}
use Rattle.returns.specs.Sorted.{in_order}
use Rattle.rules.specs.FixedTerm.{layer_size}
use Rattle.slices.specs.Rows.{cells, flat}
use Rattle.slices.specs.Stored.{stored, stored_eq, stored_none}
use Rattle.expect.proofs.Laws.{layer_balance, balance_row, balance_cells, expect_step}
use Rattle.expect.proofs.expect_layer.Goals as goal

pub loop-balance-init : goal.loop-balance-init
loop-balance-init c = stored_none _ _ _ _

pub expect_row-requires : goal.expect_row-requires
unfolding layer_size
expect_row-requires c =
    let pre = c.requires in
    let loop = c.loop-balance in
    let met =
    layer_balance loop.work _ _ loop.balance c.stride-stride.ensures c.layer_size-size.ensures.0 pre.0.valid pre.1
    c.on-average.ensures loop.invariant (omega arith) in
    balance_row _ met c.gather.ensures

pub loop-balance-preserved : goal.loop-balance-preserved
unfolding layer_size
loop-balance-preserved c =
    let pre = c.requires in
    let loop = c.loop-balance in
    let stride = c.stride-stride in
    let size = c.layer_size-size in
    let groups = c.gather.ensures in
    let c₀ = c.args.c in
    let rs = in_order c.args.order.now in
    let met =
    layer_balance loop.work _ _ loop.balance stride.ensures size.ensures.0 pre.0.valid pre.1 c.on-average.ensures
    loop.invariant (omega arith) in
    let step =
    expect_step (terms_in c₀) rs c.args.work.now stride.result size.result
    (size.ensures.0 ∙ ap (λ (n : ℕ). (c₀.top + 1) * n) (sym stride.ensures)) in
    c.expect_row.ensures
    ∙ stored_eq _ _ _ _ _ (λ k l.
    ap (λ (x : ℕ). 8192 * x)
    (balance_cells c.gather.new.self met groups k
    ∙ ap (λ (n : ℕ). expected (terms_in c₀) rs (cells loop.work 0 n) loop.balance k) (sym stride.ensures)))
    ∙ step loop.balance loop.work loop.invariant

pub returns : goal.returns
unfolding layer_size
returns c =
    let args = c.args in
    let loop = c.loop-balance in
    let work₀ = args.work.now in
    let c₀ = args.c in
    let sums : ℕ → ℕ → ℕ = λ n. flat n (scaled (expected (terms_in c₀) (in_order args.order.now) (cells work₀ 0 n))) in
    let e : loop.balance ≡ c₀.top + 1 = omega arith in
    loop.invariant
    ∙ ap₂ (λ (n size : ℕ). stored work₀ size (sums n) (loop.balance * n)) c.stride-stride.ensures c.layer_size-size.ensures.0
    ∙ ap (λ (b : ℕ). stored work₀ ((c₀.top + 1) * (c₀.premium + 1)) (sums (c₀.premium + 1)) (b * (c₀.premium + 1))) e
