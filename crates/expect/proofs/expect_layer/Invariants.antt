-- `expect::expect_layer` meets its contract. Assumes nothing.
use Prim.Native.Nat.{◌*◌}
use mathlib.Core.Path.{◌≡◌}
use Rattle.contract.specs.Reading.{terms_in}
use Rattle.expect.specs.Expected.{expected, scaled}
use Rattle.returns.specs.Sorted.{in_order}
use Rattle.slices.specs.Rows.{cells, flat}
use Rattle.slices.specs.Stored.{stored}
use Rattle.expect.proofs.expect_layer.Given as goal

abbrev pub invariant-loop-balance : goal.invariant-loop-balance
invariant-loop-balance l =
    l.work
    ≡ stored l.initial.work l.size
    (flat l.stride (scaled (expected (terms_in l.c) (in_order l.order) (cells l.initial.work 0 l.stride)))) (l.balance * l.stride)
