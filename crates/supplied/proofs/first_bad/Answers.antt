-- `supplied::first_bad` meets its contract. Assumes nothing.
use Prim.Native.Nat.{◌-◌}
use mathlib.Core.Path.{sym, subst, ◌∙◌}
use native.Mathlib.Nat.{zero-mul}
use native.Mathlib.Omega.{arith}
use Rattle.contract.specs.Reading.{terms_in}
use Rattle.decision.specs.Index.{Searched, search_none}
use Rattle.slices.specs.Found.{found_none}
use Rattle.slices.specs.Rows.{rows_le}
use Rattle.laws.specs.FixedTerm.{table_most_lem}
use Rattle.laws.specs.Terms.{table_size}
use Rattle.rules.specs.FixedTerm.{layer_size}
use Rattle.supplied.proofs.Laws.{entry_small, entry_found, layer_passed}
use Rattle.supplied.proofs.first_bad.Goals as goal

pub loop-i-init : goal.loop-i-init
loop-i-init c = subst (Searched _ _) (sym (zero-mul (layer_size (terms_in c.args.c)))) (search_none _ _)

pub overflow_add-result : goal.overflow_add-result
overflow_add-result c =
    let l = entry_small c.layer_of-part.ensures c.loop-i.auto.i c.args.table.now c.requires c.loop-i.invariant c.in-Some.e
    (sym c.first_in_layer.ensures ∙ c.in-Some.is) in
    let d = table_most_lem c.args.c.in_range in
    omega arith

pub returns-in-Some : goal.returns-in-Some
returns-in-Some c =
    entry_found c.layer_of-part.ensures c.loop-i.auto.i c.args.table.now c.requires c.loop-i.invariant c.in-Some.e
    (sym c.first_in_layer.ensures ∙ c.in-Some.is)

pub loop-i-preserved : goal.loop-i-preserved
loop-i-preserved c =
    layer_passed c.layer_of-part.ensures c.loop-i.auto.i c.args.table.now c.requires c.loop-i.invariant
    (sym c.first_in_layer.ensures ∙ c.in_default.is)

pub returns : goal.returns
unfolding table_size
returns c =
    found_none c.loop-i.invariant
    (rows_le (layer_size (terms_in c.args.c)) (c.args.c.dates - 1) (c.loop-i.i - 1) (omega (arith, c.loop-i-test.false)))
