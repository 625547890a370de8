-- `mapping::value_map` meets its contract. Assumes nothing.
use native.Mathlib.Omega.{arith}
use Rattle.std.proofs.lemmas.Result.{err_from_is_err_and}
use Rattle.input.specs.Reading.{input_of}
use Rattle.laws.specs.Map.{mapping_refused}
use Rattle.valuing.specs.First.{turned_away, passed, table_lent}
use Rattle.mapping.proofs.Laws.{refused_whole, too_short, filled_whole}
use Rattle.mapping.proofs.value_map.Goals as goal

pub returns-in_err-policy : goal.returns-in_err-policy
returns-in_err-policy c =
    let p = err_from_is_err_and c.from_residual.result c.from_residual.ensures.1 in
    rw (p.1, p.2)
    (refused_whole _ _ _ _ _ _ _ (mapping_refused _ _ _ _ _ (turned_away (input_of c.args.input) _ c.in_err-policy.ensures.tells)))

pub returns-then-map-map_size : goal.returns-then-map-map_size
returns-then-map-map_size c =
    let told = passed _ _ _ c.in_ok-policy.ensures.tells c.in_ok-policy.ensures.checked in
    too_short _ _ _ _ _ told (omega (arith, c.map_size.ensures, c.if-map-map_size.true))

pub valued-valuation-requires : goal.valued-valuation-requires
valued-valuation-requires c =
    let told = passed _ _ _ c.in_ok-policy.ensures.tells c.in_ok-policy.ensures.checked in
    (table_lent _ _ _ _ told.accepts told.terms).lent.first

pub fill-count-requires : goal.fill-count-requires
fill-count-requires c =
    let told = passed _ _ _ c.in_ok-policy.ensures.tells c.in_ok-policy.ensures.checked in
    let lent = (table_lent _ _ _ _ told.accepts told.terms).lent in record {
      entries = omega (arith, lent.room_table);
      words = omega (arith, c.map_size.ensures, c.if-map-map_size.false);
    }

pub returns : goal.returns
returns c =
    let told = passed _ _ _ c.in_ok-policy.ensures.tells c.in_ok-policy.ensures.checked in
    let fill = c.fill-count.ensures in
    filled_whole _ _ _ _ _ told (omega (arith, c.map_size.ensures, c.if-map-map_size.false)) c.valued-valuation.ensures
    fill.count fill.map_after
