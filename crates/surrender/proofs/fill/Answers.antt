-- `surrender::fill` meets its contract. Assumes nothing.
use Prim.Native.Nat.{ℕ, ◌≤◌, ◌<◌}
use lib.ListN.{length}
use mathlib.Core.Path.{◌≡◌, ap, ◌∙◌}
use native.Mathlib.Omega.{arith}
use Rattle.contract.specs.Reading.{terms_in}
use Rattle.decision.specs.Bits.{bits_in}
use Rattle.rules.specs.Map.{map_size}
use Rattle.slices.specs.Stored.{length_stored}
use Rattle.surrender.proofs.Bits.{ones_le, ones_same}
use Rattle.surrender.proofs.Words.{filled_none, word_some, wording, run_fits, filled_more, filled_count, filled_map}
use Rattle.laws.specs.Terms.{frame}
use Rattle.surrender.proofs.fill.Goals as goal

pub loop-j-init : goal.loop-j-init
loop-j-init c =
    let args = c.args in
    filled_none (terms_in args.c) args.table.now args.map.now

pub overflow_mul-from : goal.overflow_mul-from
overflow_mul-from c =
    let more : c.loop-j.j < map_size (frame (terms_in c.args.c)) = omega (arith, c.map_size-j-end.ensures) in
    let table-size = c.table_size-size in
    let loop = c.loop-j in
    omega (arith, table-size.ensures.1, table-size.ensures.0, word_some loop.invariant more)

pub overflow_sub-size : goal.overflow_sub-size
overflow_sub-size c =
    let more : c.loop-j.j < map_size (frame (terms_in c.args.c)) = omega (arith, c.map_size-j-end.ensures) in
    let table-size = c.table_size-size in
    let loop = c.loop-j in
    omega (arith, table-size.ensures.0, word_some loop.invariant more)

pub min-requires : goal.min-requires
min-requires c = tt

pub word-filled-requires : goal.word-filled-requires
word-filled-requires c =
    let more : c.loop-j.j < map_size (frame (terms_in c.args.c)) = omega (arith, c.map_size-j-end.ensures) in
    let loop = c.loop-j in
    let smaller = c.min in
    let table-size = c.table_size-size in
    let pre = c.requires in
    let takes = smaller.ensures ∙ ap (λ (n : ℕ). bits_in n loop.j) table-size.ensures.0 in
    wording loop.invariant more takes pre.entries

pub offset_bounds-map-j : goal.offset_bounds-map-j
offset_bounds-map-j c =
    let more : c.loop-j.j < map_size (frame (terms_in c.args.c)) = omega (arith, c.map_size-j-end.ensures) in
    let loop = c.loop-j in
    let table-size = c.table_size-size in
    omega (arith, word_some loop.invariant more, table-size.ensures.0, table-size.ensures.1)

pub bounds-map-j : goal.bounds-map-j
bounds-map-j c =
    let more : c.loop-j.j < map_size (frame (terms_in c.args.c)) = omega (arith, c.map_size-j-end.ensures) in
    let loop = c.loop-j in
    let args = c.args in
    let pre = c.requires in
    let long : length loop.map ≡ length args.map.now = ap length loop.invariant.map_is ∙ length_stored _ _ _ _ in
    omega (arith, more, pre.words)

pub overflow_add-count : goal.overflow_add-count
overflow_add-count c =
    let more : c.loop-j.j < map_size (frame (terms_in c.args.c)) = omega (arith, c.map_size-j-end.ensures) in
    let loop = c.loop-j in
    let filled = c.word-filled.result.bits in
    let few = run_fits c.word-filled.ensures (omega (arith, c.min.ensures)) in
    let set = c.from-count.ensures ∙ ones_same filled few in
    let table-size = c.table_size-size in
    omega (arith, loop.invariant.few, set, ones_le filled, word_some loop.invariant more, table-size.ensures.0, table-size.ensures.1)

pub loop-j-preserved : goal.loop-j-preserved
loop-j-preserved c =
    let more : c.loop-j.j < map_size (frame (terms_in c.args.c)) = omega (arith, c.map_size-j-end.ensures) in
    let loop = c.loop-j in
    let smaller = c.min in
    let table-size = c.table_size-size in
    let word = c.word-filled in
    let filled = c.word-filled.result.bits in
    let few = run_fits c.word-filled.ensures (omega (arith, c.min.ensures)) in
    let set = c.from-count.ensures ∙ ones_same filled few in
    let takes = smaller.ensures ∙ ap (λ (n : ℕ). bits_in n loop.j) table-size.ensures.0 in
    filled_more loop.invariant more takes word.ensures set (omega (arith, set, ones_le filled))

pub shape_of-map : goal.shape_of-map
shape_of-map c = ap length c.loop-j.invariant.map_is ∙ length_stored _ _ _ _

pub returns : goal.returns
returns c =
    let args = c.args in
    let loop = c.loop-j in
    let map-size = c.map_size-j-end in
    let pre = c.requires in
    let done : map_size (frame (terms_in args.c)) ≤ loop.j = omega (arith, map-size.ensures) in
    record { count = filled_count loop.invariant done; map_after = filled_map loop.invariant done pre.words }
