-- `surrender::word` meets its contract. Assumes nothing.
use Prim.Native.Nat.{ℕ, ◌+◌, ◌-◌, ◌<◌, min}
use mathlib.Core.List.{List}
use mathlib.Core.Path.{◌≡◌, ap, ◌∙◌}
use native.Mathlib.Omega.{arith}
use Rattle.contract.specs.Reading.{terms_in}
use Rattle.decision.specs.Bits.{from_bits}
use Rattle.laws.specs.FixedTerm.{table_most_lem}
use Rattle.rules.specs.Contract.{Terms}
use Rattle.rules.specs.Map.{surrendered}
use Rattle.surrender.specs.Mapped.{state_of, Wording}
use Rattle.surrender.specs.declared.State.{State}
use Rattle.surrender.proofs.Words.{Taken, taken_none, Part, next_within, part_some, part_within, part_inside, part_room, row_long}
use Rattle.surrender.proofs.Words.{added_fits, taken_more}
use Rattle.laws.specs.Terms.{frame}
use Rattle.surrender.proofs.word.Goals as goal

pub loop-k-init : goal.loop-k-init
loop-k-init c =
    let args = c.args in
    let pre = c.requires in
    taken_none (terms_in args.c) args.table.now args.from args.n args.at pre.begins

pub overflow_sub-stride : goal.overflow_sub-stride
overflow_sub-stride c = omega (arith, c.loop-k.invariant.inside, c.stride.ensures)

pub min-part-requires : goal.min-part-requires
min-part-requires c = tt

-- what the goals behind it are answered by
part : {c : Terms} {table : List ℕ} {from n bits k part : ℕ} {next at : State} {stride : ℕ} → Wording c table from n at
    → Taken c table from n bits next k → k < n → stride ≡ c.premium + 1 → part ≡ min (n - k) (stride - next.guarantee)
    → Part c table from n bits k part next
part {n = n} {k = k} {next = next} w t more s size = record {
  taken = t;
  few = w.few;
  room = w.room;
  more = more;
  size = size ∙ ap (λ (x : ℕ). min (n - k) (x - next.guarantee)) s;
}

pub may_surrender-requires : goal.may_surrender-requires
may_surrender-requires c = tt

pub overflow_add-end : goal.overflow_add-end
overflow_add-end c =
    let here = part c.requires c.loop-k.invariant c.loop-k-test.true c.stride.ensures c.min-part.ensures in
    let may-surrender = c.may_surrender in
    let pre = c.requires in
    let o = may-surrender.ensures in
    omega (arith, part_room here o, part_within here, o.within, pre.within, table_most_lem c.args.c.in_range)

pub offset_bounds-table-start : goal.offset_bounds-table-start
offset_bounds-table-start c =
    let here = part c.requires c.loop-k.invariant c.loop-k-test.true c.stride.ensures c.min-part.ensures in
    let pre = c.requires in
    omega (arith, part_within here, table_most_lem c.args.c.in_range, pre.within)

pub slice_bounds-row_bits-end : goal.slice_bounds-row_bits-end
slice_bounds-row_bits-end c =
    let here = part c.requires c.loop-k.invariant c.loop-k-test.true c.stride.ensures c.min-part.ensures in
    part_room here c.may_surrender.ensures

pub overflow_cast-next : goal.overflow_cast-next
overflow_cast-next c =
    let here = part c.requires c.loop-k.invariant c.loop-k-test.true c.stride.ensures c.min-part.ensures in
    let pre = c.requires in
    omega (arith, next_within here, c.args.c.in_range.top)

pub row_bits-requires : goal.row_bits-requires
row_bits-requires c =
    let here = part c.requires c.loop-k.invariant c.loop-k-test.true c.stride.ensures c.min-part.ensures in
    let may-surrender = c.may_surrender in
    let pre = c.requires in
    omega (arith, row_long here may-surrender.ensures, may-surrender.ensures.within, part_within here, pre.few)

pub overflow_shl-bits : goal.overflow_shl-bits
overflow_shl-bits c = omega (arith, c.requires.few)

pub overflow_add-bits : goal.overflow_add-bits
overflow_add-bits c =
    let here = part c.requires c.loop-k.invariant c.loop-k-test.true c.stride.ensures c.min-part.ensures in
    let may-surrender = c.may_surrender in
    let row-bits = c.row_bits in
    let f = added_fits here may-surrender.ensures row-bits.ensures in omega arith

pub step-next-requires : goal.step-next-requires
step-next-requires c =
    let here = part c.requires c.loop-k.invariant c.loop-k-test.true c.stride.ensures c.min-part.ensures in
    let pre = c.requires in
    (next_within here, part_inside here)

pub overflow_add-k : goal.overflow_add-k
overflow_add-k c =
    let here = part c.requires c.loop-k.invariant c.loop-k-test.true c.stride.ensures c.min-part.ensures in
    let pre = c.requires in
    omega (arith, part_within here, pre.few)

pub loop-k-smaller : goal.loop-k-smaller
loop-k-smaller c =
    let here = part c.requires c.loop-k.invariant c.loop-k-test.true c.stride.ensures c.min-part.ensures in
    omega (arith, part_some here, part_within here)

pub loop-k-preserved : goal.loop-k-preserved
loop-k-preserved c =
    let here = part c.requires c.loop-k.invariant c.loop-k-test.true c.stride.ensures c.min-part.ensures in
    let may-surrender = c.may_surrender in
    let row-bits = c.row_bits in
    let step = c.step-next in
    let args = c.args in
    let loop = c.loop-k in
    taken_more here may-surrender.ensures row-bits.ensures (step.ensures (args.from + loop.k) loop.invariant.next_is)

pub returns : goal.returns
returns c =
    let loop = c.loop-k in
    let args = c.args in
    let inv = loop.invariant in
    let all : loop.k ≡ args.n = omega (arith, inv.some) in
    record {
      bits_are = inv.bits_are ∙ ap (from_bits (λ (i : ℕ). surrendered (frame (terms_in args.c)) args.table.now (args.from + i))) all;
      ends = inv.next_is ∙ ap (λ (i : ℕ). state_of (terms_in args.c) (args.from + i)) all;
    }
