-- `dynamic::decide_block` meets its contract. Assumes nothing.
use mathlib.Core.Path.{◌∙◌}
use Prim.Native.Nat.{◌+◌}
use Rattle.keys.specs.Sums.{sums}
use Rattle.worth.specs.Laws.{dynamic_key}
use Rattle.dynamic.proofs.decide_block.Goals as goal

pub returns : goal.returns
returns c =
    let d = c.args.d in
    let s = c.args.s in
    let held = c.share_block.ensures in
    record {
      long = held.long;
      each = λ j l. held.each j l ∙ dynamic_key (sums c.args.work.now d) d.rate d.level s.w (s.from + j);
    }
