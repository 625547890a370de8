-- `states::static_block` meets its contract. Assumes nothing.
use mathlib.Core.Path.{refl, ap, ◌∙◌}
use Prim.Native.Nat.{ℕ, ◌+◌, ◌-◌, ◌*◌}
use Rattle.keys.specs.Sums.{sums}
use Rattle.rules.specs.Date.{static}
use Rattle.states.proofs.Blocks.{block_decided, static_value, static_amount}
use Rattle.states.proofs.static_block.Goals as goal

pub returns : goal.returns
returns c =
    let d = c.args.d in
    let s = c.args.s in
    let pre = c.requires in
    let at_is = c.place-sums.ensures ∙ ap (λ (x : ℕ). d.base + (x * d.stride + (s.from - d.level))) c.saturating_sub.ensures in
    block_decided static (sums c.args.work.now d) c.args.table.now _ _ pre.0 c.min-at.ensures
    c.min.ensures
    c.fill_level.ensures c.copy_sums.ensures (static_amount pre.0 pre.1 at_is)
    (λ j l. static_value pre.0 pre.1 at_is j l refl)
