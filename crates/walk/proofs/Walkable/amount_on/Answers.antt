-- `walk::Walkable::amount_on` meets its contract. Assumes nothing.
use Prim.Native.Nat.{ℕ, ◌+◌, ◌*◌, ◌-◌}
use lib.ListN.{get_or}
use borrow.Rule.Slice.PartMut.{mid_of}
use mathlib.Core.Path.{ap, ◌∙◌}
use Rattle.walk.proofs.Laws.{entry_in, amount_is}
use Rattle.walk.proofs.Walkable.amount_on.Goals as goal

pub entry_of-requires : goal.entry_of-requires
entry_of-requires c =
    let pre = c.requires in
    rw c.stride.ensures (entry_in c.args.self.now pre.0 pre.1 pre.2 c.layer_of-part.ensures)

pub returns : goal.returns
returns c =
    let pre = c.requires in
    let part = c.layer_of-part.result in
    let place = c.args.place in
    let layer = mid_of part.from (part.to - part.from) c.args.self.now.table.now in
    c.entry_of.ensures
    ∙ ap (λ (n : ℕ). get_or layer (place.account * n + place.guarantee) 0) c.stride.ensures
    ∙ amount_is c.args.self.now pre.0 pre.1 pre.2 c.layer_of-part.ensures
