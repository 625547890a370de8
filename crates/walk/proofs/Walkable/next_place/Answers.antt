-- `walk::Walkable::next_place` meets its contract. Assumes nothing.
use Prim.Native.Nat.{ℕ, suc}
use mathlib.Core.Path.{sym, ap, ap₂, ◌∙◌, subst}
use native.Mathlib.Nat.{le_trans, le_of_eq, sub-le}
use Rattle.rules.specs.Date.{balance_after, guarantee_after}
use Rattle.walk.specs.Met.{Met, arrival_of}
use Rattle.walk.proofs.Laws.{next_met}
use Rattle.walk.proofs.Walkable.next_place.Goals as goal

pub arrive-requires : goal.arrive-requires
unfolding balance_after
arrive-requires c =
    let pre = c.requires in
    (pre.2, le_trans (le_of_eq c.balance_after.ensures) (le_trans (sub-le _ _) pre.0.account))

pub returns : goal.returns
returns c =
    let args = c.args in
    let x = args.self.now in
    let pre = c.requires in
    let guarantee =
    c.guarantee_after.ensures
    ∙ ap (λ (m : ℕ). guarantee_after m args.place.account args.place.guarantee args.t) c.free_amount-m.ensures in
    subst (Met x (suc args.i)) (sym (c.arrive.ensures ∙ ap₂ (arrival_of x args.i) c.balance_after.ensures guarantee))
    (next_met x pre.0 pre.1 pre.2 args.t pre.3)
