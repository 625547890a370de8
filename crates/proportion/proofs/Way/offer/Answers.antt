-- `proportion::Way::offer` meets its contract. Assumes nothing.
use Rattle.std.proofs.Common.{◌≡◌, ℕ, ◌+◌, ◌/◌, ◌<◌, ◌≤◌, max, List, get_or, set, refl, ap, sym, ◌∙◌, le_of_lt, arith}
use Rattle.std.proofs.lemmas.List.{set-get_or}
use Rattle.std.proofs.Math.Nat.{max-eq_left, max-eq_right}
use Rattle.proportion.specs.Offers.{raised}
use Rattle.slices.specs.Stored.{stored}
use Rattle.proportion.proofs.Way.offer.Goals as goal
use Rattle.proportion.proofs.Way.offer.Goals.{then-best-low, else-best-low}

pub loop-i-init : goal.loop-i-init
unfolding stored
loop-i-init c = (omega arith, omega arith, refl)

-- an entry raised where it is below v
raised_where : (best : List ℕ) (k v : ℕ) → get_or best k 0 < v → set best k v ≡ set best k (max (get_or best k 0) v)
raised_where best k v h = ap (set best k) (sym (max-eq_right (le_of_lt h)))

raised_not : (best : List ℕ) (k v : ℕ) → v ≤ get_or best k 0 → best ≡ set best k (max (get_or best k 0) v)
raised_not best k v h = sym (set-get_or best k 0) ∙ ap (set best k) (sym (max-eq_left h))

pub loop-i-preserved : goal.loop-i-preserved
loop-i-preserved c =
    let args = c.args in
    let r = args.self in
    let at = ap (λ (z : ℕ). get_or args.work.now (r.at + z / 1099511627776) 0 + r.add) c.loop-i.invariant.1 in
    let k = args.low + c.loop-i.i in
    let one : c.if-best-low.best ≡ set c.loop-i.best k (max (get_or c.loop-i.best k 0)
    (get_or args.work.now (r.at + c.loop-i.product / 1099511627776) 0 + r.add)) = elim c.if-best-low.branch [
      | then-best-low w ↦ w.best-is ∙ raised_where c.loop-i.best k _ w.if-best-low.true
      | else-best-low w ↦ w.best-is ∙ raised_not c.loop-i.best k _ w.if-best-low.false
    ] in (
      omega arith,
      omega arith,
      one ∙ raised _ _ _ _ c.loop-i.invariant.2 _ (ap (max (get_or args.best.now k 0)) at),
    )
