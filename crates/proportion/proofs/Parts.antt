-- A run of states, 8 at a time. Assumes nothing.
use Rattle.std.proofs.Common.{◌≡◌, ℕ, ◌+◌, ◌-◌, ◌*◌, ◌<◌, ◌≤◌, min, max, List, get_or, sym, ap, ◌∙◌, ap₂, inr, le_trans, le_of_eq, arith}
use native.Mathlib.Decide.{dec_le}
use Rattle.slices.specs.Stored.{stored, stored_join, stored_out}
use Rattle.keys.specs.declared.Block.{Block}
use Rattle.keys.specs.declared.Date.{Date}
use Rattle.proportion.specs.declared.Run.{Run}
use Rattle.proportion.specs.Held.{raised_to}
use Rattle.proportion.specs.Share.{Bounded, Bounds, Running}

-- two runs that meet
module _ (k : ℕ → ℕ) (best : List ℕ) (low n m : ℕ) where
  abbrev raise : ℕ → ℕ
  raise i = max (get_or best (low + i) 0) (k (low + i))

  raised_join : raised_to (raised_to best low (λ i. k (low + i)) n) (low + n) (λ i. k (low + n + i)) m
      ≡ raised_to best low (λ i. k (low + i)) (n + m)
  raised_join =
      stored_join best low raise _ n m (λ i l.
      let at : low + n + i ≡ low + (n + i) = omega arith in
      ap₂ max (stored_out best low raise n (low + n + i) (inr (omega arith)) ∙ ap (λ (x : ℕ). get_or best x 0) at) (ap k at))

-- nothing, in the place of a run that is over
pub raised_none : (best : List ℕ) (low : ℕ) (f : ℕ → ℕ) {n : ℕ} → n ≡ 0 → raised_to best low f n ≡ best
unfolding stored
raised_none best low f e = rw e

part_end : (low end p : ℕ) → 8 * p ≤ end - low → 8 * p + min 8 (end - (low + 8 * p)) ≡ min (8 * (p + 1)) (end - low)
part_end low end p h = omega arith

module _ (r q : Run) (p : ℕ) (low_is : q.low ≡ r.low + 8 * p) (end_is : q.end ≡ min r.end (r.low + 8 * p + 8))
    (k : ℕ → ℕ) (best₀ : List ℕ) {best : List ℕ} (e : best ≡ raised_to best₀ r.low (λ i. k (r.low + i)) (min (8 * p) (r.end - r.low)))
  where
    -- the parts before this one, and this one
    pub part_raised : {best' : List ℕ} → best' ≡ raised_to best q.low (λ i. k (q.low + i)) (q.end - q.low)
        → best' ≡ raised_to best₀ r.low (λ i. k (r.low + i)) (min (8 * (p + 1)) (r.end - r.low))
    part_raised {best'} e' = go (dec_le (8 * p) (r.end - r.low))
      where
        go : Dec (8 * p ≤ r.end - r.low) → best' ≡ raised_to best₀ r.low (λ i. k (r.low + i)) (min (8 * (p + 1)) (r.end - r.low))
        go (yes h) =
            let before : min (8 * p) (r.end - r.low) ≡ 8 * p = omega arith in
            let here : q.end - q.low ≡ min 8 (r.end - (r.low + 8 * p)) = omega arith in
            let all = part_end r.low r.end p h in
            e'
            ∙ ap₂ (λ (x y : ℕ). raised_to best x (λ i. k (x + i)) y) low_is here
            ∙ ap (λ (xs : List ℕ). raised_to xs (r.low + 8 * p) (λ i. k (r.low + 8 * p + i)) (min 8 (r.end - (r.low + 8 * p))))
            (e ∙ ap (λ (x : ℕ). raised_to best₀ r.low (λ i. k (r.low + i)) x) before)
            ∙ raised_join k best₀ r.low (8 * p) (min 8 (r.end - (r.low + 8 * p)))
            ∙ ap (λ (x : ℕ). raised_to best₀ r.low (λ i. k (r.low + i)) x) all
        go (no h) =
            let here : q.end - q.low ≡ 0 = omega arith in
            let same : min (8 * p) (r.end - r.low) ≡ min (8 * (p + 1)) (r.end - r.low) = omega arith in
            e'
            ∙ raised_none best q.low (λ i. k (q.low + i)) here
            ∙ e
            ∙ ap (λ (x : ℕ). raised_to best₀ r.low (λ i. k (r.low + i)) x) same

    -- its states are as they were
    pub part_bounded : {work : List ℕ} {d : Date} {s : Block} {bounds : List ℕ} → Bounds work d s (λ j. get_or best₀ j 0) r bounds → p < 4
        → q.bound ≡ get_or bounds p 0 → Bounded work d s (λ j. get_or best j 0) q
    part_bounded {bounds = bounds} b h bound_is = record {
      rises = λ some. b.rises p h (omega arith);
      each = λ j l m.
          le_trans (le_of_eq bound_is) (le_trans (b.each p j h (omega arith) (omega arith) (omega arith))
          (le_of_eq (sym (ap (λ (xs : List ℕ). get_or xs j 0) e ∙ stored_out best₀ r.low _ _ j (inr (omega arith))))));
    }

pub part_running : {d : Date} {s : Block} {r q : Run} (p : ℕ) → Running d s r → q.low ≡ r.low + 8 * p
    → q.end ≡ min r.end (r.low + 8 * p + 8) → Running d s q
part_running p x low_is end_is = record {
  within = omega (arith, x.within);
  above = omega (arith, x.above);
  level_is = x.level_is;
}
