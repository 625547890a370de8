-- One amount more of a run: from the amounts up to m to all of them. Assumes nothing.
use Rattle.std.proofs.Common.{◌≡◌, ℕ, ◌+◌, ◌-◌, ◌<◌, ◌≤◌, min, max, ◌⊎◌, List, get_or, sym, ap, ◌∙◌, inl, inr, le_trans, le_of_eq, arith}
use Rattle.rules.specs.Date.{free_amount}
use Rattle.laws.specs.Date.{free_level}
use Rattle.keys.specs.declared.Block.{Block}
use Rattle.keys.specs.declared.Date.{Date}
use Rattle.keys.specs.Most.{most, most_le, most_next}
use Rattle.keys.specs.Sums.{Span}
use Rattle.proportion.specs.declared.Run.{Run}
use Rattle.proportion.specs.declared.Way.{Way}
use Rattle.proportion.specs.Held.{Held, raised_to, free_of, key_at, tried_below}
use Rattle.proportion.specs.Share.{Leading, Running, tried_run}
use Rattle.proportion.specs.Offers.{offered}
use Rattle.proportion.proofs.Share.{way_few}
use Rattle.proportion.specs.Tried.{below_free}
use Rattle.proportion.proofs.Runs.{run_in, run_out}

-- a state whose guarantee is above the account withdraws the level without penalty
pub level_free : (d : Date) (s : Block) (low : ℕ) → s.w < s.from + low → d.level < s.w → (j : ℕ) → low ≤ j
    → free_of d s j ≡ d.level
level_free d s low above level j h = free_level d.level (s.from + j) (omega arith)

module _ {work : List ℕ} {d : Date} {s : Block} (b : Span work d s) {r : Run} (x : Running d s r) (some : r.low < r.end) where
  abbrev keys : ℕ → ℕ → ℕ
  keys = key_at work d s

  abbrev tried : ℕ → ℕ → ℕ
  tried t = tried_run d s r.low r.end t

  within : (t i : ℕ) → i < r.end - r.low → tried t (r.low + i) ≡ t
  within t i l = run_in d s r.low r.end t (r.low + i) (omega arith) (omega arith)

  pub amount_tried : {to : Way} {best best' : List ℕ} → Leading d s to → Held keys best s.n (tried to.t)
      → best' ≡ raised_to best r.low (λ i. keys (r.low + i) to.t) (r.end - r.low) → Held keys best' s.n (tried (to.t + 1))
  amount_tried {to} way h e =
      offered (tried (to.t + 1)) _ h e b.short (omega (arith, x.within)) (way_few b way x some) joins else
    where
      joins : (i : ℕ) → i < r.end - r.low → max (most (keys (r.low + i)) (tried to.t (r.low + i))) (keys (r.low + i) to.t)
          ≡ most (keys (r.low + i)) (tried (to.t + 1) (r.low + i))
      joins i l =
          ap (λ (y : ℕ). max (most (keys (r.low + i)) y) (keys (r.low + i) to.t)) (within to.t i l)
          ∙ most_next (keys (r.low + i)) to.t
          ∙ ap (most (keys (r.low + i))) (sym (within (to.t + 1) i l))

      else : (j : ℕ) → (j < r.low) ⊎ (r.low + (r.end - r.low) ≤ j) → j < s.n → tried to.t j ≡ tried (to.t + 1) j
      else j (inl l) k = run_out d s r.low r.end to.t (to.t + 1) j (omega arith) (inl l)
      else j (inr l) k = run_out d s r.low r.end to.t (to.t + 1) j (omega arith) (inr (omega arith))

  -- what its states hold at first stays a bound
  pub held_more : {best best₀ : List ℕ} {t : ℕ} → Held keys best₀ s.n (tried_below d s r.low) → Held keys best s.n (tried t)
      → d.level < t → (j : ℕ) → r.low ≤ j → j < r.end → get_or best₀ j 0 ≤ get_or best j 0
  held_more {t = t} h₀ h more j p l =
      le_trans (le_of_eq (h₀.each j (omega (arith, x.within)) ∙ ap (most (keys j)) (below_free d s r.low j p)))
      (le_trans (most_le (keys j) _ t (omega (arith, level_free d s r.low x.above x.level_is j p)))
      (le_of_eq (sym (h.each j (omega (arith, x.within)) ∙ ap (most (keys j)) (run_in d s r.low r.end t j p l)))))

-- the states from the first one whose guarantee is above the account
pub above_from : (n w from low : ℕ) → min n (w + 1 - from) ≤ low → low < n → w < from + low
above_from n w from low h l = omega arith

-- .. have nothing above m where m is not below the account
pub none_above : (n level w from j : ℕ) → min n (w + 1 - from) ≤ j → j < n → w ≤ level → w ≤ free_amount level (from + j)
unfolding free_amount
none_above n level w from j h l k = let a = above_from n w from j h l in omega arith
