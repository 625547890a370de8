-- How many amounts were tried of each state while a run is tried. Assumes nothing.
use Rattle.std.proofs.Common.{◌≡◌, ℕ, ◌+◌, ◌<◌, ◌≤◌, max, ◌⊎◌, sym, ap, ◌∙◌, inl, inr, arith, le-ltb, lt-ltb}
use native.Mathlib.Nat.{max-eq_left}
use native.Mathlib.Decide.{dec_le}
use Rattle.keys.specs.declared.Date.{Date}
use Rattle.keys.specs.declared.Block.{Block}
use Rattle.proportion.specs.Held.{free_of, tried_below}
use Rattle.proportion.specs.Share.{tried_run}
use Rattle.proportion.specs.Tried.{below_all, below_free}

module _ (d : Date) (s : Block) where
  module _ (low end t : ℕ) where
    run_before : (j : ℕ) → j < low → tried_run d s low end t j ≡ max s.w (free_of d s j) + 1
    run_before j h = rw (lt-ltb j low h)

    pub run_in : (j : ℕ) → low ≤ j → j < end → tried_run d s low end t j ≡ t
    run_in j h l = rw (le-ltb j low h, lt-ltb j end l)

    run_after : (j : ℕ) → low ≤ j → end ≤ j → tried_run d s low end t j ≡ free_of d s j + 1
    run_after j h l = rw (le-ltb j low h, le-ltb j end l)

  -- outside it all is as it was
  pub run_out : (low end t u j : ℕ) → low ≤ end → (j < low) ⊎ (end ≤ j) → tried_run d s low end t j ≡ tried_run d s low end u j
  run_out low end t u j h (inl l) = run_before low end t j l ∙ sym (run_before low end u j l)
  run_out low end t u j h (inr l) = run_after low end t j (omega arith) l ∙ sym (run_after low end u j (omega arith) l)

  -- it begins with the amounts up to m, and ends with all of them
  pub run_start : (low end m j : ℕ) → (low ≤ j → free_of d s j ≡ m) → tried_below d s low j ≡ tried_run d s low end (m + 1) j
  run_start low end m j same = go (dec_le low j) (dec_le end j)
    where
      go : Dec (low ≤ j) → Dec (end ≤ j) → tried_below d s low j ≡ tried_run d s low end (m + 1) j
      go (no p) q = below_all d s low j (omega arith) ∙ sym (run_before low end (m + 1) j (omega arith))
      go (yes p) (no q) =
          below_free d s low j p ∙ ap (λ (z : ℕ). z + 1) (same p) ∙ sym (run_in low end (m + 1) j p (omega arith))
      go (yes p) (yes q) = below_free d s low j p ∙ sym (run_after low end (m + 1) j p q)

  pub run_end : (low end j : ℕ) → low ≤ end → (low ≤ j → free_of d s j ≤ s.w) → tried_run d s low end (s.w + 1) j ≡ tried_below d s end j
  run_end low end j h small = go (dec_le low j) (dec_le end j)
    where
      go : Dec (low ≤ j) → Dec (end ≤ j) → tried_run d s low end (s.w + 1) j ≡ tried_below d s end j
      go (no p) q = run_before low end (s.w + 1) j (omega arith) ∙ sym (below_all d s end j (omega arith))
      go (yes p) (no q) =
          run_in low end (s.w + 1) j p (omega arith)
          ∙ ap (λ (z : ℕ). z + 1) (sym (max-eq_left (small p)))
          ∙ sym (below_all d s end j (omega arith))
      go (yes p) (yes q) = run_after low end (s.w + 1) j p q ∙ sym (below_free d s end j q)
