-- How many amounts were tried of each state of a block. Assumes nothing.
use Rattle.std.specs.Prelude.{◌≡◌, ℕ, ◌+◌, ◌<◌, ◌≤◌, max}
use Rattle.std.proofs.Common.{ap, sym, ◌∙◌, arith, lt-ltb, le-ltb}
use Rattle.std.proofs.Math.Nat.{max-eq_right}
use Rattle.std.proofs.Math.Decide.{dec_le}
use Rattle.keys.specs.declared.Date.{Date}
use Rattle.keys.specs.declared.Block.{Block}
use Rattle.proportion.specs.Held.{free_of, tried_below}

module _ (d : Date) (s : Block) where
  pub below_all : (x j : ℕ) → j < x → tried_below d s x j ≡ max s.w (free_of d s j) + 1
  below_all x j h = rw (lt-ltb j x h)

  pub below_free : (x j : ℕ) → x ≤ j → tried_below d s x j ≡ free_of d s j + 1
  below_free x j h = rw (le-ltb j x h)

  -- states between that have no amount above m
  pub below_same : (x y j : ℕ) → x ≤ y → (x ≤ j → j < y → s.w ≤ free_of d s j) → tried_below d s x j ≡ tried_below d s y j
  below_same x y j h none = go (dec_le (j + 1) x) (dec_le (j + 1) y)
    where
      go : Dec (j + 1 ≤ x) → Dec (j + 1 ≤ y) → tried_below d s x j ≡ tried_below d s y j
      go (yes p) q = below_all x j (omega arith) ∙ sym (below_all y j (omega arith))
      go (no p) (no q) = below_free x j (omega arith) ∙ sym (below_free y j (omega arith))
      go (no p) (yes q) =
          below_free x j (omega arith)
          ∙ ap (λ (z : ℕ). z + 1) (sym (max-eq_right (none (omega arith) (omega arith))))
          ∙ sym (below_all y j (omega arith))
