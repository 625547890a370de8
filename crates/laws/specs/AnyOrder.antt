-- The order of the returns changes no value and no recorded amount. Assumes nothing.
use Rattle.std.specs.Prelude.{cond, ◌&&◌, ◌≡◌, ℕ, eqb}
use Rattle.decision.specs.Index.{sum}
use Rattle.rules.specs.Contract.{Returns}

-- how many returns have this factor and this weight
unfoldable pub standing : Returns → ℕ → ℕ → ℕ
standing rs factor weight = sum (λ k. cond (eqb (rs.factor k) factor && eqb (rs.weight k) weight) 1 0) rs.count

-- THE SAME RETURNS IN ANOTHER ORDER: every factor with every weight stands in both as often
pub record Reordered (rs us : Returns) : Type 0 where
  pub each : (factor weight : ℕ) → standing rs factor weight ≡ standing us factor weight

-- any sum over them, by factor and weight
abbrev pub over : Returns → (ℕ → ℕ → ℕ) → ℕ
over rs g = sum (λ k. g (rs.factor k) (rs.weight k)) rs.count
