-- The values of a process hang on its means, not on how they are summed. Assumes nothing.
use Rattle.std.specs.Prelude.{◌≡◌}
use Rattle.std.proofs.Math.Path.{ap, ap₂}
use Rattle.std.proofs.Common.{◌∙◌}
use Prim.Native.Nat.{ℕ, zero, suc, ◌+◌, ◌-◌}
use Rattle.decision.specs.Choice.{largest, smallest_best}
use Rattle.decision.proofs.Choice.{largest_eq, smallest_best_eq}
use Rattle.decision.specs.Process.{Process, Rule, Table, worth, value_over, table_over, left, value, recorded}
use Rattle.decision.specs.Process.{table_value, start_value, start_table_value}
use Rattle.decision.specs.Means.{SameMeans}

module _ {S H : Type 0} {P Q : Process S H} {InRange : S → Type 0} {Holds : H → Type 0} (x : SameMeans P Q InRange Holds) where
  worth_same : (v w : S → ℕ) → ((s : S) → InRange s → v s ≡ w s) → (i : ℕ) (s : S) (t : ℕ) → InRange s
      → worth P v i s t ≡ worth Q w i s t
  unfolding worth
  worth_same v w e i s t g =
      ap₂ ◌+◌ (x.cash i s t) (x.by_state i _ v w (x.holds i s t g) e ∙ ap (λ (h : H). Q.by_state i h w) (x.after i s t))

  start_mean : (v w : S → ℕ) → ((s : S) → InRange s → v s ≡ w s) → P.by_state 0 P.start v ≡ Q.by_state 0 Q.start w
  start_mean v w e = x.by_state 0 _ v w x.starts e ∙ ap (λ (h : H). Q.by_state 0 h w) x.start

  -- ---- values and amounts
  over_same : (r : Rule S) (n i : ℕ) (s : S) → InRange s → value_over P r n i s ≡ value_over Q r n i s
  unfolding value_over
  over_same r zero i s g = x.final s
  over_same r (suc n) i s g =
      largest_eq (r s) _ _ (P.limit s) (λ t l. worth_same _ _ (over_same r n (suc i)) i s t g) ∙ ap (largest (r s) _) (x.limit s)

  pub value_same : (r : Rule S) (i : ℕ) (s : S) → InRange s → value P r i s ≡ value Q r i s
  unfolding value
  value_same r i s g = over_same r (left P i) i s g ∙ ap (λ (n : ℕ). value_over Q r (n - i) i s) x.dates

  pub recorded_same : (r : Rule S) (i : ℕ) (s : S) → InRange s → recorded P r i s ≡ recorded Q r i s
  unfolding recorded
  recorded_same r i s g =
      smallest_best_eq (r s) _ _ (P.limit s) (λ t l. worth_same _ _ (value_same r (suc i)) i s t g)
      ∙ ap (smallest_best (r s) _) (x.limit s)

  pub start_same : (r : Rule S) → start_value P r ≡ start_value Q r
  unfolding start_value
  start_same r = start_mean _ _ (value_same r 1)

  -- ---- a table
  table_over_same : (d : Table S) (n i : ℕ) (s : S) → InRange s → table_over P d n i s ≡ table_over Q d n i s
  unfolding table_over
  table_over_same d zero i s g = x.final s
  table_over_same d (suc n) i s g = worth_same _ _ (table_over_same d n (suc i)) i s (d i s) g

  pub table_same : (d : Table S) (i : ℕ) (s : S) → InRange s → table_value P d i s ≡ table_value Q d i s
  unfolding table_value
  table_same d i s g = table_over_same d (left P i) i s g ∙ ap (λ (n : ℕ). table_over Q d (n - i) i s) x.dates

  pub start_table_same : (d : Table S) → start_table_value P d ≡ start_table_value Q d
  unfolding start_table_value
  start_table_same d = start_mean _ _ (table_same d 1)
