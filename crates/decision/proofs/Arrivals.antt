-- A process that pays otherwise on arrival, but the same wherever it comes, has the same means, and so the same values and amounts;
-- the states met are the same. Assumes nothing.
use mathlib.Core.List.{List, [], ◌∷◌}
use Rattle.std.specs.Prelude.{◌≡◌, ℕ, suc, ◌+◌, ◌<◌}
use Rattle.std.proofs.Math.Path.{refl}
use Rattle.std.proofs.Common.{ap₂, ◌∙◌}
use Rattle.decision.specs.Process.{Process, Table, reached, met, start_met, Averaging}
use Rattle.decision.proofs.Optimal.{by_list_eq}
use Rattle.decision.specs.Means.{SameMeans}

-- the process that pays otherwise on arrival and is the same in all else
abbrev pub arriving : {S H : Type 0} → (H → ℕ → ℕ) → Process S H → Process S H
arriving pays P = record {
  dates = P.dates;
  start = P.start;
  returns = P.returns;
  limit = P.limit;
  cash = P.cash;
  after = P.after;
  reach = P.reach;
  paid = pays;
  by_list = P.by_list;
  by_state = λ i h v. P.by_list i h (λ k. pays h k + v (P.reach h k));
  final = P.final;
}

-- the states and what is held that the process comes to, whatever is withdrawn; there it pays the same
pub record Alike {S H : Type 0} (P : Process S H) (pays : H → ℕ → ℕ) (InRange : S → Type 0) (Holds : H → Type 0) : Type 0 where
  pub starts : Holds P.start
  pub holds : (i : ℕ) (s : S) (t : ℕ) → InRange s → Holds (P.after i s t)
  pub stays : (h : H) (k : ℕ) → k < P.returns → Holds h → InRange (P.reach h k)
  pub same : (h : H) (k : ℕ) → k < P.returns → Holds h → P.paid h k ≡ pays h k

pub arriving_means : {S H : Type 0} (P : Process S H) → Averaging P → (pays : H → ℕ → ℕ) {InRange : S → Type 0} {Holds : H → Type 0}
    → Alike P pays InRange Holds → SameMeans P (arriving pays P) InRange Holds
unfolding reached
arriving_means P av pays a = record {
  dates = refl;
  start = refl;
  limit = λ s. refl;
  cash = λ i s t. refl;
  after = λ i s t. refl;
  final = λ s. refl;
  starts = a.starts;
  holds = a.holds;
  by_state = λ i h v w g e.
      av.listed i h v ∙ by_list_eq P av i h _ _ (λ k l. ap₂ ◌+◌ (a.same h k l g) (e _ (a.stays h k l g)));
}

-- ---- the states met do not depend on what is paid
module _ {S H : Type 0} (P : Process S H) (pays : H → ℕ → ℕ) (d : Table S) where
  met_same : (i : ℕ) (s : S) (p : List ℕ) → met P d i s p ≡ met (arriving pays P) d i s p
  unfolding met
  met_same i s [] = refl
  met_same i s (k ∷ p) = met_same (suc i) _ p

  pub start_met_same : (p : List ℕ) → start_met P d p ≡ start_met (arriving pays P) d p
  unfolding start_met
  start_met_same [] = refl
  start_met_same (k ∷ p) = met_same 1 _ p
