-- The values of a process hang on its means, not on how they are summed. Assumes nothing.
use Rattle.std.specs.Prelude.{◌≡◌}
use Prim.Native.Nat.{ℕ}
use Rattle.decision.specs.Process.{Process, reached}

-- the process with another mean, and the same in all else
abbrev pub averaging : {S H : Type 0} → (ℕ → H → (S → ℕ) → ℕ) → Process S H → Process S H
averaging means P = record {
  dates = P.dates;
  start = P.start;
  returns = P.returns;
  limit = P.limit;
  cash = P.cash;
  after = P.after;
  reach = P.reach;
  paid = P.paid;
  by_list = P.by_list;
  by_state = means;
  final = P.final;
}

-- .. which sums return by return, in the order of their numbers
abbrev pub listed : {S H : Type 0} → Process S H → Process S H
listed P = averaging (λ i h v. P.by_list i h (reached P v h)) P

-- ---- processes that decide alike and have the same means of equal values, whatever their returns, on all that they come to:
-- the states in range and what is held from there
pub record SameMeans {S H : Type 0} (P Q : Process S H) (InRange : S → Type 0) (Holds : H → Type 0) : Type 0 where
  pub dates : P.dates ≡ Q.dates
  pub start : P.start ≡ Q.start
  pub limit : (s : S) → P.limit s ≡ Q.limit s
  pub cash : (i : ℕ) (s : S) (t : ℕ) → P.cash i s t ≡ Q.cash i s t
  pub after : (i : ℕ) (s : S) (t : ℕ) → P.after i s t ≡ Q.after i s t
  pub final : (s : S) → P.final s ≡ Q.final s
  pub starts : Holds P.start
  pub holds : (i : ℕ) (s : S) (t : ℕ) → InRange s → Holds (P.after i s t)
  pub by_state : (i : ℕ) (h : H) (v w : S → ℕ) → Holds h → ((s : S) → InRange s → v s ≡ w s) → P.by_state i h v ≡ Q.by_state i h w
