-- How large a value can be: the largest final value, and for each decision to come the most that it pays, with what is paid on
-- arrival after it. The mean of values is at most what none of them passes, if that is no less than a final value with what
-- is paid on arrival. Assumes nothing.
use Rattle.std.specs.Prelude.{◌≡◌, T}
use Rattle.std.proofs.Common.{sym, le_of_eq, le_refl}
use Prim.Native.Nat.{ℕ, zero, suc, ◌+◌, ◌-◌, ◌*◌, ◌≤◌, ◌<◌}
use Rattle.std.proofs.Math.Nat.{le_trans, add-le-add}
use native.Mathlib.Omega.{arith}
use Rattle.decision.specs.Choice.{smallest_best}
use Rattle.decision.proofs.Choice.{best_is}
use Rattle.decision.specs.Process.{Process, Rule, Table, reached, worth, value_over, table_over, left, value, table_value}
use Rattle.decision.specs.Process.{start_value, start_table_value, Decides, Open, Closed}

module _ {S H : Type 0} (P : Process S H) (r : Rule S) (o : Open P r) (InRange : S → Type 0) (c : Closed P r InRange) (B C : ℕ)
    (ends : (s : S) → InRange s → P.final s ≤ B)
    (some : 0 < P.returns)
    (arrives : (i : ℕ) (s : S) (t k : ℕ) → InRange s → T (r s t) → k < P.returns → P.cash i s t + P.paid (P.after i s t) k ≤ C)
    (starts : (k : ℕ) → k < P.returns → P.paid P.start k ≤ C)
    (averages : (i : ℕ) (h : H) (v : S → ℕ) (x : ℕ) → ((k : ℕ) → k < P.returns → InRange (P.reach h k))
    → ((k : ℕ) → k < P.returns → P.paid h k + B ≤ x) → ((k : ℕ) → k < P.returns → reached P v h k ≤ x) → P.by_state i h v ≤ x)
  where
    -- a choice whose values reached are bounded
    worth_bounded : (v : S → ℕ) (x i : ℕ) (s : S) (t : ℕ) → B ≤ x → InRange s → T (r s t)
        → ((k : ℕ) → k < P.returns → v (P.reach (P.after i s t) k) ≤ x) → worth P v i s t ≤ x + C
    unfolding worth reached
    worth_bounded v x i s t b g a h =
        let most = arrives i s t 0 g a some in
        let mean = averages i (P.after i s t) v (x + C - P.cash i s t) (λ k l. c.stays i s t k g a l)
        (λ k l. let y = arrives i s t k g a l in omega arith)
        (λ k l. let y = arrives i s t k g a l in let z = h k l in omega arith) in
        omega arith

    over_bounded : (n i : ℕ) (s : S) → InRange s → value_over P r n i s ≤ B + n * C
    unfolding value_over
    over_bounded zero i s g = le_trans (ends s g) (omega arith)
    over_bounded (suc n) i s g =
        let v : S → ℕ = λ x. value_over P r n (suc i) x in
        let x = best_is (r s) (worth P v i s) (P.limit s) (o.some s) (o.within s _ (o.admissible s)) (o.admissible s) in
        let t = smallest_best (r s) (worth P v i s) (P.limit s) in
        le_trans (le_of_eq (sym x.worth))
        (le_trans
        (worth_bounded v (B + n * C) i s t (omega arith) g x.passes (λ k l.
        over_bounded n (suc i) _ (c.stays i s t k g x.passes l)))
        (omega arith))

    pub value_bounded : (i : ℕ) (s : S) → InRange s → value P r i s ≤ B + (P.dates - i) * C
    unfolding value
    value_bounded i s g = over_bounded (left P i) i s g

    -- from the start, with what the first return pays on arrival
    pub start_bounded : start_value P r ≤ C + (B + (P.dates - 1) * C)
    unfolding start_value reached
    start_bounded =
        averages 0 _ _ _ c.starts (λ k l. add-le-add (starts k l) (omega arith))
        (λ k l. add-le-add (starts k l) (value_bounded 1 _ (c.starts k l)))

    -- the same of a table whose entries keep to the rule
    module _ (d : Table S) (admits : (i : ℕ) (s : S) → Decides P InRange i s → T (r s (d i s))) where
      table_over_bounded : (n i : ℕ) (s : S) → 1 ≤ i → i + n ≡ P.dates → InRange s → table_over P d n i s ≤ B + n * C
      unfolding table_over
      table_over_bounded zero i s l e g = le_trans (ends s g) (omega arith)
      table_over_bounded (suc n) i s l e g =
          let a = admits i s (record { from = l; before = omega arith; range = g }) in
          le_trans
          (worth_bounded _ (B + n * C) i s (d i s) (omega arith) g a (λ k m.
          table_over_bounded n (suc i) _ (omega arith) (omega arith) (c.stays i s (d i s) k g a m)))
          (omega arith)

      pub table_bounded : (i : ℕ) (s : S) → 1 ≤ i → i ≤ P.dates → InRange s → table_value P d i s ≤ B + (P.dates - i) * C
      unfolding table_value
      table_bounded i s l m g = table_over_bounded (left P i) i s l (omega arith) g

      pub start_table_bounded : 1 ≤ P.dates → start_table_value P d ≤ C + (B + (P.dates - 1) * C)
      unfolding start_table_value reached
      start_table_bounded one =
          averages 0 _ _ _ c.starts (λ k l. add-le-add (starts k l) (omega arith))
          (λ k l. add-le-add (starts k l) (table_bounded 1 _ (le_refl 1) one (c.starts k l)))
