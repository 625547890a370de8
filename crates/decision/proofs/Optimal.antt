-- No strategy that keeps to a rule earns more than the value under it, and to follow the recorded amounts earns exactly the
-- value; a rule that admits more never has a smaller value. Assumes nothing.
use mathlib.Core.List.{List, [], ◌∷◌, ◌++◌}
use Rattle.std.specs.Prelude.{◌≡◌, length}
use Rattle.std.proofs.Math.Path.{refl, ap, sym, subst}
use Rattle.std.proofs.Common.{◌∙◌, le_of_eq, le_antisymm}
use Prim.Native.Nat.{ℕ, zero, suc, ◌+◌, ◌≤◌, ◌<◌}
use Rattle.std.proofs.Math.Nat.{le_trans, le_refl, add-le-add, sub_self}
use native.Mathlib.Omega.{arith}
use Rattle.std.proofs.Math.Dec.{T}
use Rattle.std.proofs.Math.ListN.{length-append}
use Rattle.decision.specs.Choice.{largest, smallest_best, Best}
use Rattle.decision.proofs.Choice.{le_largest, best_is, best_unique}
use Rattle.decision.specs.Process.{Process, Rule, Strategy, Table, reached, worth, value_over, table_over, left, value}
use Rattle.decision.specs.Process.{recorded, table_value, start_value, start_table_value, earned_over, KeepsOver, earned, Keeps}
use Rattle.decision.specs.Process.{start_earned, StartKeeps, met, start_met, follow, start_follow, Decides, Attained, Averaging}
use Rattle.decision.specs.Process.{Open, Closed}

module _ {S H : Type 0} (P : Process S H) where
  -- ---- the values of a date, by those of the next
  pub value_last : (r : Rule S) (s : S) → value P r P.dates s ≡ P.final s
  unfolding value value_over
  value_last r s = rw (sub_self P.dates)

  pub value_step : (r : Rule S) (i : ℕ) (s : S) → i < P.dates
      → value P r i s ≡ largest (r s) (worth P (value P r (suc i)) i s) (P.limit s)
  unfolding value value_over
  value_step r i s l = let e : left P i ≡ suc (left P (suc i)) = omega arith in rw e

  pub table_last : (d : Table S) (s : S) → table_value P d P.dates s ≡ P.final s
  unfolding table_value table_over
  table_last d s = rw (sub_self P.dates)

  pub table_step : (d : Table S) (i : ℕ) (s : S) → i < P.dates → table_value P d i s ≡ worth P (table_value P d (suc i)) i s (d i s)
  unfolding table_value table_over
  table_step d i s l = let e : left P i ≡ suc (left P (suc i)) = omega arith in rw e

  -- the recorded amount and the value are best ..
  pub recorded_best : (r : Rule S) → Open P r → (i : ℕ) (s : S) → i < P.dates
      → Best (r s) (worth P (value P r (suc i)) i s) (P.limit s) (recorded P r i s) (value P r i s)
  unfolding recorded
  recorded_best r o i s l =
      rw (value_step r i s l)
      (best_is (r s) (worth P (value P r (suc i)) i s) (P.limit s) (o.some s) (o.within s _ (o.admissible s)) (o.admissible s))

  -- .. so an amount and a value that were found to be best are the recorded amount and the value
  pub found : (r : Rule S) → Open P r → (i : ℕ) (s : S) (c v : ℕ) → i < P.dates
      → Best (r s) (worth P (value P r (suc i)) i s) (P.limit s) c v → (recorded P r i s ≡ c) × (value P r i s ≡ v)
  found r o i s c v l b = best_unique (recorded_best r o i s l) b

  -- ---- the value reached, by the value of the state
  reached_le : (v w : S → ℕ) (h : H) (k : ℕ) → v (P.reach h k) ≤ w (P.reach h k) → reached P v h k ≤ reached P w h k
  unfolding reached
  reached_le v w h k l = add-le-add (le_refl _) l

  reached_eq : (v w : S → ℕ) (h : H) (k : ℕ) → v (P.reach h k) ≡ w (P.reach h k) → reached P v h k ≡ reached P w h k
  unfolding reached
  reached_eq v w h k e = ap (λ (x : ℕ). P.paid h k + x) e

  -- ---- the states met where a table is followed
  module _ (d : Table S) where
    -- `at` is the state met after each history; a history of date i has i - b return numbers
    unfoldable pub Steps : ℕ → (List ℕ → S) → Type 0
    Steps b at =
        (i k : ℕ) (p : List ℕ) → 1 ≤ i → i ≡ b + length p → at (p ++ (k ∷ [])) ≡ P.reach (P.after i (at p) (d i (at p))) k

    -- the histories that start empty in a state, and those that start with the first return's number
    met_step : (i₀ : ℕ) (s₀ : S) (i k : ℕ) (p : List ℕ) → i ≡ i₀ + length p
        → met P d i₀ s₀ (p ++ (k ∷ [])) ≡ P.reach (P.after i (met P d i₀ s₀ p) (d i (met P d i₀ s₀ p))) k
    unfolding met
    met_step i₀ s₀ i k [] e = let z : i₀ ≡ i = omega arith in ap (λ (j : ℕ). P.reach (P.after j s₀ (d j s₀)) k) z
    met_step i₀ s₀ i k (x ∷ p) e = met_step (suc i₀) _ i k p (omega arith)

    met_steps : (i : ℕ) (s : S) → Steps i (met P d i s)
    unfolding Steps
    met_steps i s j k p l e = met_step i s j k p e

    pub start_met_steps : Steps 0 (start_met P d)
    unfolding Steps start_met
    start_met_steps i k [] l e = absurd (omega arith)
    start_met_steps i k (x ∷ p) l e = met_step 1 _ i k p (omega arith)

  module _ (av : Averaging P) where
    -- ---- what is expected and the mean, by the values reached
    pub by_list_eq : (i : ℕ) (h : H) (v w : ℕ → ℕ) → ((k : ℕ) → k < P.returns → v k ≡ w k) → P.by_list i h v ≡ P.by_list i h w
    by_list_eq i h v w e = le_antisymm (av.rises i h v w (λ k l. le_of_eq (e k l))) (av.rises i h w v (λ k l. le_of_eq (sym (e k l))))

    by_list_at_most : (i : ℕ) (h : H) (x : ℕ → ℕ) (v : S → ℕ) → ((k : ℕ) → k < P.returns → x k ≤ reached P v h k)
        → P.by_list i h x ≤ P.by_state i h v
    by_list_at_most i h x v l = le_trans (av.rises i h x _ l) (le_of_eq (sym (av.listed i h v)))

    mean_le : (i : ℕ) (h : H) (v w : S → ℕ) → ((k : ℕ) → k < P.returns → v (P.reach h k) ≤ w (P.reach h k))
        → P.by_state i h v ≤ P.by_state i h w
    mean_le i h v w l = le_trans (le_of_eq (av.listed i h v)) (by_list_at_most i h _ w (λ k m. reached_le v w h k (l k m)))

    mean_eq : (i : ℕ) (h : H) (v w : S → ℕ) → ((k : ℕ) → k < P.returns → v (P.reach h k) ≡ w (P.reach h k))
        → P.by_state i h v ≡ P.by_state i h w
    mean_eq i h v w e = le_antisymm (mean_le i h v w (λ k l. le_of_eq (e k l))) (mean_le i h w v (λ k l. le_of_eq (sym (e k l))))

    worth_le : (v w : S → ℕ) (i : ℕ) (s : S) (t : ℕ) → ((x : S) → v x ≤ w x) → worth P v i s t ≤ worth P w i s t
    unfolding worth
    worth_le v w i s t h = add-le-add (le_refl _) (mean_le i _ v w (λ k l. h _))

    -- ---- no strategy earns more
    earned_most : (r : Rule S) → Open P r → (σ : Strategy) (n i : ℕ) (p : List ℕ) (s : S)
        → KeepsOver P r σ n i p s → earned_over P σ n i p s ≤ value_over P r n i s
    unfolding earned_over value_over KeepsOver worth
    earned_most r o σ zero i p s k = le_refl _
    earned_most r o σ (suc n) i p s k =
        le_trans
        (add-le-add (le_refl _)
        (by_list_at_most i _ _ _ (λ j l. reached_le _ _ _ j (earned_most r o σ n (suc i) (p ++ (j ∷ [])) _ (k.1 j l)))))
        (le_largest (r s) (worth P (λ x. value_over P r n (suc i) x) i s) (P.limit s) (σ i p) (o.within s _ k.0) k.0)

    -- ---- what admits more is never worth less
    module _ (a b : Rule S) (oa : Open P a) (ob : Open P b) (more : (s : S) (t : ℕ) → T (a s t) → T (b s t)) where
      over_wider : (n i : ℕ) (s : S) → value_over P a n i s ≤ value_over P b n i s
      unfolding value_over
      over_wider zero i s = le_refl _
      over_wider (suc n) i s =
          let v : S → ℕ = λ x. value_over P a n (suc i) x in
          let w : S → ℕ = λ x. value_over P b n (suc i) x in
          let x = best_is (a s) (worth P v i s) (P.limit s) (oa.some s) (oa.within s _ (oa.admissible s)) (oa.admissible s) in
          let t = smallest_best (a s) (worth P v i s) (P.limit s) in
          le_trans (le_of_eq (sym x.worth))
          (le_trans (worth_le v w i s t (λ y. over_wider n (suc i) y))
          (le_largest (b s) (worth P w i s) (P.limit s) t x.within (more s t x.passes)))

      pub wider : (i : ℕ) (s : S) → value P a i s ≤ value P b i s
      unfolding value
      wider i s = over_wider (left P i) i s

      pub start_wider : start_value P a ≤ start_value P b
      unfolding start_value
      start_wider = mean_le 0 _ _ _ (λ k l. wider 1 _)

    -- ---- to follow a table earns the table's value and keeps to a rule that its entries keep to
    module _ (d : Table S) where
      earns : (b : ℕ) (at : List ℕ → S) → Steps d b at → (n i : ℕ) (p : List ℕ) (s : S) → 1 ≤ i → i ≡ b + length p → at p ≡ s
          → earned_over P (λ j q. d j (at q)) n i p s ≡ table_over P d n i s
      unfolding earned_over table_over worth Steps
      earns b at steps zero i p s l e m = refl
      earns b at steps (suc n) i p s l e m =
          ap (λ (x : S). P.cash i s (d i x) + P.by_list i (P.after i s (d i x)) (λ k.
          reached P (earned_over P (λ j q. d j (at q)) n (suc i) (p ++ (k ∷ []))) (P.after i s (d i x)) k)) m
          ∙ ap (λ (x : ℕ). P.cash i s (d i s) + x)
          (by_list_eq i _ _ _ (λ k f. reached_eq _ _ _ k
          (earns b at steps n (suc i) (p ++ (k ∷ [])) _ (omega arith) (simp length-append (omega arith))
          (steps i k p l e ∙ ap (λ (x : S). P.reach (P.after i x (d i x)) k) m)))
          ∙ sym (av.listed i _ _))

      pub start_table_earned : start_earned P (start_follow P d) ≡ start_table_value P d
      unfolding start_earned start_follow start_table_value table_value start_met met
      start_table_earned =
          by_list_eq 0 _ _ _ (λ k l. reached_eq _ _ _ k
          (earns 0 (start_met P d) (start_met_steps d) (left P 1) 1 (k ∷ []) _ (le_refl 1) refl refl))
          ∙ sym (av.listed 0 _ _)

      pub table_earned : (i : ℕ) (s : S) → 1 ≤ i → earned P (follow P d i s) i s ≡ table_value P d i s
      unfolding earned follow table_value met
      table_earned i s l = earns i (met P d i s) (met_steps d i s) (left P i) i [] s l (omega arith) refl

      module _ (r : Rule S) (InRange : S → Type 0) (c : Closed P r InRange)
          (admits : (i : ℕ) (s : S) → Decides P InRange i s → T (r s (d i s)))
        where
          keeps : (b : ℕ) (at : List ℕ → S) → Steps d b at → (n i : ℕ) (p : List ℕ) (s : S) → 1 ≤ i → i + n ≡ P.dates → InRange s
              → i ≡ b + length p → at p ≡ s → KeepsOver P r (λ j q. d j (at q)) n i p s
          unfolding KeepsOver Steps
          keeps b at steps zero i p s l e g h m = tt
          keeps b at steps (suc n) i p s l e g h m =
              let a = admits i s (record { from = l; before = omega arith; range = g }) in
              let t : T (r s (d i (at p))) = subst (λ (x : S). T (r s (d i x))) (sym m) a in (
                t,
                λ k f. keeps b at steps n (suc i) (p ++ (k ∷ [])) _ (omega arith) (omega arith) (c.stays i s _ k g t f)
                    (simp length-append (omega arith)) (steps i k p l h ∙ ap (λ (x : S). P.reach (P.after i x (d i (at p))) k) m),
              )

          pub start_table_kept : 1 ≤ P.dates → StartKeeps P r (start_follow P d)
          unfolding StartKeeps start_follow start_met met
          start_table_kept one k l =
              keeps 0 (start_met P d) (start_met_steps d) (left P 1) 1 (k ∷ []) _ (le_refl 1) (omega arith) (c.starts k l) refl refl

          pub table_kept : (i : ℕ) (s : S) → Decides P InRange i s → Keeps P r (follow P d i s) i s
          unfolding Keeps follow met
          table_kept i s g =
              keeps i (met P d i s) (met_steps d i s) (left P i) i [] s g.from (omega (arith, g.before)) g.range (omega arith) refl

    -- ---- a table that holds the recorded amounts in every state in range of every decision date
    module _ (r : Rule S) (o : Open P r) (InRange : S → Type 0) (c : Closed P r InRange) (d : Table S)
        (filled : (i : ℕ) (s : S) → Decides P InRange i s → d i s ≡ recorded P r i s)
      where
        admits : (i : ℕ) (s : S) → Decides P InRange i s → T (r s (d i s))
        admits i s g = subst (λ (t : ℕ). T (r s t)) (sym (filled i s g)) (recorded_best r o i s g.before).passes

        filled_value : (n i : ℕ) (s : S) → 1 ≤ i → i + n ≡ P.dates → InRange s → table_value P d i s ≡ value P r i s
        unfolding worth
        filled_value zero i s l e g =
            let z : i ≡ P.dates = omega arith in
            rw z (table_last d s ∙ sym (value_last r s))
        filled_value (suc n) i s l e g =
            let q : Decides P InRange i s = record { from = l; before = omega arith; range = g } in
            table_step d i s q.before
            ∙ ap (λ (x : ℕ). P.cash i s (d i s) + x) (mean_eq i _ _ _ (λ k f.
            filled_value n (suc i) _ (omega arith) (omega arith) (c.stays i s _ k g (admits i s q) f)))
            ∙ ap (worth P (value P r (suc i)) i s) (filled i s q)
            ∙ (recorded_best r o i s q.before).worth

        pub start_filled : 1 ≤ P.dates → start_table_value P d ≡ start_value P r
        unfolding start_table_value start_value
        start_filled one =
            mean_eq 0 _ _ _ (λ k l. filled_value (left P 1) 1 _ (le_refl 1) (omega arith) (c.starts k l))

        -- the whole claim
        pub attained : 1 ≤ P.dates → Attained P r InRange d
        unfolding start_earned StartKeeps start_value earned Keeps value
        attained one = record {
          start_most = λ σ k. by_list_at_most 0 _ _ _ (λ j l. reached_le _ _ _ j (earned_most r o σ (left P 1) 1 (j ∷ []) _ (k j l)));
          start_kept = start_table_kept d r InRange c admits one;
          start_earned_lem = start_table_earned d ∙ start_filled one;
          most = λ σ i s g k. earned_most r o σ (left P i) i [] s k;
          kept = table_kept d r InRange c admits;
          followed = λ i s g. table_earned d i s g.from ∙ filled_value (left P i) i s g.from (omega (arith, g.before)) g.range;
        }
