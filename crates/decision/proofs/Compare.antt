-- When one process is never worth more than another: states and what is held are related, and every choice in the one has an
-- answer in the other that pays as much and keeps them related. Assumes nothing.
use Rattle.std.specs.Prelude.{◌≡◌, T}
use Rattle.std.proofs.Common.{sym, le_of_eq}
use Rattle.std.proofs.Math.Path.{subst}
use Prim.Native.Nat.{ℕ, zero, suc, ◌-◌, ◌≤◌}
use Rattle.std.proofs.Math.Nat.{le_trans, add-le-add}
use Rattle.decision.specs.Choice.{smallest_best}
use Rattle.decision.proofs.Choice.{best_is, le_largest}
use Rattle.decision.specs.Process.{Process, Rule, reached, worth, value_over, left, value, start_value, Averaging, Open}

module _ {S H : Type 0} (P Q : Process S H) (a b : Rule S) where
  -- the first state and the first held are P's, the second Q's
  pub record Matched (Below : S → S → Type 0) (Less : H → H → Type 0) : Type 0 where
    pub dates : P.dates ≡ Q.dates
    pub starts : Less P.start Q.start
    pub final : (s u : S) → Below s u → P.final s ≤ Q.final u
    pub answer : S → S → ℕ → ℕ
    pub admitted : (s u : S) (t : ℕ) → Below s u → T (a s t) → T (b u (answer s u t))
    pub cash : (i : ℕ) (s u : S) (t : ℕ) → Below s u → T (a s t) → P.cash i s t ≤ Q.cash i u (answer s u t)
    pub after : (i : ℕ) (s u : S) (t : ℕ) → Below s u → T (a s t) → Less (P.after i s t) (Q.after i u (answer s u t))
    pub reach : (h g : H) (k : ℕ) → Less h g → Below (P.reach h k) (Q.reach g k)
    pub paid : (h g : H) (k : ℕ) → Less h g → P.paid h k ≤ Q.paid g k
    pub by_list : (i : ℕ) (h g : H) (v w : ℕ → ℕ) → Less h g → ((k : ℕ) → v k ≤ w k) → P.by_list i h v ≤ Q.by_list i g w

  module _ {Below : S → S → Type 0} {Less : H → H → Type 0} (x : Matched Below Less) (av : Averaging P) (aw : Averaging Q)
      (oa : Open P a) (ob : Open Q b)
    where
      mean_less : (v w : S → ℕ) → ((s u : S) → Below s u → v s ≤ w u) → (i : ℕ) (h g : H) → Less h g → P.by_state i h v ≤ Q.by_state i g w
      unfolding reached
      mean_less v w less i h g l =
          le_trans (le_of_eq (av.listed i h v))
          (le_trans (x.by_list i h g _ _ l (λ k. add-le-add (x.paid h g k l) (less _ _ (x.reach h g k l))))
          (le_of_eq (sym (aw.listed i g w))))

      over_less : (n i : ℕ) (s u : S) → Below s u → value_over P a n i s ≤ value_over Q b n i u
      unfolding value_over worth
      over_less zero i s u l = x.final s u l
      over_less (suc n) i s u l =
          let v : S → ℕ = λ y. value_over P a n (suc i) y in
          let w : S → ℕ = λ y. value_over Q b n (suc i) y in
          let best = best_is (a s) (worth P v i s) (P.limit s) (oa.some s) (oa.within s _ (oa.admissible s)) (oa.admissible s) in
          let t = smallest_best (a s) (worth P v i s) (P.limit s) in
          let ok = x.admitted s u t l best.passes in
          le_trans (le_of_eq (sym best.worth))
          (le_trans
          (add-le-add (x.cash i s u t l best.passes) (mean_less v w (over_less n (suc i)) i _ _ (x.after i s u t l best.passes)))
          (le_largest (b u) (worth Q w i u) (Q.limit u) (x.answer s u t) (ob.within u _ ok) ok))

      -- from related states of a date, and from the start
      pub value_less : (i : ℕ) (s u : S) → Below s u → value P a i s ≤ value Q b i u
      unfolding value
      value_less i s u l =
          subst (λ (n : ℕ). value_over P a (left P i) i s ≤ value_over Q b (n - i) i u) x.dates (over_less (left P i) i s u l)

      pub start_less : start_value P a ≤ start_value Q b
      unfolding start_value
      start_less = mean_less (value P a 1) (value Q b 1) (value_less 1) 0 _ _ x.starts
