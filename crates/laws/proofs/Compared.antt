-- Two contracts compared: the one in a unit k times as fine, and with no larger fee, is worth at least k times as much. The fee alone
-- is k = 1 (laws/Fee), the unit alone one fee (actuary/Unit). Assumes nothing.
use Rattle.std.specs.Prelude.{◌≡◌, refl, ℕ, ◌*◌, ◌≤◌, ◌<◌}
use Rattle.std.proofs.Math.Path.{ap}
use Rattle.std.proofs.Common.{sym, ◌∙◌, subst, le_of_eq, sub-le}
use Rattle.std.proofs.Math.Nat.{le_refl, le_trans}
use Rattle.std.proofs.Math.Dec.{T}
use Rattle.decision.proofs.Units.{Matched, value_less, start_less}
use Rattle.rules.specs.Contract.{Terms, Returns, Rates, rate_most}
use Rattle.rules.specs.Date.{Behaviour, static, mixed, dynamic, free_amount, admits, rate_on, cash, guarantee_after}
use Rattle.rules.specs.Product.{state_value, contract_value}
use Rattle.rules.specs.FixedTerm.{State, Held, free_in, admissible_in, rate_in, cash_in, after_in, reach_by, paid_by, death_by}
use Rattle.rules.specs.FixedTerm.{mean_by_list}
use Rattle.rules.specs.FixedTerm.{held_by_list, process_of, fixed_term}
use Rattle.laws.specs.Date.{dynamic_is, static_mixed, share_mono}
use Rattle.laws.specs.FixedTerm.{mean_mono, averages, opened}
use Rattle.laws.specs.Terms.{with_fee}
use Rattle.laws.specs.Rising.{account_rises, excess_rises, excess_paid_rises, maturity_rises, death_rises, free_rises}
use Rattle.laws.specs.Rising.{dynamic_rises, cash_rises, balance_rises, guarantee_rises, answered, Answers, mixed_answers}
use Rattle.laws.specs.Rising.{static_answers}
use Rattle.laws.specs.Scaled.{account_scales, excess_scales, excess_paid_scales, maturity_scales, death_scales, share_scales}
use Rattle.laws.specs.Scaled.{mean_scales, free_scales, cash_scales, balance_scales, admits_scales, guarantee_scales}
use Rattle.laws.specs.Scaled.{mixed_guarantee_scales}
use Rattle.laws.specs.Compared.{Below, Covered, Less, covered_le, covered_same, held_in, in_units, state_in}

module _ (c : Terms) (rs : Returns) (ds : Rates) (small : c.penalty ≤ rate_most) {k : ℕ} (some : 0 < k) {low high : ℕ} (fees : low ≤ high)
  where
    -- the contract with the larger fee, and the one in the finer unit with the smaller
    abbrev coarse : Terms
    coarse = with_fee c high

    abbrev fine : Terms
    fine = in_units k (with_fee c low)

    -- ---- what no behaviour changes: arrivals, payments and means
    module _ (b : Behaviour) where
      arrives : (h g : Held) (j : ℕ) → Less b (held_in k h) g
          → k * (reach_by coarse rs h j).account ≤ (reach_by fine rs g j).account
      unfolding reach_by
      arrives h g j l =
          le_trans (account_scales k high c.top h.balance (rs.factor j))
          (account_rises (k * c.top) (rs.factor j) fees l.balance)

      reaches : (h g : Held) (j : ℕ) → Less b (held_in k h) g → Below b (state_in k (reach_by coarse rs h j)) (reach_by fine rs g j)
      unfolding reach_by
      reaches h g j l = record { account = arrives h g j l; guarantee = l.guarantee }

      pays : (h g : Held) (j : ℕ) → Less b (held_in k h) g → k * paid_by coarse rs h j ≤ paid_by fine rs g j
      unfolding paid_by
      pays h g j l =
          le_trans (excess_paid_scales k high c.top h.balance (rs.factor j))
          (excess_paid_rises (k * c.top) (rs.factor j) fees l.balance)

      dies : (h g : Held) (j : ℕ) → Less b (held_in k h) g → k * death_by coarse rs h j ≤ death_by fine rs g j
      unfolding death_by
      dies h g j l =
          le_trans (le_of_eq (death_scales k _ _ _))
          (death_rises (arrives h g j l) (covered_le b l.guarantee)
          (le_trans (excess_scales k high c.top h.balance (rs.factor j))
          (excess_rises (k * c.top) (rs.factor j) fees l.balance)))

      expects : (i : ℕ) (h g : Held) (v w : ℕ → ℕ) → Less b (held_in k h) g → ((j : ℕ) → k * v j ≤ w j)
          → k * held_by_list coarse rs ds i h v ≤ held_by_list fine rs ds i g w
      unfolding held_by_list mean_by_list
      expects i h g v w l m =
          le_trans (mean_scales k c rs _)
          (mean_mono c rs (λ j n. le_trans (share_scales k (ds i) (v j) (death_by coarse rs h j)) (share_mono (ds i) (m j) (dies h g j l))))

      final : (s u : State) → Below b (state_in k s) u → k * (process_of coarse rs ds).final s ≤ (process_of fine rs ds).final u
      unfolding process_of
      final s u l =
          le_trans (le_of_eq (maturity_scales k s.account s.guarantee)) (maturity_rises l.account (covered_le b l.guarantee))

    -- ---- the choices
    abbrev Compares : Behaviour → Type 0
    Compares b =
        Matched k (process_of coarse rs ds) (process_of fine rs ds) (admissible_in coarse b) (admissible_in fine b)
        (λ s u. Below b (state_in k s) u) (λ h g. Less b (held_in k h) g)

    -- dynamic: the same amount
    module _ (s u : State) (l : Below dynamic (state_in k s) u) where
      free_more : k * free_in c s ≤ free_in fine u
      unfolding free_in Covered
      free_more = le_trans (le_of_eq (free_scales k c.level s.guarantee)) (free_rises (k * c.level) l.guarantee)

      guarantee_more : (t : ℕ) → T (admits dynamic (free_in c s) s.account t)
          → k * guarantee_after (free_in c s) s.account s.guarantee t
          ≤ guarantee_after (free_in fine u) u.account u.guarantee (k * t)
      unfolding free_in Covered
      guarantee_more t p =
          let m = free_scales k c.level s.guarantee in
          let most = dynamic_is _ _ (k * t) (admits_scales some dynamic _ _ t p) in
          le_trans (guarantee_scales some _ _ _ t)
          (rw m (guarantee_rises (k * c.level) (k * t) l.guarantee l.account (rw (sym m) most)))

    dynamic_compares : Compares dynamic
    unfolding process_of admissible_in free_in cash_in after_in Covered
    dynamic_compares = record {
      dates = refl;
      starts = record { balance = le_refl _; guarantee = covered_same dynamic (k * c.premium) };
      final = final dynamic;
      answer = λ s u t. k * t;
      admitted = λ s u t l p. dynamic_rises (k * t) (free_more s u l) l.account (admits_scales some dynamic _ _ t p);
      cash = λ i s u t l p.
          le_trans (le_of_eq (cash_scales k (rate_in c i) (free_in c s) t)) (cash_rises (rate_in c i) (k * t) (free_more s u l));
      after = λ i s u t l p. record {
        balance = le_trans (le_of_eq (balance_scales k s.account t)) (balance_rises (k * t) l.account);
        guarantee = guarantee_more s u l t p;
      };
      reach = reaches dynamic;
      paid = pays dynamic;
      by_list = expects dynamic;
    }

    -- static and mixed: m is answered by m, surrender by surrender
    module _ (b : Behaviour) (same : (x y : ℕ) → Covered b x y → x ≡ y) (cover : (x y : ℕ) → x ≡ y → Covered b x y)
        (answers : (rate m a t w x : ℕ) → rate ≤ rate_most → w ≤ x → T (admits b m w t) → Answers b rate m w x a t (answered m x t))
        (as_mixed : (m w t : ℕ) → T (admits b m w t) → T (admits mixed m w t))
      where
        abbrev answer_to : State → State → ℕ → ℕ
        answer_to s u t = answered (free_in fine u) u.account (k * t)

        module _ (i : ℕ) (s u : State) (t : ℕ) (l : Below b (state_in k s) u) (p : T (admissible_in coarse b s t)) where
          free_is : k * free_in c s ≡ free_in fine u
          unfolding free_in
          free_is = free_scales k c.level s.guarantee ∙ ap (λ (a : ℕ). free_amount (k * c.level) a) (same _ _ l.guarantee)

          moved : Answers b (rate_in c i) (free_in fine u) (k * s.account) u.account u.guarantee (k * t) (answer_to s u t)
          unfolding admissible_in free_in rate_on
          moved =
              answers (rate_in c i) (free_in fine u) u.guarantee (k * t) (k * s.account) u.account (le_trans (sub-le _ _) small)
              l.account
              (subst (λ (m : ℕ). T (admits b m (k * s.account) (k * t))) free_is (admits_scales some b (free_in c s) s.account t p))

          cash_more : k * cash (rate_in c i) (free_in c s) t ≤ cash (rate_in c i) (free_in fine u) (answer_to s u t)
          cash_more =
              le_trans (le_of_eq (cash_scales k (rate_in c i) (free_in c s) t ∙ ap (λ (m : ℕ). cash (rate_in c i) m (k * t)) free_is))
              moved.cash_is

          guarantee_kept : k * guarantee_after (free_in c s) s.account s.guarantee t
              ≡ guarantee_after (free_in fine u) u.account u.guarantee (answer_to s u t)
          unfolding admissible_in free_in
          guarantee_kept =
              mixed_guarantee_scales some (free_in c s) s.account s.guarantee t (as_mixed _ _ t p)
              ∙ (λ j. guarantee_after (free_is j) (k * s.account) (same _ _ l.guarantee j) (k * t))
              ∙ moved.guarantee_is

        level_compares : Compares b
        unfolding process_of admissible_in free_in cash_in after_in
        level_compares = record {
          dates = refl;
          starts = record { balance = le_refl _; guarantee = covered_same b (k * c.premium) };
          final = final b;
          answer = answer_to;
          admitted = λ s u t l p. (moved 1 s u t l p).open_to;
          cash = cash_more;
          after = λ i s u t l p. record {
            balance = le_trans (le_of_eq (balance_scales k s.account t)) (moved i s u t l p).balance_is;
            guarantee = cover _ _ (guarantee_kept i s u t l p);
          };
          reach = reaches b;
          paid = pays b;
          by_list = expects b;
        }

    compares : (b : Behaviour) → Compares b
    unfolding Covered
    compares static = level_compares static (λ x y e. e) (λ x y e. e) static_answers static_mixed
    compares mixed = level_compares mixed (λ x y e. e) (λ x y e. e) mixed_answers (λ m w t p. p)
    compares dynamic = dynamic_compares

    -- of terms: from every state of every date, for any state of the finer unit that has no less; and for the contract
    pub state_compared : (b : Behaviour) (i : ℕ) (s u : State) → Below b (state_in k s) u
        → k * state_value (fixed_term (with_fee c high) rs ds) b i s ≤ state_value (fixed_term (in_units k (with_fee c low)) rs ds) b i u
    unfolding state_value fixed_term
    state_compared b =
        value_less k (process_of coarse rs ds) (process_of fine rs ds) (admissible_in coarse b) (admissible_in fine b) (compares b)
        (averages coarse rs ds) (averages fine rs ds) (opened coarse rs ds b) (opened fine rs ds b)

    pub value_compared : (b : Behaviour)
        → k * contract_value (fixed_term (with_fee c high) rs ds) b ≤ contract_value (fixed_term (in_units k (with_fee c low)) rs ds) b
    unfolding contract_value fixed_term
    value_compared b =
        start_less k (process_of coarse rs ds) (process_of fine rs ds) (admissible_in coarse b) (admissible_in fine b) (compares b)
        (averages coarse rs ds) (averages fine rs ds) (opened coarse rs ds b) (opened fine rs ds b)
