-- Request (vi): a larger fee is never worth more. Assumes nothing.
use Rattle.std.specs.Prelude.{◌≡◌, refl, ℕ, ◌≤◌, T}
use Rattle.std.proofs.Common.{sym, le_refl, sub-le}
use Rattle.std.proofs.Math.Path.{subst}
use Rattle.std.proofs.Math.Nat.{le_trans}
use Rattle.decision.proofs.Compare.{Matched, value_less, start_less}
use Rattle.rules.specs.Contract.{Terms, Returns, Rates, rate_most}
use Rattle.rules.specs.Date.{Behaviour, static, mixed, dynamic, free_amount, admits, rate_on, cash, guarantee_after}
use Rattle.rules.specs.Product.{state_value, contract_value}
use Rattle.rules.specs.FixedTerm.{State, Held, free_in, admissible_in, rate_in, cash_in, after_in, reach_by, paid_by, death_by}
use Rattle.rules.specs.FixedTerm.{mean_by_list}
use Rattle.rules.specs.FixedTerm.{held_by_list, process_of, fixed_term}
use Rattle.laws.specs.Terms.{start_held, with_fee}
use Rattle.laws.specs.Date.{dynamic_is, share_mono}
use Rattle.laws.specs.FixedTerm.{mean_mono, averages, opened}
use Rattle.laws.specs.Rising.{account_rises, excess_rises, excess_paid_rises, maturity_rises, death_rises, free_rises}
use Rattle.laws.specs.Rising.{dynamic_rises, cash_rises, balance_rises, guarantee_rises, answered, Answers, mixed_answers}
use Rattle.laws.specs.Rising.{static_answers}
use Rattle.laws.specs.Fee.{Below, Covered, Less, covered_le, covered_same, fee_value}

module _ (c : Terms) (rs : Returns) (ds : Rates) (small : c.penalty ≤ rate_most) {low high : ℕ} (fees : low ≤ high) where
  -- the contract with the larger fee and the one with the smaller fee
  abbrev dear : Terms
  dear = with_fee c high

  abbrev cheap : Terms
  cheap = with_fee c low

  -- ---- what no behaviour changes: arrivals, payments and means
  module _ (b : Behaviour) where
    reaches : (h g : Held) (k : ℕ) → Less b h g → Below b (reach_by dear rs h k) (reach_by cheap rs g k)
    unfolding reach_by
    reaches h g k l = record { account = account_rises c.top (rs.factor k) fees l.balance; guarantee = l.guarantee }

    pays : (h g : Held) (k : ℕ) → Less b h g → paid_by dear rs h k ≤ paid_by cheap rs g k
    unfolding paid_by
    pays h g k l = excess_paid_rises c.top (rs.factor k) fees l.balance

    dies : (h g : Held) (k : ℕ) → Less b h g → death_by dear rs h k ≤ death_by cheap rs g k
    unfolding death_by reach_by
    dies h g k l =
        death_rises (account_rises c.top (rs.factor k) fees l.balance) (covered_le b l.guarantee)
        (excess_rises c.top (rs.factor k) fees l.balance)

    expects : (i : ℕ) (h g : Held) (v w : ℕ → ℕ) → Less b h g → ((k : ℕ) → v k ≤ w k)
        → held_by_list dear rs ds i h v ≤ held_by_list cheap rs ds i g w
    unfolding mean_by_list held_by_list
    expects i h g v w l m = mean_mono c rs (λ k n. share_mono (ds i) (m k) (dies h g k l))

    starts : Less b (start_held dear) (start_held cheap)
    starts = record { balance = le_refl _; guarantee = covered_same b c.premium }

    final : (s u : State) → Below b s u → (process_of dear rs ds).final s ≤ (process_of cheap rs ds).final u
    unfolding process_of
    final s u l = maturity_rises l.account (covered_le b l.guarantee)

  -- ---- the choices
  rate_most_lem : (i : ℕ) → rate_in c i ≤ rate_most
  unfolding rate_on
  rate_most_lem i = le_trans (sub-le _ _) small

  abbrev Fees : Behaviour → Type 0
  Fees b =
      Matched (process_of dear rs ds) (process_of cheap rs ds) (admissible_in dear b) (admissible_in cheap b) (Below b) (Less b)

  dynamic_fees : Fees dynamic
  unfolding process_of admissible_in free_in cash_in after_in Covered
  dynamic_fees = record {
    dates = refl;
    starts = starts dynamic;
    final = final dynamic;
    answer = λ s u t. t;
    admitted = λ s u t l p. dynamic_rises t (free_rises c.level l.guarantee) l.account p;
    cash = λ i s u t l p. cash_rises (rate_in c i) t (free_rises c.level l.guarantee);
    after = λ i s u t l p. record {
      balance = balance_rises t l.account;
      guarantee = guarantee_rises c.level t l.guarantee l.account (dynamic_is _ _ t p);
    };
    reach = reaches dynamic;
    paid = pays dynamic;
    by_list = expects dynamic;
  }

  -- static and mixed: one guarantee, and an answer that keeps it
  module _ (b : Behaviour) (same : (x y : ℕ) → Covered b x y → x ≡ y) (cover : (x y : ℕ) → x ≡ y → Covered b x y)
      (answers : (rate m a t w x : ℕ) → rate ≤ rate_most → w ≤ x → T (admits b m w t) → Answers b rate m w x a t (answered m x t))
    where
      abbrev answer_to : State → State → ℕ → ℕ
      answer_to s u t = answered (free_in c s) u.account t

      -- the answer, from the state with more account
      moved : (i : ℕ) (s u : State) (t : ℕ) → Below b s u → T (admissible_in dear b s t)
          → Answers b (rate_in c i) (free_in c u) s.account u.account u.guarantee t (answer_to s u t)
      unfolding admissible_in free_in
      moved i s u t l p =
          subst (λ (a : ℕ). Answers b (rate_in c i) (free_amount c.level a) s.account u.account a t (answer_to s u t))
          (same _ _ l.guarantee) (answers (rate_in c i) _ s.guarantee t _ _ (rate_most_lem i) l.account p)

      level_fees : Fees b
      unfolding process_of admissible_in free_in cash_in after_in
      level_fees = record {
        dates = refl;
        starts = starts b;
        final = final b;
        answer = answer_to;
        admitted = λ s u t l p. (moved 1 s u t l p).open_to;
        cash = λ i s u t l p.
            subst (λ (a : ℕ). cash (rate_in c i) (free_amount c.level a) t ≤ cash (rate_in c i) (free_in c u) (answer_to s u t))
            (sym (same _ _ l.guarantee)) (moved i s u t l p).cash_is;
        after = λ i s u t l p. record {
          balance = (moved i s u t l p).balance_is;
          guarantee = cover _ _
              (subst (λ (a : ℕ). guarantee_after (free_amount c.level a) s.account a t
              ≡ guarantee_after (free_in c u) u.account u.guarantee (answer_to s u t))
              (sym (same _ _ l.guarantee)) (moved i s u t l p).guarantee_is);
        };
        reach = reaches b;
        paid = pays b;
        by_list = expects b;
      }

  fee_answers : (b : Behaviour) → Fees b
  unfolding Covered
  fee_answers static = level_fees static (λ x y e. e) (λ x y e. e) static_answers
  fee_answers mixed = level_fees mixed (λ x y e. e) (λ x y e. e) mixed_answers
  fee_answers dynamic = dynamic_fees

  -- A LARGER FEE IS NEVER WORTH MORE, in any state of any date, nor is less account, or under dynamic withdrawals less guarantee
  pub state_falls_with_fee : (b : Behaviour) (i : ℕ) (s u : State) → Below b s u
      → state_value (fixed_term dear rs ds) b i s ≤ state_value (fixed_term cheap rs ds) b i u
  unfolding state_value fixed_term
  state_falls_with_fee b =
      value_less (process_of dear rs ds) (process_of cheap rs ds) (admissible_in dear b) (admissible_in cheap b) (fee_answers b)
      (averages dear rs ds) (averages cheap rs ds) (opened dear rs ds b) (opened cheap rs ds b)

  -- .. nor for the contract
  pub value_falls_with_fee : (b : Behaviour) → fee_value c rs ds b high ≤ fee_value c rs ds b low
  unfolding fee_value contract_value fixed_term
  value_falls_with_fee b =
      start_less (process_of dear rs ds) (process_of cheap rs ds) (admissible_in dear b) (admissible_in cheap b) (fee_answers b)
      (averages dear rs ds) (averages cheap rs ds) (opened dear rs ds b) (opened cheap rs ds b)

-- at one fee: what rises with the account
pub value_rises : (c : Terms) (rs : Returns) (ds : Rates) → c.penalty ≤ rate_most → (b : Behaviour) (i : ℕ) (s u : State) → Below b s u
    → state_value (fixed_term c rs ds) b i s ≤ state_value (fixed_term c rs ds) b i u
value_rises c rs ds small b i s u l = state_falls_with_fee c rs ds small (le_refl c.fee) b i s u l
