-- The order of the returns changes no value and no recorded amount. Assumes nothing.
use Rattle.std.specs.Prelude.{Bool, true, false, cond, List, ◌≡◌, refl, ℕ, suc, ◌+◌, ◌*◌, ◌≤◌, ◌<◌, max, T}
use Rattle.std.proofs.Math.Path.{ap, sym, fun_ext}
use Rattle.std.proofs.Common.{◌∙◌, le_trans, one-mul, arith, leb→le, le→leb}
use Rattle.std.proofs.Math.Nat.{le-max_left, le-max_right}
use Rattle.std.proofs.Math.Dec.{leb}
use Rattle.decision.specs.Index.{sum, sum_eq, sum_zeros, sum_ones, sum_term, first_eq}
use Rattle.decision.specs.Groups.{most, le_most, sum_by_keys}
use Rattle.decision.specs.Process.{Table, table_value}
use Rattle.decision.specs.Means.{SameMeans}
use Rattle.decision.proofs.Means.{value_same, recorded_same, start_same, table_same, start_table_same}
use Rattle.decision.specs.Layers.{lookup}
use Rattle.rules.specs.Contract.{Terms, Returns, Rates, factor_most, weight_most, rate_most}
use Rattle.rules.specs.Date.{Behaviour, next_account, excess, discounted}
use Rattle.rules.specs.Product.{state_value, recorded_amount, contract_value, supplied_value}
use Rattle.rules.specs.FixedTerm.{State, Held, admissible_in, mean_by_account, value_with, held_by_account, process_of, layout_of}
use Rattle.rules.specs.FixedTerm.{fixed_term}
use Rattle.rules.proofs.ByList.{by_account_is_by_list}
use Rattle.rules.specs.Fee.{fee_sought}
use Rattle.laws.specs.Terms.{with_fee}
use Rattle.laws.specs.Fee.{smallest_fee}
use Rattle.laws.specs.Accepted.{ValidReturns}
use Rattle.laws.specs.AnyOrder.{Reordered, over, standing}

by_standing : (rs : Returns) (g : ℕ → ℕ → ℕ) (m l : ℕ) → ((k : ℕ) → k < rs.count → rs.factor k < m)
    → ((k : ℕ) → k < rs.count → rs.weight k < l)
    → over rs g ≡ sum (λ x. sum (λ y. standing rs x y * g x y) l) m
unfolding standing
by_standing rs g m l below small =
    sum_eq _ _ rs.count (λ k i. sym (one-mul (g (rs.factor k) (rs.weight k))))
    ∙ sym (sum_by_keys rs.factor rs.weight (λ k. 1) g rs.count m l below small)

no_fault : (b : Bool) → T b → ◌≡◌ {A = ℕ} (cond b 0 1) 0
no_fault true t = refl
no_fault false t = absurd t

faultless : (b : Bool) → cond b 0 1 ≤ 0 → T b
faultless true l = tt
faultless false l = absurd (omega arith)

module _ {rs us : Returns} (same : Reordered rs us) where
  pub reordered_sum : (g : ℕ → ℕ → ℕ) → over rs g ≡ over us g
  reordered_sum g =
      let m = suc (max (most rs.factor rs.count) (most us.factor us.count)) in
      let l = suc (max (most rs.weight rs.count) (most us.weight us.count)) in
      by_standing rs g m l
      (λ k i. let h = le_trans (le_most rs.factor _ k i) (le-max_left _ (most us.factor us.count)) in omega arith)
      (λ k i. let h = le_trans (le_most rs.weight _ k i) (le-max_left _ (most us.weight us.count)) in omega arith)
      ∙ sum_eq _ _ m (λ x i. sum_eq _ _ l (λ y j. ap (λ (z : ℕ). z * g x y) (same.each x y)))
      ∙ sym
      (by_standing us g m l
      (λ k i. let h = le_trans (le_most us.factor _ k i) (le-max_right (most rs.factor rs.count) _) in omega arith)
      (λ k i. let h = le_trans (le_most us.weight _ k i) (le-max_right (most rs.weight rs.count) _) in omega arith))

  -- what holds of every return of the one holds of every return of the other
  all_of : (ok : ℕ → ℕ → Bool) → ((k : ℕ) → k < rs.count → T (ok (rs.factor k) (rs.weight k)))
      → (k : ℕ) → k < us.count → T (ok (us.factor k) (us.weight k))
  all_of ok h k l =
      let none : over rs (λ x y. cond (ok x y) 0 1) ≡ 0 =
      sum_zeros _ rs.count (λ j i. no_fault (ok (rs.factor j) (rs.weight j)) (h j i)) in
      let e = sym (reordered_sum (λ x y. cond (ok x y) 0 1)) ∙ none in
      let small = sum_term (λ j. cond (ok (us.factor j) (us.weight j)) 0 1) us.count k l in
      faultless (ok (us.factor k) (us.weight k)) (omega arith)

  pub reordered_valid : ValidReturns rs → ValidReturns us
  reordered_valid v =
      let n = sym (sum_ones rs.count) ∙ reordered_sum (λ x y. 1) ∙ sum_ones us.count in
      record {
        count_least = omega (arith, v.count_least);
        count = omega (arith, v.count);
        factor = λ k l. leb→le _ _ (all_of (λ x y. leb x factor_most) (λ j i. le→leb _ _ (v.factor j i)) k l);
        weight_least = λ k l. leb→le 1 _ (all_of (λ x y. leb 1 y) (λ j i. le→leb 1 _ (v.weight_least j i)) k l);
        weight = λ k l. leb→le _ _ (all_of (λ x y. leb y weight_most) (λ j i. le→leb _ _ (v.weight j i)) k l);
        total = sym (reordered_sum (λ x y. y)) ∙ v.total;
      }

  -- the sums by account, and so the means
  reordered_mean : (c : Terms) (ds : Rates) (i : ℕ) (h : Held) (v : State → ℕ)
      → held_by_account c rs ds i h v ≡ held_by_account c us ds i h v
  unfolding held_by_account mean_by_account
  reordered_mean c ds i h v =
      let f = value_with ds i h.guarantee v in
      ap (discounted c.discount)
      (by_account_is_by_list c rs h.balance f
      ∙ reordered_sum (λ x y. y * f (next_account c.fee c.top h.balance x) (excess c.fee c.top h.balance x))
      ∙ sym (by_account_is_by_list c us h.balance f))

  module _ (c : Terms) (ds : Rates) where
    same_means : SameMeans (process_of c rs ds) (process_of c us ds) (λ s. Unit {0}) (λ h. Unit {0})
    unfolding process_of
    same_means = record {
      dates = refl;
      start = refl;
      limit = λ s. refl;
      cash = λ i s t. refl;
      after = λ i s t. refl;
      final = λ s. refl;
      starts = tt;
      holds = λ i s t g. tt;
      by_state = λ i h v w g e. reordered_mean c ds i h v ∙ ap (held_by_account c us ds i h) (fun_ext (λ s. e s tt));
    }

    -- values: of the contract, of every state
    pub any_order_value : (b : Behaviour) → contract_value (fixed_term c rs ds) b ≡ contract_value (fixed_term c us ds) b
    unfolding contract_value fixed_term
    any_order_value b = start_same same_means (admissible_in c b)

    pub any_order_state : (b : Behaviour) (i : ℕ) (s : State)
        → state_value (fixed_term c rs ds) b i s ≡ state_value (fixed_term c us ds) b i s
    unfolding state_value fixed_term
    any_order_state b i s = value_same same_means (admissible_in c b) i s tt

    -- the amount of every state
    pub any_order_amount : (b : Behaviour) (i : ℕ) (s : State)
        → recorded_amount (fixed_term c rs ds) b i s ≡ recorded_amount (fixed_term c us ds) b i s
    unfolding recorded_amount fixed_term
    any_order_amount b i s = recorded_same same_means (admissible_in c b) i s tt

    -- where a table is followed
    pub any_order_table : (d : Table State) (i : ℕ) (s : State)
        → table_value (process_of c rs ds) d i s ≡ table_value (process_of c us ds) d i s
    any_order_table d i s = table_same same_means d i s tt

    pub any_order_supplied : (table : List ℕ) → supplied_value (fixed_term c rs ds) table ≡ supplied_value (fixed_term c us ds) table
    unfolding supplied_value fixed_term
    any_order_supplied table = start_table_same same_means (lookup (layout_of c) table)

  -- the fee
  pub any_order_fee : (c : Terms) (ds : Rates) (b : Behaviour) (wanted : ℕ) → smallest_fee c rs ds b wanted ≡ smallest_fee c us ds b wanted
  unfolding smallest_fee fee_sought
  any_order_fee c ds b wanted =
      first_eq _ _ (rate_most + 1) (λ fee l. ap (λ (x : ℕ). leb x wanted) (any_order_value (with_fee c fee) ds b))
