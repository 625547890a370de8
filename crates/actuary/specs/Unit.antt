-- THE MONEY UNIT: accounts are whole units and round down, so a contract in a finer unit is never worth less. Assumes nothing.
use Rattle.std.specs.Prelude.{◌⊎◌, List, ◌≡◌, ℕ, ◌+◌, ◌*◌, ◌≤◌, ◌<◌}
use Rattle.std.proofs.Common.{inl, inr, ap, ◌∙◌, le_refl, le_trans, zero-mul, eq-zero-or-pos, arith, le→leb}
use Rattle.std.proofs.Math.Decide.{dec_le}
use Rattle.std.proofs.Math.Nat.{le_of_mul-le-mul_left}
use Rattle.decision.specs.Index.{first, First, first_is, first_least}
use Rattle.rules.specs.Contract.{Input, Terms, Returns, Rates, terms_of, returns_of, rates_of, rate_most}
use Rattle.rules.specs.Date.{Behaviour}
use Rattle.rules.specs.Product.{state_value, contract_value}
use Rattle.rules.specs.FixedTerm.{State, fixed_term}
use Rattle.rules.specs.Refusals.{accepted, verdict, input_checks}
use Rattle.rules.specs.Operations.{behaviour_of}
use Rattle.rules.specs.Policy.{policy_of}
use Rattle.rules.specs.Fee.{under_fee, fee_found}
use Rattle.laws.specs.Accepted.{input_valid}
use Rattle.laws.proofs.Pricing.{fee_verdict, found_is}
use Rattle.laws.specs.Compared.{covered_same, in_units, state_in}
use Rattle.laws.proofs.Compared.{state_compared, value_compared}
use Rattle.laws.specs.Fee.{fee_value, meets, smallest_fee, first_to_meet}
use Rattle.laws.proofs.FeeSought.{fee_sought_lem}

-- the fee sought for k times the value wanted is no smaller, and there is none where there was none
module _ (c : Terms) (rs : Returns) (ds : Rates) (small : c.penalty ≤ rate_most) {k : ℕ} (some : 0 < k) (b : Behaviour) (wanted : ℕ) where
  abbrev fee : ℕ
  fee = smallest_fee (in_units k c) rs ds b (k * wanted)

  pub finer_sought : smallest_fee c rs ds b wanted ≤ smallest_fee (in_units k c) rs ds b (k * wanted)
  unfolding meets fee_value
  finer_sought = rw (first_to_meet c rs ds b wanted) (go (dec_le fee rate_most))
    where
      x : First (meets c rs ds b wanted) (rate_most + 1) (first (meets c rs ds b wanted) (rate_most + 1))
      x = first_is (meets c rs ds b wanted) (rate_most + 1)

      go : Dec (fee ≤ rate_most) → first (meets c rs ds b wanted) (rate_most + 1) ≤ fee
      go (yes l) =
          let enough = (fee_sought_lem (in_units k c) rs ds b (k * wanted) l).enough in
          first_least x fee
          (le→leb _ wanted (le_of_mul-le-mul_left (le_trans (value_compared c rs ds small some (le_refl fee) b) enough) some))
      go (no l) = le_trans x.within (omega arith)

-- ---- WHAT AN OFFICE MAY RELY ON
-- y is x in a finer unit, k of which make one: premium, level and top times k, with the same returns and rates
pub record InUnits (k : ℕ) (x y : Input) : Type 0 where
  pub terms : terms_of y.bytes ≡ in_units k (terms_of x.bytes)
  pub list : y.list ≡ x.list
  pub rates : y.rates ≡ x.rates

-- where both are accepted, what the calls report of x errs on the low side
module _ {k : ℕ} {x y : Input} (u : InUnits k x y) (coarse : verdict (input_checks x) ≡ accepted)
    (fine : verdict (input_checks y) ≡ accepted)
  where
    some_units : 0 < k
    some_units = go (eq-zero-or-pos k)
      where
        go : (k ≡ 0) ⊎ (0 < k) → 0 < k
        go (inr p) = p
        go (inl e) =
            let l = (input_valid y fine).terms.premium_least in
            let z = ap (λ (t : Terms). t.premium) u.terms ∙ ap (λ (n : ℕ). n * (terms_of x.bytes).premium) e ∙ zero-mul _ in
            absurd (omega arith)

    small : (terms_of x.bytes).penalty ≤ rate_most
    small = (input_valid x coarse).terms.penalty

    -- THE VALUE: k × the value is at most the value in the finer unit, under each behaviour ..
    pub finer_unit : (b : Behaviour) → k * contract_value (policy_of x).product b ≤ contract_value (policy_of y).product b
    finer_unit b =
        rw (u.terms, u.list, u.rates)
        (value_compared (terms_of x.bytes) (returns_of x.list) (rates_of x.rates) small some_units (le_refl _) b)

    -- .. and from every state of every date
    pub finer_unit_state : (b : Behaviour) (i : ℕ) (s : State)
        → k * state_value (policy_of x).product b i s ≤ state_value (policy_of y).product b i (state_in k s)
    finer_unit_state b i s =
        rw (u.terms, u.list, u.rates)
        (state_compared (terms_of x.bytes) (returns_of x.list) (rates_of x.rates) small some_units (le_refl _) b i s (state_in k s)
        (record { account = le_refl _; guarantee = covered_same b _ }))

    -- THE FEE: found for a wanted value, it is at most the one found in the finer unit for k times that value
    pub finer_fee : (behaviour wanted : ℕ) (work work' : List ℕ)
        → fee_verdict x behaviour wanted work ≡ accepted
        → fee_verdict y behaviour (k * wanted) work' ≡ accepted
        → fee_found (policy_of x) (under_fee fixed_term x) behaviour wanted work
        ≤ fee_found (policy_of y) (under_fee fixed_term y) behaviour (k * wanted) work'
    finer_fee behaviour wanted work work' one two =
        rw (found_is x behaviour wanted work one, found_is y behaviour (k * wanted) work' two, u.terms, u.list, u.rates)
        (finer_sought (terms_of x.bytes) (returns_of x.list) (rates_of x.rates) small some_units (behaviour_of behaviour) wanted)
