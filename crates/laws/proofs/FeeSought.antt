-- Request (vi): what the search for a fee finds. Assumes nothing.
use Rattle.std.specs.Prelude.{◌⊎◌, ◌↔◌, ◌≡◌, ℕ, ◌+◌, ◌-◌, ◌≤◌, ◌<◌, T, leb}
use Rattle.std.proofs.Common.{inl, inr}
use Rattle.std.proofs.Math.Nat.{le_trans}
use native.Mathlib.Omega.{arith}
use Rattle.std.proofs.Math.Dec.{leb→le, le→leb, nleb→lt, not_T}
use Rattle.decision.specs.Index.{first_is, is_first, none_found, false_is}
use Rattle.decision.specs.Bisection.{Lasting}
use Rattle.rules.specs.Contract.{Terms, Returns, Rates, rate_most}
use Rattle.rules.specs.Date.{Behaviour}
use Rattle.rules.specs.Fee.{fee_sought}
use Rattle.laws.specs.Fee.{Sought, fee_value, meets, smallest_fee}
use Rattle.laws.proofs.Fee.{value_falls_with_fee}

-- ---- so a fee that is low enough in value stays so where it grows
pub meets_lasts : (c : Terms) (rs : Returns) (ds : Rates) → c.penalty ≤ rate_most → (b : Behaviour) (wanted : ℕ)
    → Lasting (meets c rs ds b wanted)
unfolding meets
meets_lasts c rs ds small b wanted low high fees t =
    le→leb _ wanted (le_trans (value_falls_with_fee c rs ds small fees b) (leb→le _ wanted t))

module _ (c : Terms) (rs : Returns) (ds : Rates) (b : Behaviour) (wanted : ℕ) where
  pub fee_sought_lem : smallest_fee c rs ds b wanted ≤ rate_most → Sought c rs ds b wanted (smallest_fee c rs ds b wanted)
  unfolding smallest_fee fee_sought meets fee_value
  fee_sought_lem l =
      let x = first_is (meets c rs ds b wanted) (rate_most + 1) in record {
        within = l;
        enough = leb→le _ wanted (x.passes (omega arith));
        smallest = λ fee m. more fee (x.none fee (omega arith) m);
      }
    where
      more : (fee : ℕ) → (T (leb (fee_value c rs ds b fee) wanted) → ⊥) → wanted < fee_value c rs ds b fee
      more fee none = nleb→lt _ wanted (not_T (leb (fee_value c rs ds b fee) wanted) none)

  -- none is, exactly where every fee gives more
  pub no_fee : (rate_most < smallest_fee c rs ds b wanted) ↔ ((fee : ℕ) → fee ≤ rate_most → wanted < fee_value c rs ds b fee)
  unfolding smallest_fee fee_sought meets fee_value
  no_fee = (
    λ l fee m. nleb→lt _ wanted (not_T (leb (fee_value c rs ds b fee) wanted) (λ t.
        (first_is (meets c rs ds b wanted) (rate_most + 1)).none fee (omega arith) (omega arith) t)),
    λ more. none_found _ (rate_most + 1) (λ fee l.
        false_is (leb (fee_value c rs ds b fee) wanted) (λ t.
        let h = more fee (omega arith) in let k = leb→le _ wanted t in omega arith)),
  )

  module _ (small : c.penalty ≤ rate_most) where
    -- values fall with the fee, so a fee is told by its own value and that of the fee before it ..
    pub fee_is : (fee : ℕ) → fee ≤ rate_most → fee_value c rs ds b fee ≤ wanted → (fee ≡ 0) ⊎ (wanted < fee_value c rs ds b (fee - 1))
        → smallest_fee c rs ds b wanted ≡ fee
    unfolding smallest_fee fee_sought meets fee_value
    fee_is fee l enough before = is_first (record {
      from = omega arith;
      within = omega arith;
      passes = λ m. le→leb _ wanted enough;
      none = λ k m n t. go before k n (leb→le _ wanted t);
    })
      where
        go : (fee ≡ 0) ⊎ (wanted < fee_value c rs ds b (fee - 1)) → (k : ℕ) → k < fee → fee_value c rs ds b k ≤ wanted → ⊥
        go (inl e) k n h = omega arith
        go (inr more) k n h =
            let m : k ≤ fee - 1 = omega arith in
            let f = value_falls_with_fee c rs ds small m b in
            omega arith

    -- .. and that there is none by the value of the largest
    pub fee_none : wanted < fee_value c rs ds b rate_most → rate_most < smallest_fee c rs ds b wanted
    fee_none more = no_fee.1 (λ fee l. let f = value_falls_with_fee c rs ds small l b in omega arith)
