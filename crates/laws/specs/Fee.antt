-- Request (vi): a larger fee is never worth more, and what the search for a fee finds. Assumes nothing.
use Rattle.std.specs.Prelude.{Bool, ◌≡◌, refl, ℕ, ◌+◌, ◌≤◌, ◌<◌, leb}
use Rattle.std.proofs.Common.{le_refl, le_of_eq}
use Rattle.decision.specs.Index.{first}
use Rattle.rules.specs.Contract.{Terms, Returns, Rates, rate_most}
use Rattle.rules.specs.Date.{Behaviour, static, mixed, dynamic}
use Rattle.rules.specs.Product.{contract_value}
use Rattle.rules.specs.FixedTerm.{State, Held}
use Rattle.rules.specs.FixedTerm.{fixed_term}
use Rattle.rules.specs.Fee.{fee_sought}
use Rattle.laws.specs.Terms.{with_fee}

-- ---- by terms, returns and rates: the value under a fee, whether it does not exceed a wanted one, and the fee sought
unfoldable pub fee_value : Terms → Returns → Rates → Behaviour → ℕ → ℕ
fee_value c rs ds b fee = contract_value (fixed_term (with_fee c fee) rs ds) b

unfoldable pub meets : Terms → Returns → Rates → Behaviour → ℕ → ℕ → Bool
meets c rs ds b wanted fee = leb (fee_value c rs ds b fee) wanted

unfoldable pub smallest_fee : Terms → Returns → Rates → Behaviour → ℕ → ℕ
smallest_fee c rs ds b wanted = fee_sought (λ fee. fixed_term (with_fee c fee) rs ds) b wanted

-- it is the first fee that meets the wanted value
pub first_to_meet : (c : Terms) (rs : Returns) (ds : Rates) (b : Behaviour) (wanted : ℕ)
    → smallest_fee c rs ds b wanted ≡ first (meets c rs ds b wanted) (rate_most + 1)
unfolding smallest_fee fee_sought meets fee_value
first_to_meet c rs ds b wanted = refl

-- the guarantees that are compared: under static and mixed withdrawals one and the same, under dynamic ones also a larger one. A
-- static holder of more guarantee has to withdraw more, and may be worth less.
unfoldable pub Covered : Behaviour → ℕ → ℕ → Type 0
Covered static a b = a ≡ b
Covered mixed a b = a ≡ b
Covered dynamic a b = a ≤ b

pub record Below (b : Behaviour) (s u : State) : Type 0 where
  pub account : s.account ≤ u.account
  pub guarantee : Covered b s.guarantee u.guarantee

pub record Less (b : Behaviour) (h g : Held) : Type 0 where
  pub balance : h.balance ≤ g.balance
  pub guarantee : Covered b h.guarantee g.guarantee

pub covered_le : (b : Behaviour) {x y : ℕ} → Covered b x y → x ≤ y
unfolding Covered
covered_le static e = le_of_eq e
covered_le mixed e = le_of_eq e
covered_le dynamic l = l

pub covered_same : (b : Behaviour) (x : ℕ) → Covered b x x
unfolding Covered
covered_same static x = refl
covered_same mixed x = refl
covered_same dynamic x = le_refl x

-- ---- what is sought
-- a fee is sought exactly where its value is at most what is wanted, and every smaller fee gives more
pub record Sought (c : Terms) (rs : Returns) (ds : Rates) (b : Behaviour) (wanted fee : ℕ) : Type 0 where
  pub within : fee ≤ rate_most
  pub enough : fee_value c rs ds b fee ≤ wanted
  pub smallest : (x : ℕ) → x < fee → wanted < fee_value c rs ds b x
