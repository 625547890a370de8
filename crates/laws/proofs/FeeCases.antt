-- Request (vi), contract P with zero rates: the fees of its figures. Each is told by its own value and that of the fee before it, so
-- two values are computed for a row. Assumes nothing.
use Rattle.std.specs.Prelude.{Bool, true, ◌&&◌, ◌||◌, List, [], ◌∷◌, ◌⊎◌, ◌≡◌, ℕ, ◌-◌, ◌≤◌, ◌<◌, T, leb, ltb, eqb}
use Rattle.std.proofs.Common.{inl, inr, arith, leb→le, ltb→lt, eqb→eq}
use Rattle.decision.specs.Index.{sum}
use Rattle.decision.specs.Choice.{largest, and_left, and_right}
use Rattle.decision.specs.Process.{reached, worth, value_over, value, start_value}
use Rattle.rules.specs.Contract.{word, long, bytes_of, terms_of, returns_of, zero_rates, rate_most}
use Rattle.rules.specs.Date.{Behaviour, static, dynamic, free_amount, largest_amount, surrenders, admits, rate_on, penalty, cash}
use Rattle.rules.specs.Date.{guarantee_after, balance_after, lifted_account, next_account, excess, excess_paid, maturity_value}
use Rattle.rules.specs.Date.{death_payment}
use Rattle.rules.specs.Date.{death_share, discounted}
use Rattle.rules.specs.Product.{contract_value}
use Rattle.rules.specs.FixedTerm.{free_in, admissible_in, cash_in, after_in, reach_by, paid_by, death_by, mean_by_list, held_by_list}
use Rattle.rules.specs.FixedTerm.{process_of}
use Rattle.rules.specs.ByList.{listed_term}
use Rattle.rules.proofs.ByList.{listed_contract}
use Rattle.rules.proofs.Cases.{P, returns_p}
use Rattle.laws.specs.Date.{or_elim}
use Rattle.laws.specs.Fee.{fee_value, smallest_fee}
use Rattle.laws.proofs.FeeSought.{fee_is, fee_none}

pub record FeeRow : Type 0 where
  pub behaviour : Behaviour
  pub wanted : ℕ
  pub fee : ℕ
  pub value : ℕ

row : Behaviour → ℕ → ℕ → ℕ → FeeRow
row b wanted fee value = record { behaviour = b; wanted = wanted; fee = fee; value = value }

value_at : FeeRow → ℕ → ℕ
value_at r fee = fee_value P (returns_of returns_p) zero_rates r.behaviour fee

-- what is told of a row
pub Right : FeeRow → Type 0
Right r =
    (smallest_fee P (returns_of returns_p) zero_rates r.behaviour r.wanted ≡ r.fee)
    × (fee_value P (returns_of returns_p) zero_rates r.behaviour r.fee ≡ r.value)

unfoldable pub Each : List FeeRow → Type 0
Each [] = Unit {0}
Each (r ∷ rows) = Right r × Each rows

-- .. and how it is found
found : FeeRow → Bool
found r =
    leb r.fee rate_most
    && (leb r.value r.wanted && (eqb (value_at r r.fee) r.value
    && (eqb r.fee 0 || ltb r.wanted (value_at r (r.fee - 1)))))

all_found : List FeeRow → Bool
all_found [] = true
all_found (r ∷ rows) = found r && all_found rows

P_penalty : P.penalty ≤ rate_most
unfolding P
P_penalty = omega arith

told : (r : FeeRow) → T (found r) → Right r
unfolding found Right value_at
told r t =
    let f = fee_value P (returns_of returns_p) zero_rates r.behaviour in
    let less = leb r.fee rate_most in
    let enough = leb r.value r.wanted in
    let same = eqb (f r.fee) r.value in
    let before = eqb r.fee 0 || ltb r.wanted (f (r.fee - 1)) in
    let t₁ = and_right less _ t in
    let t₂ = and_right enough _ t₁ in
    let e = eqb→eq (f r.fee) r.value (and_left same before t₂) in
    let l = leb→le r.value r.wanted (and_left enough _ t₁) in (
      fee_is P (returns_of returns_p) zero_rates r.behaviour r.wanted P_penalty r.fee (leb→le r.fee rate_most (and_left less _ t))
          (omega arith) (go (or_elim (eqb r.fee 0) _ (and_right same before t₂))),
      e,
    )
  where
    go : T (eqb r.fee 0) ⊎ T (ltb r.wanted (fee_value P (returns_of returns_p) zero_rates r.behaviour (r.fee - 1)))
        → (r.fee ≡ 0) ⊎ (r.wanted < fee_value P (returns_of returns_p) zero_rates r.behaviour (r.fee - 1))
    go (inl z) = inl (eqb→eq r.fee 0 z)
    go (inr m) = inr (ltb→lt r.wanted _ m)

each : (rows : List FeeRow) → T (all_found rows) → Each rows
unfolding all_found Each
each [] t = tt
each (r ∷ rows) t = (told r (and_left (found r) (all_found rows) t), each rows (and_right (found r) (all_found rows) t))

-- the figures whose fee is further from 0 than those of rules/Cases
pub figures : List FeeRow
figures =
    row static 100000 2667 100000
    ∷ row static 110000 1334 110000
    ∷ row dynamic 110000 1667 110000
    ∷ row dynamic 124999 477 122500
    ∷ []

pub fee_figures : Each figures
unfolding sum largest reached worth value_over value start_value word long bytes_of terms_of returns_of free_amount largest_amount
    surrenders admits rate_on penalty cash guarantee_after balance_after lifted_account next_account excess excess_paid maturity_value
    death_payment death_share discounted contract_value free_in admissible_in cash_in after_in reach_by paid_by death_by mean_by_list
    held_by_list process_of listed_term fee_value P returns_p row value_at found all_found figures
fee_figures = each figures (rw listed_contract tt)

-- "Contract P, static, wanted 99,999 has no fee, since the guarantee alone is worth 100,000."
pub no_fee_case : rate_most < smallest_fee P (returns_of returns_p) zero_rates static 99999
unfolding sum largest reached worth value_over value start_value word long bytes_of terms_of returns_of free_amount largest_amount
    surrenders admits rate_on penalty cash guarantee_after balance_after lifted_account next_account excess excess_paid maturity_value
    death_payment death_share discounted contract_value free_in admissible_in cash_in after_in reach_by paid_by death_by mean_by_list
    held_by_list process_of listed_term fee_value P returns_p
no_fee_case =
    fee_none P (returns_of returns_p) zero_rates static 99999 P_penalty
    (ltb→lt 99999 (fee_value P (returns_of returns_p) zero_rates static rate_most) (rw listed_contract tt))
