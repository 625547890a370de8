-- Document 02, request (vii): a sum by account is the sum by list, for every list, so the contract is the one whose means are summed
-- return by return. Assumes nothing.
use Rattle.std.specs.Prelude.{◌≡◌, ℕ, suc, ◌*◌}
use Rattle.std.proofs.Common.{ap, arith}
use Rattle.std.proofs.Math.Nat.{min-le_left}
use Rattle.decision.specs.Index.{sum}
use Rattle.decision.specs.Groups.{le_most, sum_by_keys}
use Rattle.decision.specs.Process.{reached}
use Rattle.decision.specs.Means.{averaging}
use Rattle.rules.specs.Contract.{Terms, Returns, Rates}
use Rattle.rules.specs.Date.{lifted_account, next_account, excess, excess_paid, discounted}
use Rattle.rules.specs.FixedTerm.{State, Held, admissible_in, surrender_in, reach_by, paid_by, death_by, mean_by_list, held_by_list}
use Rattle.rules.specs.FixedTerm.{weight_to, excess_most, by_account, mean_by_account, value_with, held_by_account, process_of, layout_of}
use Rattle.rules.specs.FixedTerm.{fixed_term}
use Rattle.rules.specs.ByList.{listed_term}

-- "proved equal to the list's for every list": accepted or not, in any order, with equal factors; for every function of account and
-- excess
pub by_account_is_by_list : (c : Terms) (rs : Returns) (balance : ℕ) (f : ℕ → ℕ → ℕ)
    → by_account c rs balance f
    ≡ sum (λ k.
    rs.weight k * f (next_account c.fee c.top balance (rs.factor k)) (excess c.fee c.top balance (rs.factor k)))
    rs.count
unfolding by_account weight_to excess_most next_account
by_account_is_by_list c rs balance f =
    sum_by_keys _ _ rs.weight f rs.count (suc c.top) _
    (λ k l. let h = min-le_left c.top (lifted_account c.fee balance (rs.factor k)) in omega arith)
    (λ k l. let h = le_most (λ k. excess c.fee c.top balance (rs.factor k)) rs.count k l in omega arith)

-- the mean of every date
pub mean_by_list_lem : (c : Terms) (rs : Returns) (ds : Rates) (i : ℕ) (h : Held) (v : State → ℕ)
    → held_by_account c rs ds i h v ≡ held_by_list c rs ds i h (reached (process_of c rs ds) v h)
unfolding held_by_account mean_by_account value_with held_by_list mean_by_list reached process_of paid_by excess_paid reach_by death_by
mean_by_list_lem c rs ds i h v = ap (discounted c.discount) (by_account_is_by_list c rs h.balance (value_with ds i h.guarantee v))

-- THE WHOLE CONTRACT, so every value, table, supplied value and fee
pub listed_contract : fixed_term ≡ listed_term
unfolding fixed_term listed_term process_of
listed_contract j c rs ds = record {
  process = averaging (λ i h v. mean_by_list_lem c rs ds i h v j) (process_of c rs ds);
  admissible = admissible_in c;
  surrender = surrender_in c;
  layout = layout_of c;
}
