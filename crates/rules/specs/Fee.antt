-- Document 02, request (vi), 'Which fee gives this price?': the fee that is sought, the whole answer of the call that seeks it, and
-- what it leaves in the working slice, on every input. Assumes nothing.
use Rattle.std.specs.Prelude.{List, [], ◌∷◌, ◌++◌, ℕ, ◌+◌, leb, ltb, replicate}
use Rattle.decision.specs.Index.{first}
use Rattle.rules.specs.Contract.{Input, terms_under, returns_of, rates_of, rate_most}
use Rattle.rules.specs.Date.{Behaviour}
use Rattle.rules.specs.Product.{Product, contract_value}
use Rattle.rules.specs.FixedTerm.{State, Held}
use Rattle.rules.specs.Refusals.{Check, check, verdict, on_success}
use Rattle.rules.specs.Operations.{Policy, Answer, answer, filled, behaviour_of, work_size, no_table_checks}
use Rattle.rules.specs.Policy.{Family}

-- the contract under a fee: "The record's own fee is range-checked and otherwise unused."
abbrev pub under_fee : Family → Input → ℕ → Product State Held
under_fee F x fee = F (terms_under fee x.bytes) (returns_of x.list) (rates_of x.rates)

module _ {S H : Type 0} where
  -- "the smallest fee from 0 to 10,000 whose value does not exceed it"; 10,001 where every fee gives more
  unfoldable pub fee_sought : (ℕ → Product S H) → Behaviour → ℕ → ℕ
  fee_sought under b wanted = first (λ fee. leb (contract_value (under fee) b) wanted) (rate_most + 1)

  -- "After the search, found or not, the needed working entries are zero; 19 is the one refusal that changes a working slice."
  unfoldable pub fee_work : Policy S H → ℕ → List ℕ → List ℕ
  fee_work p behaviour work = filled (verdict (no_table_checks p behaviour work)) (work_size p) (replicate (work_size p) 0) work

  module _ (p : Policy S H) (under : ℕ → Product S H) (behaviour wanted : ℕ) (work : List ℕ) where
    -- 19: "every fee from 0 to 10,000 gives more than wanted, found last"
    unfoldable pub fee_checks : List Check
    fee_checks = no_table_checks p behaviour work ++ (check 19 0 (ltb rate_most (fee_sought under (behaviour_of behaviour) wanted)) ∷ [])

    -- "get the smallest fee .., with that value"; of a refusal: "Other figures it would report are 0"
    unfoldable pub fee_found : ℕ
    fee_found = on_success (verdict fee_checks) (fee_sought under (behaviour_of behaviour) wanted) 0

    unfoldable pub fee_answer : Answer
    fee_answer =
        let b = behaviour_of behaviour in
        answer (verdict fee_checks) (contract_value (under (fee_sought under b wanted)) b) p.premium
