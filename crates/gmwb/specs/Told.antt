-- What the calls for a C host are given, write and leave: `a` is the number returned with the place, value and margin written.
-- Assumes nothing.
use Rattle.std.specs.Prelude.{List, ◌++◌, ◌≡◌, ℕ, ℤ}
use Rattle.rules.specs.Contract.{Input}
use Rattle.rules.specs.Product.{amount_layers, Claim}
use Rattle.rules.specs.FixedTerm.{State, Held, fixed_term}
use Rattle.rules.specs.Refusals.{Verdict, verdict}
use Rattle.rules.specs.Operations.{Policy, Answer, behaviour_of, valuing_checks, valued_answer, valued_work, valued_table, supplied_answer}
use Rattle.rules.specs.Operations.{supplied_work, no_table_checks}
use Rattle.rules.specs.Policy.{policy_of}
use Rattle.rules.specs.Map.{mapping_checks, count_after, map_after}
use Rattle.rules.specs.Sizes.{Sizes}
use Rattle.rules.specs.Fee.{under_fee, fee_answer, fee_found, fee_work}

-- the edition of header and archive: 100 × the last request of document 02, and the revisions since
abbrev pub version : ℕ
version = 701

-- gmwb_sizes: the number returned and the sizes written
abbrev pub sizes_told : ℕ → ℕ → ℕ → ℕ → Sizes
sizes_told number work table map = record { number = number; work = work; table = table; map = map }

-- the number returned, and the place, the value and the margin written
abbrev pub answer_told : ℕ → ℕ → ℕ → ℤ → Answer
answer_told number place value margin = record { number = number; place = place; value = value; margin = margin }

-- a policy valued, by the verdict on the call; and the third demand, on number 0
pub record Valued (p : Policy State Held) (v : Verdict) (behaviour : ℕ) (work table work' table' : List ℕ) (a : Answer) : Type 0 where
  pub answer_is : a ≡ valued_answer p v behaviour
  pub work_is : work' ≡ valued_work p v behaviour work
  pub table_is : table' ≡ valued_table p v behaviour table
  pub claim : a.number ≡ 0 → Claim p.product (behaviour_of behaviour) a.value table'

-- gmwb_value
abbrev pub ValueTold : Input → ℕ → List ℕ → List ℕ → List ℕ → List ℕ → Answer → Type 0
ValueTold x behaviour work table = let p = policy_of x in Valued p (verdict (valuing_checks p behaviour work table)) behaviour work table

-- gmwb_value_no_table; the third demand, on number 0, is of any table that starts with the recorded amounts
pub record NoTableTold (x : Input) (behaviour : ℕ) (work work' : List ℕ) (a : Answer) : Type 0 where
  pub answer_is : a ≡ valued_answer (policy_of x) (verdict (no_table_checks (policy_of x) behaviour work)) behaviour
  pub work_is : work' ≡ valued_work (policy_of x) (verdict (no_table_checks (policy_of x) behaviour work)) behaviour work
  pub claim : a.number ≡ 0 → (rest : List ℕ)
      → let X = (policy_of x).product in Claim X (behaviour_of behaviour) a.value (amount_layers X (behaviour_of behaviour) ++ rest)

-- gmwb_value_map
pub record MapTold (x : Input) (behaviour : ℕ) (work table map work' table' map' : List ℕ) (a : Answer) (count : ℕ) : Type 0 where
  pub valued : Valued (policy_of x) (verdict (mapping_checks (policy_of x) behaviour work table map)) behaviour work table work' table' a
  pub count_is : count ≡ count_after (policy_of x) (verdict (mapping_checks (policy_of x) behaviour work table map)) behaviour table
  pub map_is : map' ≡ map_after (policy_of x) (verdict (mapping_checks (policy_of x) behaviour work table map)) behaviour table map

-- gmwb_fee; the third demand, on number 0, is of the contract with the fee found and any table that starts with its recorded amounts
pub record FeeTold (x : Input) (behaviour wanted : ℕ) (work work' : List ℕ) (a : Answer) (fee : ℕ) : Type 0 where
  pub answer_is : a ≡ fee_answer (policy_of x) (under_fee fixed_term x) behaviour wanted work
  pub fee_is : fee ≡ fee_found (policy_of x) (under_fee fixed_term x) behaviour wanted work
  pub work_is : work' ≡ fee_work (policy_of x) behaviour work
  pub claim : a.number ≡ 0 → (rest : List ℕ)
      → let X = under_fee fixed_term x fee in Claim X (behaviour_of behaviour) a.value (amount_layers X (behaviour_of behaviour) ++ rest)

-- gmwb_value_table
pub record TableTold (x : Input) (work table work' : List ℕ) (a : Answer) : Type 0 where
  pub answer_is : a ≡ supplied_answer (policy_of x) work table
  pub work_is : work' ≡ supplied_work (policy_of x) work table
