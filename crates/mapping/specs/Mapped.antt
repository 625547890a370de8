-- What valuing with a map answers, and what it leaves in each slice, on any input. Assumes nothing.
use Rattle.std.specs.Prelude.{List, ◌≡◌, ℕ, Result, Ok, Err}
use Rattle.rules.specs.Contract.{Input}
use Rattle.rules.specs.Product.{Claim}
use Rattle.rules.specs.Refusals.{verdict}
use Rattle.rules.specs.Operations.{Answer, behaviour_of}
use Rattle.rules.specs.Policy.{policy_of}
use Rattle.rules.specs.Map.{mapping_checks, map_after, count_after}
use Rattle.contract.specs.declared.Refusal.{Refusal}
use Rattle.contract.specs.Refusal.{number_in, place_in}
use Rattle.valuing.specs.Answered.{told, refusal, Reported}
use Rattle.mapping.specs.declared.Mapped as declared

-- the answer of valuing, and the number of set bits
pub record Told : Type 0 where
  pub answer : Answer
  pub count : ℕ

-- a refusal, with no bit counted
abbrev pub map_refusal : ℕ → ℕ → Told
map_refusal n p = record { answer = refusal n p; count = 0 }

-- EACH CASE OF A RESULT
abbrev pub told_map : Result declared.Mapped Refusal → Told
told_map (Ok m) = record { answer = told (Ok m.valuation); count = m.count }
told_map (Err r) = map_refusal (number_in r) (place_in r)

-- WHAT VALUING WITH A MAP ANSWERS AND LEAVES: what valuing does, by the verdict with the map, and the map of the table that it leaves
pub record Mapping (x : Input) (behaviour : ℕ) (work table map : List ℕ) (r : Told) (work' table' map' : List ℕ) : Type 0 where
  pub reported : Reported (policy_of x) (verdict (mapping_checks (policy_of x) behaviour work table map)) behaviour work table r.answer
      work' table'
  pub count_is : r.count ≡ count_after (policy_of x) (verdict (mapping_checks (policy_of x) behaviour work table map)) behaviour table
  pub map_is : map' ≡ map_after (policy_of x) (verdict (mapping_checks (policy_of x) behaviour work table map)) behaviour table map
  -- the third demand, on number 0, of the value that is reported and the table that is left
  pub claim : r.answer.number ≡ 0 → Claim (policy_of x).product (behaviour_of behaviour) r.answer.value table'
