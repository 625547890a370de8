-- What the search for a fee holds, answers and leaves. Assumes nothing.
use Rattle.std.specs.Prelude.{cond, List, ◌++◌, ◌≡◌, ℕ, ◌+◌, ◌≤◌, ltb, length, get_or, Option, Some, None, Result, Ok, Err}
use Rattle.decision.specs.Bisection.{Narrowed}
use Rattle.rules.specs.Contract.{Input, Terms, Returns, Rates, rate_most}
use Rattle.rules.specs.Date.{Behaviour}
use Rattle.rules.specs.Product.{amount_layers, Claim}
use Rattle.rules.specs.FixedTerm.{fixed_term, layer_size}
use Rattle.rules.specs.Refusals.{accepted}
use Rattle.rules.specs.Operations.{Answer, answer, behaviour_of}
use Rattle.rules.specs.Policy.{policy_of}
use Rattle.rules.specs.Fee.{under_fee, fee_answer, fee_found, fee_work}
use Rattle.laws.specs.Fee.{fee_value, meets, smallest_fee}
use Rattle.contract.specs.declared.Refusal.{Refusal}
use Rattle.contract.specs.Refusal.{number_in, place_in}
use Rattle.valuing.specs.declared.Valuation.{Valuation}
use Rattle.valuing.specs.Answered.{told, refusal}
use Rattle.pricing.specs.declared.Priced as declared
use Rattle.pricing.specs.declared.Bracket as bracket

-- the answer of valuing under a fee, and the fee
pub record Told : Type 0 where
  pub answer : Answer
  pub fee : ℕ

-- a refusal, with no fee
abbrev pub fee_refusal : ℕ → ℕ → Told
fee_refusal n p = record { answer = refusal n p; fee = 0 }

-- EACH CASE OF A RESULT
abbrev pub told_fee : Result declared.Priced Refusal → Told
told_fee (Ok x) = record { answer = told (Ok x.valuation); fee = x.fee }
told_fee (Err r) = fee_refusal (number_in r) (place_in r)

-- .. and of what a search has found; of nothing, that there is no such fee
abbrev pub told_found : Option declared.Priced → Told
told_found (Some x) = told_fee (Ok x)
told_found None = fee_refusal 19 0

-- what is told of a fee; of 10,001, that there is none
unfoldable pub priced_at : Terms → Returns → Rates → Behaviour → ℕ → Told
priced_at c rs ds b fee =
    cond (ltb rate_most fee) (fee_refusal 19 0) (record {
      answer = answer accepted (fee_value c rs ds b fee) c.premium;
      fee = fee;
    })

-- a fee that gives more than wanted is left below, any other is the end
abbrev pub narrowed : bracket.Bracket → ℕ → Valuation → ℕ → bracket.Bracket
narrowed s fee a wanted =
    cond (ltb wanted a.value) (record { low = fee + 1; high = s.high; found = s.found })
    (record { low = s.low; high = fee; found = Some (record { valuation = a; fee = fee }) })

-- what a valuation or a search leaves of what stands behind both layers
pub record Kept (c : Terms) (work work' : List ℕ) : Type 0 where
  pub long : length work' ≡ length work
  pub rest : (x : ℕ) → layer_size c + layer_size c ≤ x → get_or work' x 0 ≡ get_or work x 0

-- what the loop holds
pub record Searching (c : Terms) (rs : Returns) (ds : Rates) (b : Behaviour) (wanted : ℕ) (work : List ℕ) (s : bracket.Bracket)
    (work' : List ℕ) : Type 0
  where
    pub ends : Narrowed (meets c rs ds b wanted) (rate_most + 1) s.low s.high
    pub found_is : told_found s.found ≡ priced_at c rs ds b s.high
    pub kept : Kept c work work'

-- .. and the search leaves
pub record Found (c : Terms) (rs : Returns) (ds : Rates) (b : Behaviour) (wanted : ℕ) (work : List ℕ) (r : Option declared.Priced)
    (work' : List ℕ) : Type 0
  where
    pub found_is : told_found r ≡ priced_at c rs ds b (smallest_fee c rs ds b wanted)
    pub kept : Kept c work work'

-- WHAT THE SEARCH FOR A FEE ANSWERS AND LEAVES, on any input; and where it answers number 0, the third demand's claim of the value
-- told, for the contract with the fee found and any table that starts with its recorded amounts
pub record Pricing (x : Input) (behaviour wanted : ℕ) (work : List ℕ) (r : Told) (work' : List ℕ) : Type 0 where
  pub answer_is : r.answer ≡ fee_answer (policy_of x) (under_fee fixed_term x) behaviour wanted work
  pub fee_is : r.fee ≡ fee_found (policy_of x) (under_fee fixed_term x) behaviour wanted work
  pub work_is : work' ≡ fee_work (policy_of x) behaviour work
  pub claim : r.answer.number ≡ 0 → (rest : List ℕ)
      → let X = under_fee fixed_term x r.fee in
      Claim X (behaviour_of behaviour) r.answer.value (amount_layers X (behaviour_of behaviour) ++ rest)
