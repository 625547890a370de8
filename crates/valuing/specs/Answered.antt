-- What the calls answer, and what the valuing of terms that were read leaves. Assumes nothing.
use Rattle.std.specs.Prelude.{List, ◌++◌, ◌≡◌, ℕ, ◌+◌, ◌≤◌, pos, length, drop, Result, Ok, Err}
use Rattle.std.proofs.Common.{refl, sym, subst}
use Rattle.slices.specs.Stored.{stored}
use Rattle.slices.specs.Rows.{cells}
use Rattle.rules.specs.Contract.{Input, Terms, Returns, Rates, terms_of, returns_of, rates_of}
use Rattle.rules.specs.Date.{Behaviour, margin}
use Rattle.rules.specs.Product.{entries, contract_value, value_layer, amount_layers, Claim}
use Rattle.rules.specs.FixedTerm.{State, Held, fixed_term, process_of, layout_of, layer_size}
use Rattle.rules.specs.Refusals.{Verdict, accepted, refused, verdict, number_of, place_of, on_success}
use Rattle.rules.specs.Operations.{Policy, Answer, answer, filled, work_after, behaviour_of, valuing_checks, valued_answer, valued_work}
use Rattle.rules.specs.Operations.{valued_table, no_table_checks}
use Rattle.rules.specs.Policy.{policy_of}
use Rattle.laws.specs.Terms.{table_size, read_policy}
use Rattle.laws.specs.Date.{shared}
use Rattle.expect.specs.Expected.{expected}
use Rattle.date.specs.Behaviour.{behaviour_in}
use Rattle.date.specs.declared.Behaviour as date
use Rattle.contract.specs.declared.Refusal.{Refusal}
use Rattle.contract.specs.Refusal.{number_in, place_in}
use Rattle.contract.specs.Reading.{Taken, terms_in, tells}
use Rattle.input.specs.declared.Policy as input
use Rattle.input.specs.Read.{agreed_by}
use Rattle.valuing.specs.declared.Valuation.{Valuation}

-- a refusal, as the rules tell it
abbrev pub refusal : ℕ → ℕ → Answer
refusal n p = record { number = n; place = p; value = 0; margin = pos 0 }

-- EACH CASE OF A RESULT: a value with its margin, or the refusal's number and place
abbrev pub told : Result Valuation Refusal → Answer
told (Ok v) = record { number = 0; place = 0; value = v.value; margin = v.margin }
told (Err r) = refusal (number_in r) (place_in r)

-- what is told of a policy and a behaviour that passed the checks: the terms and how many returns
abbrev pub checked_tells : Result (input.Policy × date.Behaviour) Refusal → Taken (Terms × ℕ)
checked_tells r = tells (λ (x : input.Policy × date.Behaviour). (terms_in x.0.contract, (returns_of x.0.list.now).count)) r

-- .. which are those that were given
pub record Checked (x : Input) (behaviour : ℕ) (passed : input.Policy × date.Behaviour) : Type 0 where
  pub list_is : passed.0.list.now ≡ x.list
  pub rates_is : passed.0.rates.now ≡ x.rates
  pub behaviour_is : behaviour_in passed.1 ≡ behaviour_of behaviour

-- what is agreed once the checks of a valuation pass
abbrev pub valuing_agreed : Input → ℕ → List ℕ → List ℕ → Taken (Terms × ℕ)
valuing_agreed x behaviour work table = agreed_by (verdict (valuing_checks (policy_of x) behaviour work table)) x.bytes x.list

-- .. with no table
abbrev pub no_table_agreed : Input → ℕ → List ℕ → Taken (Terms × ℕ)
no_table_agreed x behaviour work = agreed_by (verdict (no_table_checks (policy_of x) behaviour work)) x.bytes x.list

-- .. by a verdict that accepts
pub record Passed (v : Verdict) (x : Input) (behaviour : ℕ) (policy : input.Policy) (b : date.Behaviour) : Type 0 where
  pub accepts : v ≡ accepted
  pub terms : terms_in policy.contract ≡ terms_of x.bytes
  pub same : Checked x behaviour (policy, b)

-- what holds of a policy that passed holds of the bytes
pub of_the_bytes : {v : Verdict} {x : Input} {behaviour : ℕ} {policy : input.Policy} {b : date.Behaviour} → Passed v x behaviour policy b
    → (P : Behaviour → Terms → List ℕ → List ℕ → Type 0)
    → P (behaviour_in b) (terms_in policy.contract) policy.list.now policy.rates.now
    → P (behaviour_of behaviour) (terms_of x.bytes) x.list x.rates
of_the_bytes {x = x} {policy = policy} {b = b} told P h =
    subst (λ (d : Behaviour). P d (terms_of x.bytes) x.list x.rates) told.same.behaviour_is
    (subst (λ (t : Terms). P (behaviour_in b) t x.list x.rates) told.terms
    (subst (λ (l : List ℕ). P (behaviour_in b) (terms_in policy.contract) l x.rates) told.same.list_is
    (subst (λ (d : List ℕ). P (behaviour_in b) (terms_in policy.contract) policy.list.now d) told.same.rates_is h)))

-- a working slice that is long enough
pub record WorkLent (c : Terms) (work : List ℕ) : Type 0 where
  pub room : layer_size c + layer_size c ≤ length work

-- .. and a table
pub record TableLent (c : Terms) (work table : List ℕ) : Type 0 where
  pub first : WorkLent c work
  pub room_table : table_size c ≤ length table

-- once the first layer holds the values of date 1
pub record Settled (c : Terms) (rs : Returns) (rate : ℕ) (work : List ℕ) (r : Valuation) (work' : List ℕ) : Type 0 where
  pub value_is : r.value ≡ expected c rs (shared rate (cells work 0 (c.premium + 1))) c.premium c.premium
  pub margin_is : r.margin ≡ margin r.value c.premium
  pub work_is : work' ≡ stored work (layer_size c) (λ (i : ℕ). 0) (layer_size c)

-- the answer and the working slice
pub record Worked (b : Behaviour) (c : Terms) (rs : Returns) (ds : Rates) (work : List ℕ) (r : Valuation)
    (work' : List ℕ) : Type 0 where
  pub answer_is : told (Ok r) ≡ answer accepted (contract_value (fixed_term c rs ds) b) c.premium
  pub work_is : work' ≡ work_after (read_policy c rs ds) accepted (value_layer (fixed_term c rs ds) b) work

-- .. and the table, where it has room for all dates
pub record Answered (b : Behaviour) (c : Terms) (rs : Returns) (ds : Rates) (work table : List ℕ) (r : Valuation)
    (work' table' : List ℕ) : Type 0
  where
    pub worked : Worked b c rs ds work r work'
    pub table_is : table_size c ≤ length table → table' ≡ amount_layers (fixed_term c rs ds) b ++ drop (table_size c) table

-- ---- what a call that values a policy reports and leaves, by its verdict
pub record Reported (p : Policy State Held) (v : Verdict) (behaviour : ℕ) (work table : List ℕ) (r : Answer)
    (work' table' : List ℕ) : Type 0
  where
    pub answer_is : r ≡ valued_answer p v behaviour
    pub work_is : work' ≡ valued_work p v behaviour work
    pub table_is : table' ≡ valued_table p v behaviour table

-- WHAT VALUING ANSWERS AND LEAVES, on any input; and where it answers number 0, the third demand's claim of the value that it
-- reports and the table that it leaves
pub record Valuing (x : Input) (behaviour : ℕ) (work table : List ℕ) (r : Answer) (work' table' : List ℕ) : Type 0 where
  pub reported : Reported (policy_of x) (verdict (valuing_checks (policy_of x) behaviour work table)) behaviour work table r work' table'
  pub claim : r.number ≡ 0 → Claim (policy_of x).product (behaviour_of behaviour) r.value table'

-- WHAT VALUING WITH NO TABLE ANSWERS AND LEAVES: the values' half of the same, and the claim of the value that it reports and of any
-- table that starts with the recorded amounts
pub record ValuingNoTable (x : Input) (behaviour : ℕ) (work : List ℕ) (r : Answer) (work' : List ℕ) : Type 0 where
  pub answer_is : r ≡ valued_answer (policy_of x) (verdict (no_table_checks (policy_of x) behaviour work)) behaviour
  pub work_is : work' ≡ valued_work (policy_of x) (verdict (no_table_checks (policy_of x) behaviour work)) behaviour work
  pub claim : r.number ≡ 0 → (rest : List ℕ)
      → let X = (policy_of x).product in
      Claim X (behaviour_of behaviour) r.value (amount_layers X (behaviour_of behaviour) ++ rest)

module _ (p : Policy State Held) {v : Verdict} (behaviour : ℕ) {work table : List ℕ} {r : Answer} where
  pub reported_refused : (n q : ℕ) → v ≡ refused n q → r ≡ refusal n q → Reported p v behaviour work table r work table
  unfolding valued_answer valued_work valued_table answer work_after filled on_success number_of place_of
  reported_refused n q e f = record { answer_is = rw e f; work_is = rw e; table_is = rw e }

-- the policy that was read
pub reported : (x : Input) {v : Verdict} (behaviour : ℕ) {work table work' table' : List ℕ} {r : Valuation} {c : Terms}
    → v ≡ accepted → c ≡ terms_of x.bytes → table_size c ≤ length table
    → Answered (behaviour_of behaviour) c (returns_of x.list) (rates_of x.rates) work table r work' table'
    → Reported (policy_of x) v behaviour work table (told (Ok r)) work' table'
unfolding valued_answer valued_work valued_table work_after filled on_success entries table_size fixed_term process_of layout_of
reported x {v} behaviour {work} {table} {work'} {table'} {r} e same room a =
    let b =
    subst (λ (t : Terms). Answered (behaviour_of behaviour) t (returns_of x.list) (rates_of x.rates) work table r work' table') same a in
    record {
      answer_is = rw e b.worked.answer_is;
      work_is = rw e b.worked.work_is;
      table_is = rw e (b.table_is (rw (sym same) room));
    }

-- .. and passed
pub reported_passed : (x : Input) {v : Verdict} (behaviour : ℕ) {work table work' table' : List ℕ} {r : Valuation}
    {policy : input.Policy} {b : date.Behaviour} → Passed v x behaviour policy b → table_size (terms_in policy.contract) ≤ length table
    → Answered (behaviour_in b) (terms_in policy.contract) (returns_of policy.list.now) (rates_of policy.rates.now) work table
    r work' table'
    → Reported (policy_of x) v behaviour work table (told (Ok r)) work' table'
reported_passed x behaviour {work} {table} {work'} {table'} {r} passed room a =
    reported x behaviour passed.accepts refl (subst (λ (t : Terms). table_size t ≤ length table) passed.terms room)
    (of_the_bytes passed (λ d t list rates. Answered d t (returns_of list) (rates_of rates) work table r work' table') a)
