-- The policies of the fixed term: what its bytes stand for. Assumes nothing.
use Rattle.std.specs.Prelude.{List, ◌++◌, ℕ}
use Rattle.rules.specs.Contract.{Input, Terms, Returns, Rates, terms_of, returns_of, rates_of, zero_rates}
use Rattle.rules.specs.Product.{Product}
use Rattle.rules.specs.FixedTerm.{State, Held, fixed_term}
use Rattle.rules.specs.Refusals.{Check, record_checks, list_checks, input_checks}
use Rattle.rules.specs.Operations.{Policy}

-- a product for all terms, returns and death rates
abbrev pub Family : Type 1
Family = Terms → Returns → Rates → Product State Held

-- the policy of a record and a list, with its checks and its death rates
abbrev pub policy_with : Family → List Check → List ℕ → List ℕ → Rates → Policy State Held
policy_with F checks bytes list ds = record {
  checks = checks;
  premium = (terms_of bytes).premium;
  product = F (terms_of bytes) (returns_of list) ds;
}

-- what a record, a list and rates stand for
abbrev pub policy_by : Family → Input → Policy State Held
policy_by F x = policy_with F (input_checks x) x.bytes x.list (rates_of x.rates)

abbrev pub policy_of : Input → Policy State Held
policy_of x = policy_by fixed_term x

-- .. and of a holder who lives, which a walk follows
abbrev pub living_policy : List ℕ → List ℕ → Policy State Held
living_policy bytes list = policy_with fixed_term (record_checks bytes ++ list_checks list) bytes list zero_rates
