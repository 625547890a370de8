-- Document 01, 'Lent slices', and document 02 (ii), for a host that lends them: how long each slice has to be, told before anything is
-- lent. Assumes nothing.
use Rattle.std.specs.Prelude.{List, [], ℕ}
use Rattle.rules.specs.Contract.{zero_rates}
use Rattle.rules.specs.Product.{entries}
use Rattle.rules.specs.FixedTerm.{State, Held, fixed_term}
use Rattle.rules.specs.Refusals.{verdict, number_of, on_success, record_checks}
use Rattle.rules.specs.Operations.{Policy, work_size}
use Rattle.rules.specs.Policy.{policy_with}
use Rattle.rules.specs.Map.{map_size}

-- entries of a working slice and of a table, words of a map
pub record Sizes : Type 0 where
  pub number : ℕ
  pub work : ℕ
  pub table : ℕ
  pub map : ℕ

-- what 11 and 16 ask for, where what is read is accepted; of a refusal: "Other figures it would report are 0"
unfoldable pub sizes_of : {S H : Type 0} → Policy S H → Sizes
sizes_of p =
    let v = verdict p.checks in record {
      number = number_of v;
      work = on_success v (work_size p) 0;
      table = on_success v (entries p.product) 0;
      map = on_success v (map_size p.product) 0;
    }

-- the policy of a record alone: no size depends on returns or rates
abbrev pub record_policy : List ℕ → Policy State Held
record_policy bytes = policy_with fixed_term (record_checks bytes) bytes [] zero_rates
