-- What the call for the benchmark returns, writes and leaves. Assumes nothing.
use Rattle.std.specs.Prelude.{List, ◌≡◌, ℕ}
use Rattle.rules.specs.Contract.{Input}
use Rattle.rules.specs.Refusals.{verdict}
use Rattle.rules.specs.Operations.{no_table_checks, valued_answer, valued_work}
use Rattle.rules.specs.Policy.{policy_of}

pub record NoTableTold (x : Input) (behaviour : ℕ) (work : List ℕ) (number value : ℕ) (work' : List ℕ) : Type 0 where
  pub number_is : number ≡ (valued_answer (policy_of x) (verdict (no_table_checks (policy_of x) behaviour work)) behaviour).number
  pub value_is : value ≡ (valued_answer (policy_of x) (verdict (no_table_checks (policy_of x) behaviour work)) behaviour).value
  pub work_is : work' ≡ valued_work (policy_of x) (verdict (no_table_checks (policy_of x) behaviour work)) behaviour work
