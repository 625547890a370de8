-- What reading a list, record and list, and all three inputs answers, in the words of the rules. Assumes nothing.
use Rattle.std.specs.Prelude.{List, ◌++◌, ℕ}
use Rattle.rules.specs.Contract.{Input, Terms, terms_of, returns_of}
use Rattle.rules.specs.Refusals.{Verdict, verdict, record_checks, list_checks, input_checks}
use Rattle.contract.specs.Reading.{Taken, taken_by}

-- reading any bytes as a list
unfoldable pub list_read : List ℕ → Taken ℕ
list_read bytes = taken_by (verdict (list_checks bytes)) (returns_of bytes).count

-- .. as record and list, by any verdict
unfoldable pub agreed_by : Verdict → List ℕ → List ℕ → Taken (Terms × ℕ)
agreed_by v bytes list = taken_by v (terms_of bytes, (returns_of list).count)

abbrev pub both_read : List ℕ → List ℕ → Taken (Terms × ℕ)
both_read bytes list = agreed_by (verdict (record_checks bytes ++ list_checks list)) bytes list

-- .. and rates
abbrev pub input_read : Input → Taken (Terms × ℕ)
input_read x = agreed_by (verdict (input_checks x)) x.bytes x.list
