-- What reading a record answers, in the words of the rules. Assumes nothing.
use Rattle.std.specs.Prelude.{List, ℕ, Result, Ok, Err}
use Rattle.rules.specs.Contract.{Terms, terms_of}
use Rattle.rules.specs.Refusals.{Verdict, accepted, refused, verdict, record_checks}
use Rattle.contract.specs.declared.Contract.{Contract}
use Rattle.contract.specs.declared.Refusal.{Refusal}
use Rattle.contract.specs.Refusal.{number_in, place_in}

-- the struct and the record of the rules hold the same fields
abbrev pub terms_in : Contract → Terms
terms_in c = record {
  premium = c.premium;
  level = c.level;
  top = c.top;
  dates = c.dates;
  fee = c.fee;
  penalty = c.penalty;
  discount = c.discount;
  step = c.step;
  spare = c.spare;
}

-- what is told of something read: it, or the refusal's number and place
pub data Taken (A : Type 0) : Type 0 where
  taken : A → Taken A
  turned : ℕ → ℕ → Taken A

unfoldable pub taken_by : {A : Type 0} → Verdict → A → Taken A
taken_by accepted x = taken x
taken_by (refused n p) x = turned n p

-- EACH CASE OF A RESULT: what was read, seen by `f`, or the refusal's number and place
abbrev pub tells : {A B : Type 0} → (A → B) → Result A Refusal → Taken B
tells f (Ok x) = taken (f x)
tells f (Err r) = turned (number_in r) (place_in r)

-- .. of a record
abbrev pub reading_tells : Result Contract Refusal → Taken Terms
reading_tells r = tells terms_in r

-- reading any bytes as a record
unfoldable pub record_read : List ℕ → Taken Terms
record_read bytes = taken_by (verdict (record_checks bytes)) (terms_of bytes)
