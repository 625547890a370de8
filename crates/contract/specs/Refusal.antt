-- A refusal's number and place. Assumes nothing.
use Rattle.std.specs.Prelude.{ℕ, Result, Ok, Err}
use Rattle.rules.specs.Refusals.{Verdict, accepted, refused}
use Rattle.contract.specs.declared.Refusal.{Refusal}
use Rattle.contract.specs.declared.Refusal.TheVariants as refusal

-- the column of numbers
abbrev pub number_in : Refusal → ℕ
number_in refusal.RecordLength = 1
number_in refusal.Premium = 2
number_in refusal.Level = 3
number_in refusal.Dates = 4
number_in refusal.Rates = 5
number_in refusal.Discount = 6
number_in refusal.ListLength = 7
number_in (refusal.Return k) = 8
number_in refusal.Weights = 9
number_in refusal.Behaviour = 10
number_in refusal.Short = 11
number_in refusal.State = 12
number_in (refusal.Path k) = 13
number_in (refusal.Amount k) = 14
number_in refusal.Step = 15
number_in refusal.MapShort = 16
number_in refusal.RatesLength = 17
number_in (refusal.DeathRate k) = 18
number_in refusal.NoFee = 19

-- .. and of places: 0 but for four
abbrev pub place_in : Refusal → ℕ
place_in refusal.RecordLength = 0
place_in refusal.Premium = 0
place_in refusal.Level = 0
place_in refusal.Dates = 0
place_in refusal.Rates = 0
place_in refusal.Discount = 0
place_in refusal.ListLength = 0
place_in (refusal.Return k) = k
place_in refusal.Weights = 0
place_in refusal.Behaviour = 0
place_in refusal.Short = 0
place_in refusal.State = 0
place_in (refusal.Path k) = k
place_in (refusal.Amount k) = k
place_in refusal.Step = 0
place_in refusal.MapShort = 0
place_in refusal.RatesLength = 0
place_in (refusal.DeathRate k) = k
place_in refusal.NoFee = 0

-- EACH CASE OF A RESULT: it was accepted, or refused with a number and a place
abbrev pub verdict_in : {A : Type 0} → Result A Refusal → Verdict
verdict_in (Ok x) = accepted
verdict_in (Err r) = refused (number_in r) (place_in r)
