-- Document 01, 'What an office is told': checks, their order, and what a refusal gives. Sentences marked (i), (v) are of
-- document 02, by its requests. Assumes nothing.
use Rattle.std.specs.Prelude.{Bool, cond, not, ◌||◌, List, [], ◌∷◌, ◌++◌, ℕ, ◌+◌, ◌*◌, ◌%◌, ltb, eqb, length}
use Rattle.decision.specs.Index.{sum, first}
use Rattle.rules.specs.Contract.{Input, Terms, Returns, record_bytes, terms_of, top_most, dates_most, rate_most, discount_most}
use Rattle.rules.specs.Contract.{return_bytes, returns_of, returns_most, factor_most, weight_most, weight_total, rate_bytes, rates_of}

-- a row of the table of refusals: its number, its place, and whether its condition holds
pub data Check : Type 0 where
  check : ℕ → ℕ → Bool → Check

-- the first of n things, counted from `from`, that is bad
unfoldable pub check_each : ℕ → ℕ → (ℕ → Bool) → ℕ → Check
check_each number from bad n = let k = first bad n in check number (from + k) (ltb k n)

pub data Verdict : Type 0 where
  accepted : Verdict
  refused : ℕ → ℕ → Verdict

-- "Checks run in the order of the table": the first that fails refuses
unfoldable pub verdict : List Check → Verdict
verdict [] = accepted
verdict (check number place failed ∷ ks) = cond failed (refused number place) (verdict ks)

-- "Success gives number 0, place 0. A refusal gives its number and place"
unfoldable pub number_of : Verdict → ℕ
number_of accepted = 0
number_of (refused n p) = n

unfoldable pub place_of : Verdict → ℕ
place_of accepted = 0
place_of (refused n p) = p

-- what is reported or left on success, and on refusal
unfoldable pub on_success : {A : Type 0} → Verdict → A → A → A
on_success accepted new old = new
on_success (refused n p) new old = old

-- "not .. to ..": below the least or above the most
unfoldable pub outside : ℕ → ℕ → ℕ → Bool
outside least most x = ltb x least || ltb most x

-- "a lent slice shorter than needed"
unfoldable pub short : ℕ → List ℕ → Bool
short needed slice = ltb (length slice) needed

-- 2: "top above 4,000, or premium not 1 to top"
-- 3: "level not 1 to premium"
-- 4: "dates not 1 to 40"
-- 5: "fee or penalty rate above 10,000"
-- 6: "discount not 1 to 1,000,000"
-- 15: (i) "step above 10,000 or a spare byte not zero, checked after 6"
unfoldable pub terms_checks : Terms → List Check
terms_checks c =
    check 2 0 (ltb top_most c.top || outside 1 c.top c.premium)
    ∷ check 3 0 (outside 1 c.premium c.level)
    ∷ check 4 0 (outside 1 dates_most c.dates)
    ∷ check 5 0 (ltb rate_most c.fee || ltb rate_most c.penalty)
    ∷ check 6 0 (outside 1 discount_most c.discount)
    ∷ check 15 0 (ltb rate_most c.step || not (eqb c.spare 0))
    ∷ []

-- 1: (i) "number 1 now means not 20 bytes"
unfoldable pub record_checks : List ℕ → List Check
record_checks bytes = check 1 0 (not (eqb (length bytes) record_bytes)) ∷ terms_checks (terms_of bytes)

-- 8: "factor above 30,000, or weight not 1 to 10,000"
unfoldable pub bad_return : Returns → ℕ → Bool
bad_return rs k = ltb factor_most (rs.factor k) || outside 1 weight_most (rs.weight k)

-- 7: "list empty, over 256 bytes, or not a multiple of 4"
-- 8, first bad record
-- 9: "weights do not add to 10,000"
unfoldable pub list_checks : List ℕ → List Check
list_checks bytes =
    let rs = returns_of bytes in
    check 7 0 (outside 1 (return_bytes * returns_most) (length bytes) || not (eqb (length bytes % return_bytes) 0))
    ∷ check_each 8 0 (bad_return rs) rs.count
    ∷ check 9 0 (not (eqb (sum rs.weight rs.count) weight_total))
    ∷ []

-- 17: (v) "list not of 2 × N bytes"
-- 18: (v) "first rate above 10,000, place its index"
unfoldable pub rates_checks : ℕ → List ℕ → List Check
rates_checks dates bytes =
    check 17 0 (not (eqb (length bytes) (rate_bytes * dates)))
    ∷ check_each 18 0 (λ i. ltb rate_most (rates_of bytes i)) dates
    ∷ []

-- record, returns and rates: (v) "both after 9"
unfoldable pub input_checks : Input → List Check
input_checks x = record_checks x.bytes ++ list_checks x.list ++ rates_checks (terms_of x.bytes).dates x.rates
