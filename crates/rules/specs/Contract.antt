-- Document 01, 'Units and records': the contract record, the return list and the death rates, their layout and their ranges.
-- Sentences marked (i), (v), (vi) are of document 02, by its requests. Assumes nothing.
use Rattle.std.specs.Prelude.{List, [], ◌∷◌, ℕ, zero, suc, ◌+◌, ◌*◌, ◌/◌, ◌%◌, get_or, length}

-- ---- numbers in bytes
-- "fields are unsigned, low byte first": the two bytes and the four bytes from i on
unfoldable pub word : List ℕ → ℕ → ℕ
word bytes i = get_or bytes i 0 + 256 * get_or bytes (i + 1) 0

unfoldable pub long : List ℕ → ℕ → ℕ
long bytes i = word bytes i + 65536 * word bytes (i + 2)

-- the n bytes of a number
unfoldable pub bytes_of : ℕ → ℕ → List ℕ
bytes_of zero x = []
bytes_of (suc n) x = x % 256 ∷ bytes_of n (x / 256)

-- ---- the contract
pub record Terms : Type 0 where
  pub premium : ℕ
  pub level : ℕ
  pub top : ℕ
  pub dates : ℕ
  pub fee : ℕ
  pub penalty : ℕ
  pub discount : ℕ
  pub step : ℕ
  pub spare : ℕ

-- (i) "The record grows to 20 bytes"
abbrev pub record_bytes : ℕ
record_bytes = 20

-- the table of offsets, and (i) "a penalty step in ten-thousandths at offset 16, and two spare bytes at 18"; the fee, of which (vi)
-- tries others, is given
unfoldable pub terms_under : ℕ → List ℕ → Terms
terms_under fee bytes = record {
  premium = word bytes 0;
  level = word bytes 2;
  top = word bytes 4;
  dates = word bytes 6;
  fee = fee;
  penalty = word bytes 10;
  discount = long bytes 12;
  step = word bytes 16;
  spare = word bytes 18;
}

-- the record's own fee stands at offset 8
unfoldable pub terms_of : List ℕ → Terms
terms_of bytes = terms_under (word bytes 8) bytes

-- the column of ranges
abbrev pub top_most : ℕ
top_most = 4000

abbrev pub dates_most : ℕ
dates_most = 40

-- of the fee, the penalty rate, the penalty step and a death rate, in ten-thousandths
abbrev pub rate_most : ℕ
rate_most = 10000

-- in millionths
abbrev pub discount_most : ℕ
discount_most = 1000000

-- ---- the returns
-- by their number, from 0: "Equal factors may stand twice."
pub record Returns : Type 0 where
  pub count : ℕ
  pub factor : ℕ → ℕ
  pub weight : ℕ → ℕ

-- "A return record has 4 bytes: factor (2 bytes ..) and weight (2 bytes ..)."
abbrev pub return_bytes : ℕ
return_bytes = 4

unfoldable pub returns_of : List ℕ → Returns
returns_of bytes = record {
  count = length bytes / return_bytes;
  factor = λ k. word bytes (return_bytes * k);
  weight = λ k. word bytes (return_bytes * k + 2);
}

abbrev pub factor_most : ℕ
factor_most = 30000

abbrev pub weight_most : ℕ
weight_most = 10000

-- "A list has 1 to 64 records and its weights add to 10,000."
abbrev pub returns_most : ℕ
returns_most = 64

abbrev pub weight_total : ℕ
weight_total = 10000

-- ---- the death rates
-- (v) "A list of N death rates (2 bytes, ten-thousandths), one per period": by the date on which the period begins, from 0
abbrev pub Rates : Type 0
Rates = ℕ → ℕ

abbrev pub rate_bytes : ℕ
rate_bytes = 2

unfoldable pub rates_of : List ℕ → Rates
rates_of bytes i = word bytes (rate_bytes * i)

-- (v) "a walk is a living holder's and takes no rates"
abbrev pub zero_rates : Rates
zero_rates i = 0

-- ---- what a contract is read from: the bytes of its record, of its return list and of its death rates
pub record Input : Type 0 where
  pub bytes : List ℕ
  pub list : List ℕ
  pub rates : List ℕ
