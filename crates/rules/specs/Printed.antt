-- Document 01, 'Contracts worked by hand': what the program prints for the bytes of terms.bin and returns.bin, as ASCII codes.
-- A sentence marked (v) is of document 02, by its request. Assumes nothing.
use Rattle.std.specs.Prelude.{cond, List, [], ◌∷◌, ◌++◌, ℕ, zero, suc, ◌+◌, ◌*◌, ◌/◌, ◌%◌, ltb, replicate}
use Rattle.rules.specs.Contract.{rate_bytes, terms_of}
use Rattle.rules.specs.Date.{Behaviour, static, mixed, dynamic}
use Rattle.rules.specs.Product.{Product, recorded_amount, contract_value}
use Rattle.rules.specs.FixedTerm.{State, Held}
use Rattle.rules.specs.Refusals.{Verdict, accepted, refused, verdict, on_success, record_checks}
use Rattle.rules.specs.Operations.{Policy, behaviour_number, valuing_checks}
use Rattle.rules.specs.Policy.{policy_of}

-- "All figures here are decimal": the digits of a number, with no zeros in front, if there are no more than `places`
unfoldable pub digits : ℕ → ℕ → List ℕ
digits zero x = []
digits (suc places) x = cond (ltb x 10) ((48 + x) ∷ []) (digits places (x / 10) ++ ((48 + x % 10) ∷ []))

-- no number of 64 bits has more than 20
unfoldable pub decimal : ℕ → List ℕ
decimal x = digits 20 x

-- "parted by single spaces": the numbers behind the first word of a line, and its end
unfoldable pub numbered : List ℕ → List ℕ
numbered [] = 10 ∷ []
numbered (x ∷ xs) = (32 ∷ decimal x) ++ numbered xs

unfoldable pub line : List ℕ → List ℕ → List ℕ
line word numbers = word ++ numbered numbers

-- "each behaviour's name"
unfoldable pub name_of : Behaviour → List ℕ
name_of static = 115 ∷ 116 ∷ 97 ∷ 116 ∷ 105 ∷ 99 ∷ []
name_of mixed = 109 ∷ 105 ∷ 120 ∷ 101 ∷ 100 ∷ []
name_of dynamic = 100 ∷ 121 ∷ 110 ∷ 97 ∷ 109 ∷ 105 ∷ 99 ∷ []

-- `refused`
unfoldable pub refused_word : List ℕ
refused_word = 114 ∷ 101 ∷ 102 ∷ 117 ∷ 115 ∷ 101 ∷ 100 ∷ []

-- f 0, f 1, .. f (n - 1), one after the other
unfoldable pub lines_of : (ℕ → List ℕ) → ℕ → List ℕ
lines_of f zero = []
lines_of f (suc n) = lines_of f n ++ f n

module _ (X : Product State Held) where
  -- "The first three lines give each behaviour's name and the contract's value."
  unfoldable pub value_line : Behaviour → List ℕ
  value_line b = line (name_of b) (contract_value X b ∷ [])

  -- "Each later line: return number, account and guarantee at date 1, recorded static, mixed and dynamic amounts"
  unfoldable pub return_line : ℕ → List ℕ
  return_line k =
      let s = X.process.reach X.process.start k in
      line (decimal k)
      (s.account ∷ s.guarantee ∷ recorded_amount X static 1 s ∷ recorded_amount X mixed 1 s ∷ recorded_amount X dynamic 1 s ∷ [])

  -- "none for N = 1"
  unfoldable pub line_count : ℕ
  line_count = cond (ltb 1 X.process.dates) X.process.returns 0

  -- "A refusal prints only `refused`, number and place"
  unfoldable pub text_of : Verdict → List ℕ
  text_of accepted = value_line static ++ value_line mixed ++ value_line dynamic ++ lines_of return_line line_count
  text_of (refused n p) = line refused_word (n ∷ p ∷ [])

-- what the program values: (v) "Zero rates, as the program uses", N of them once the record is accepted
unfoldable pub zero_rate_bytes : List ℕ → List ℕ
zero_rate_bytes bytes = replicate (on_success (verdict (record_checks bytes)) (rate_bytes * (terms_of bytes).dates) 0) 0

abbrev pub program_of : List ℕ → List ℕ → Policy State Held
program_of bytes list = policy_of (record { bytes = bytes; list = list; rates = zero_rate_bytes bytes })

-- "the program lends 4,096 working numbers, refusing by 11 what needs more", ".. and a table of 16,384." The three behaviours have
-- the same checks.
unfoldable pub program_verdict : List ℕ → List ℕ → Verdict
program_verdict bytes list =
    verdict (valuing_checks (program_of bytes list) (behaviour_number static) (replicate 4096 0) (replicate 16384 0))

-- all that is printed
unfoldable pub printed : List ℕ → List ℕ → List ℕ
printed bytes list = text_of (program_of bytes list).product (program_verdict bytes list)
