-- Facts that pin the definitions down: which checks each operation makes and in which order, what is rounded and when, the
-- sign of the margin, that no digit of a number is lost. Assumes nothing.
use Rattle.std.specs.Prelude.{cond, List, [], ◌∷◌, ◌++◌, ◌↔◌, ◌≡◌, ℕ, zero, suc, ◌+◌, ◌-◌, ◌*◌, ◌/◌, ◌%◌, ◌^◌, ◌≤◌, ◌<◌, ltb, pos, neg_ℤ}
use Rattle.std.proofs.Math.Path.{refl}
use Rattle.std.proofs.Common.{subst, le_trans, mul-le-mul, mul-le-mul_left, sub-le, le-div_iff_mul-le, div-lt_iff_lt-mul, pow-suc, arith}
use Rattle.std.proofs.Common.{lit<, lt-ltb, le-ltb}
use Rattle.std.proofs.Math.Nat.{div-le_of_le-mul, le-min, min-le_left, min-le_right}
use Rattle.std.proofs.Math.Decide.{dec_le}
use Rattle.rules.specs.Contract.{Input, factor_most}
use Rattle.rules.specs.Date.{lifted_account, next_account, excess, death_share, discounted, margin}
use Rattle.rules.specs.Product.{Product}
use Rattle.rules.specs.FixedTerm.{State, Held}
use Rattle.rules.specs.Refusals.{Check, check, check_each, terms_checks, record_checks, list_checks, rates_checks, input_checks}
use Rattle.rules.specs.Operations.{valuing_checks, no_table_checks, supplied_checks, walk_checks}
use Rattle.rules.specs.Policy.{policy_of, living_policy}
use Rattle.rules.specs.Booking.{amount_checks, booking_checks}
use Rattle.rules.specs.Map.{mapping_checks}
use Rattle.rules.specs.Fee.{fee_checks}
use Rattle.rules.specs.Printed.{digits, decimal}

-- ---- "Checks run in the order of the table; an operation makes those for which it has the input."
-- the numbers of checks, in order
unfoldable pub check_numbers : List Check → List ℕ
check_numbers [] = []
check_numbers (check number place failed ∷ ks) = number ∷ check_numbers ks

pub record_order : (bytes : List ℕ) → check_numbers (record_checks bytes) ≡ 1 ∷ 2 ∷ 3 ∷ 4 ∷ 5 ∷ 6 ∷ 15 ∷ []
unfolding check_numbers terms_checks record_checks
record_order bytes = refl

pub booking_order : (bytes : List ℕ) (date w a t : ℕ) (buffer : List ℕ)
    → check_numbers (booking_checks bytes date w a t buffer) ≡ 1 ∷ 2 ∷ 3 ∷ 4 ∷ 5 ∷ 6 ∷ 15 ∷ 11 ∷ 12 ∷ 14 ∷ []
unfolding check_numbers terms_checks record_checks amount_checks booking_checks
booking_order bytes date w a t buffer = refl

pub walk_order : (bytes list table path cashes : List ℕ)
    → check_numbers (walk_checks (living_policy bytes list) table path cashes)
    ≡ 1 ∷ 2 ∷ 3 ∷ 4 ∷ 5 ∷ 6 ∷ 15 ∷ 7 ∷ 8 ∷ 9 ∷ 11 ∷ 13 ∷ 13 ∷ 14 ∷ []
unfolding check_numbers terms_checks record_checks list_checks walk_checks check_each
walk_order bytes list table path cashes = refl

module _ (x : Input) where
  pub valuing_order : (behaviour : ℕ) (work table : List ℕ)
      → check_numbers (valuing_checks (policy_of x) behaviour work table)
      ≡ 1 ∷ 2 ∷ 3 ∷ 4 ∷ 5 ∷ 6 ∷ 15 ∷ 7 ∷ 8 ∷ 9 ∷ 17 ∷ 18 ∷ 10 ∷ 11 ∷ []
  unfolding check_numbers terms_checks record_checks list_checks rates_checks input_checks valuing_checks check_each
  valuing_order behaviour work table = refl

  pub mapping_order : (behaviour : ℕ) (work table map : List ℕ)
      → check_numbers (mapping_checks (policy_of x) behaviour work table map)
      ≡ 1 ∷ 2 ∷ 3 ∷ 4 ∷ 5 ∷ 6 ∷ 15 ∷ 7 ∷ 8 ∷ 9 ∷ 17 ∷ 18 ∷ 10 ∷ 11 ∷ 16 ∷ []
  unfolding check_numbers terms_checks record_checks list_checks rates_checks input_checks valuing_checks mapping_checks check_each
  mapping_order behaviour work table map = refl

  pub no_table_order : (behaviour : ℕ) (work : List ℕ)
      → check_numbers (no_table_checks (policy_of x) behaviour work)
      ≡ 1 ∷ 2 ∷ 3 ∷ 4 ∷ 5 ∷ 6 ∷ 15 ∷ 7 ∷ 8 ∷ 9 ∷ 17 ∷ 18 ∷ 10 ∷ 11 ∷ []
  unfolding check_numbers terms_checks record_checks list_checks rates_checks input_checks no_table_checks check_each
  no_table_order behaviour work = refl

  pub fee_order : (under : ℕ → Product State Held) (behaviour wanted : ℕ) (work : List ℕ)
      → check_numbers (fee_checks (policy_of x) under behaviour wanted work)
      ≡ 1 ∷ 2 ∷ 3 ∷ 4 ∷ 5 ∷ 6 ∷ 15 ∷ 7 ∷ 8 ∷ 9 ∷ 17 ∷ 18 ∷ 10 ∷ 11 ∷ 19 ∷ []
  unfolding check_numbers terms_checks record_checks list_checks rates_checks input_checks no_table_checks fee_checks check_each
  fee_order under behaviour wanted work = refl

  pub supplied_order : (work table : List ℕ)
      → check_numbers (supplied_checks (policy_of x) work table)
      ≡ 1 ∷ 2 ∷ 3 ∷ 4 ∷ 5 ∷ 6 ∷ 15 ∷ 7 ∷ 8 ∷ 9 ∷ 17 ∷ 18 ∷ 11 ∷ 14 ∷ []
  unfolding check_numbers terms_checks record_checks list_checks rates_checks input_checks supplied_checks check_each
  supplied_order work table = refl

-- ---- "rounded down a single time": the next account is the largest that top and the exact product allow
pub account_rounds : (fee top balance factor x : ℕ)
    → (x ≤ next_account fee top balance factor) ↔ ((x ≤ top) × (x * 100000000 ≤ balance * factor * (10000 - fee)))
unfolding lifted_account next_account
account_rounds fee top balance factor x = (
  λ l. (le_trans l (min-le_left _ _), (le-div_iff_mul-le (lit< tt)).0 (le_trans l (min-le_right _ _))),
  λ p. le-min p.0 ((le-div_iff_mul-le (lit< tt)).1 p.1),
)

-- a return makes at most three times the balance
pub lifted_le : (fee balance factor : ℕ) → factor ≤ factor_most → lifted_account fee balance factor ≤ 3 * balance
unfolding lifted_account
lifted_le fee balance factor h =
    div-le_of_le-mul 100000000 (le_trans (mul-le-mul (mul-le-mul_left balance h) (sub-le 10000 fee)) (omega arith))

-- (iv) nothing of what a return makes is dropped: what is held and the excess are all of it, and where there is an excess the
-- account is top
pub nothing_dropped : (fee top balance factor : ℕ)
    → (next_account fee top balance factor + excess fee top balance factor ≡ lifted_account fee balance factor)
    × (0 < excess fee top balance factor → next_account fee top balance factor ≡ top)
unfolding next_account excess
nothing_dropped fee top balance factor = (omega arith, λ l. omega arith)

-- (v) "rounded down": a share is the largest that the exact sum allows
pub share_rounds : (rate value payment x : ℕ)
    → (x ≤ death_share rate value payment) ↔ (x * 10000 ≤ (10000 - rate) * value + rate * payment)
unfolding death_share
share_rounds rate value payment x = le-div_iff_mul-le (lit< tt)

-- "rounded down once": the discounted sum is the largest that the exact product allows
pub discount_rounds : (discount sum x : ℕ) → (x ≤ discounted discount sum) ↔ (x * 10000000000 ≤ discount * sum)
unfolding discounted
discount_rounds discount sum x = le-div_iff_mul-le (lit< tt)

-- ---- "negative when the contract is worth less than its premium": exact on both sides of zero
pub margin_above : (value premium : ℕ) → 10000 * premium ≤ value → margin value premium ≡ pos (value - 10000 * premium)
unfolding margin
margin_above value premium l = rw (le-ltb value (10000 * premium) l)

pub margin_below : (value premium : ℕ) → value < 10000 * premium → margin value premium ≡ neg_ℤ (pos (10000 * premium - value))
unfolding margin
margin_below value premium l =
    let e : 10000 * premium - value ≡ suc (10000 * premium - suc value) = omega arith in
    rw (lt-ltb value (10000 * premium) l, e)

-- ---- "All figures here are decimal": the digits of a number stand for it, so none is cut that has no more than `places`
unfoldable pub value_from : ℕ → List ℕ → ℕ
value_from n [] = n
value_from n (d ∷ ds) = value_from (10 * n + (d - 48)) ds

value_append : (n : ℕ) (ds : List ℕ) (d : ℕ) → value_from n (ds ++ (d ∷ [])) ≡ 10 * value_from n ds + (d - 48)
unfolding value_from
value_append n [] d = refl
value_append n (x ∷ ds) d = value_append (10 * n + (x - 48)) ds d

pub digits_value : (places x : ℕ) → x < 10 ^ places → value_from 0 (digits places x) ≡ x
unfolding digits value_from
digits_value zero x l = omega arith
digits_value (suc places) x l =
    let m : x < 10 ^ places * 10 = subst (λ (n : ℕ). x < n) (pow-suc 10 places) l in
    go (digits_value places (x / 10) ((div-lt_iff_lt-mul (lit< tt)).1 m)) (dec_le 10 x)
  where
    go : value_from 0 (digits places (x / 10)) ≡ x / 10 → Dec (10 ≤ x)
        → value_from 0 (cond (ltb x 10) ((48 + x) ∷ []) (digits places (x / 10) ++ ((48 + x % 10) ∷ []))) ≡ x
    go before (no h) = rw (lt-ltb x 10 (omega arith)) (omega arith)
    go before (yes h) =
        rw (le-ltb x 10 h, value_append 0 (digits places (x / 10)) (48 + x % 10), before) (omega arith)

-- every number of 64 bits
pub decimal_value : (x : ℕ) → x < 2 ^ 64 → value_from 0 (decimal x) ≡ x
unfolding decimal
decimal_value x l = digits_value 20 x (omega arith)
