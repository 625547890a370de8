-- Document 01, 'Contracts worked by hand': the ten marked cases in one table, with one proof that computes every row from
-- the definitions; and cases of document 02, by its requests. Assumes nothing.
use Rattle.std.specs.Prelude.{Bool, false, List, [], ◌∷◌, ◌++◌, map, ◌≡◌, refl, ℕ, ◌+◌, ℤ, pos, replicate}
use Rattle.std.proofs.Common.{ap}
use Rattle.decision.specs.Index.{sum, tabulate, first, first_from}
use Rattle.decision.specs.Groups.{most}
use Rattle.decision.specs.Bits.{bit, from_bits, words_for, word_of, words_of, set_bits}
use Rattle.decision.specs.Layers.{lookup, layers, entry}
use Rattle.decision.specs.Choice.{largest, smallest_best}
use Rattle.decision.specs.Process.{reached, worth, value_over, value, recorded, start_value, met, start_met}
use Rattle.rules.specs.Contract.{word, long, bytes_of, Terms, terms_under, terms_of, returns_of, rates_of, zero_rates, Input}
use Rattle.rules.specs.Date.{Behaviour, static, mixed, dynamic, free_amount, largest_amount, surrenders, admits, rate_on, penalty}
use Rattle.rules.specs.Date.{cash, guarantee_after, balance_after, lifted_account, next_account, excess, excess_paid, maturity_value}
use Rattle.rules.specs.Date.{death_payment, death_share, discounted, margin}
use Rattle.rules.specs.Product.{entries, state_value, recorded_amount, contract_value, amount_layers, walk_state, walk_amount, walk_held}
use Rattle.rules.specs.Product.{bad_date, walk_paid, walk_cash_on, walk_cash_last, walk_cash}
use Rattle.rules.specs.FixedTerm.{State, free_in, admissible_in, surrender_in, cash_in, after_in, reach_by, paid_by, death_by, mean_by_list}
use Rattle.rules.specs.FixedTerm.{held_by_list, weight_to, excess_most, by_account, mean_by_account, value_with, held_by_account}
use Rattle.rules.specs.FixedTerm.{process_of}
use Rattle.rules.specs.FixedTerm.{layer_size, layout_of, fixed_term}
use Rattle.rules.specs.ByList.{listed_term}
use Rattle.rules.proofs.ByList.{listed_contract}
use Rattle.rules.specs.Refusals.{check_each, Verdict, accepted, refused, verdict, number_of, place_of, on_success, outside, short}
use Rattle.rules.specs.Refusals.{terms_checks, record_checks, bad_return, list_checks, rates_checks, input_checks}
use Rattle.rules.specs.Operations.{answer, filled, behaviour_number, behaviour_of, work_size, slices_short, valuing_checks, valued_answer}
use Rattle.rules.specs.Operations.{valued_table, no_table_checks, walk_checks, walk_cashes}
use Rattle.rules.specs.Policy.{Family, policy_by, policy_of, living_policy}
use Rattle.rules.specs.Booking.{amount_checks, booking_checks, booking_bytes, booking_buffer}
use Rattle.rules.specs.Map.{surrendered, surrender_map, surrender_count, map_size, mapping_checks, map_after, count_after}
use Rattle.rules.specs.Fee.{under_fee, fee_sought, fee_work, fee_checks, fee_found, fee_answer}
use Rattle.rules.specs.Printed.{digits, decimal, numbered, line, name_of, lines_of, value_line, return_line, line_count, text_of}
use Rattle.rules.specs.Printed.{zero_rate_bytes, program_verdict, printed}

-- ---- contracts P and Q
-- a record's bytes
unfoldable pub packed : Terms → List ℕ
packed c =
    bytes_of 2 c.premium
    ++ bytes_of 2 c.level
    ++ bytes_of 2 c.top
    ++ bytes_of 2 c.dates
    ++ bytes_of 2 c.fee
    ++ bytes_of 2 c.penalty
    ++ bytes_of 4 c.discount
    ++ bytes_of 2 c.step
    ++ bytes_of 2 c.spare

-- "U 10, G 5, top 20, N 2, fee 0, penalty 1,000, discount 1,000,000"
unfoldable pub P : Terms
P = record { premium = 10; level = 5; top = 20; dates = 2; fee = 0; penalty = 1000; discount = 1000000; step = 0; spare = 0 }

-- "P with N 1"
P_one : Terms
P_one = record { premium = 10; level = 5; top = 20; dates = 1; fee = 0; penalty = 1000; discount = 1000000; step = 0; spare = 0 }

-- P with N 3
P_three : Terms
P_three = record { premium = 10; level = 5; top = 20; dates = 3; fee = 0; penalty = 1000; discount = 1000000; step = 0; spare = 0 }

-- P with N 4
P_four : Terms
P_four = record { premium = 10; level = 5; top = 20; dates = 4; fee = 0; penalty = 1000; discount = 1000000; step = 0; spare = 0 }

-- a contract of few states, with two decision dates
small : Terms
small = record { premium = 4; level = 2; top = 8; dates = 3; fee = 0; penalty = 1000; discount = 1000000; step = 0; spare = 0 }

-- "P with discount 950,000"
P_discounted : Terms
P_discounted = record { premium = 10; level = 5; top = 20; dates = 2; fee = 0; penalty = 1000; discount = 950000; step = 0; spare = 0 }

-- "Q = P with fee 2,000, penalty 0"
Q : Terms
Q = record { premium = 10; level = 5; top = 20; dates = 2; fee = 2000; penalty = 0; discount = 1000000; step = 0; spare = 0 }

-- P with N 4, a penalty step and spare bytes
P_spare : ℕ → ℕ → Terms
P_spare s x = record { premium = 10; level = 5; top = 20; dates = 4; fee = 0; penalty = 1000; discount = 1000000; step = s; spare = x }

P_step : ℕ → Terms
P_step s = P_spare s 0

-- P with top 12, which the second return passes from the start
P_tight : ℕ → Terms
P_tight n = record { premium = 10; level = 5; top = 12; dates = n; fee = 0; penalty = 1000; discount = 1000000; step = 0; spare = 0 }

-- "returns (5,000, weight 5,000) and (15,000, weight 5,000)"
unfoldable pub returns_p : List ℕ
returns_p = bytes_of 2 5000 ++ bytes_of 2 5000 ++ bytes_of 2 15000 ++ bytes_of 2 5000

-- (v) the bytes of death rates
unfoldable pub packed_rates : List ℕ → List ℕ
packed_rates [] = []
packed_rates (x ∷ xs) = bytes_of 2 x ++ packed_rates xs

-- ---- what is asked and told
pub data Question : Type 0 where
  -- the contract's value and margin, with zero rates
  contract_of : Terms → Behaviour → Question
  -- .. with death rates
  rated_of : Terms → List ℕ → Behaviour → Question
  -- the value and the recorded amount at (w, a) on date 1
  state_of : Terms → Behaviour → ℕ → ℕ → Question
  -- whether the account may be surrendered at (w, a)
  surrender_at : Terms → ℕ → ℕ → Question
  -- whether the record is accepted
  record_of : Terms → Question
  -- the map that valuing leaves in so many words, each a number before, and the count of its set bits
  map_of : Terms → Behaviour → ℕ → ℕ → Question
  -- the cash of a walk along the table that valuing leaves, in a slice of a number more than it fills
  walk_of : Terms → Behaviour → List ℕ → Question
  -- (vi) the fee of a wanted value, with zero rates, in a working slice of one entry more than is needed
  fee_of : Terms → Behaviour → ℕ → Question
  -- booking an amount on a date, at (w, a)
  booking_of : Terms → ℕ → ℕ → ℕ → ℕ → Question

pub data Reply : Type 0 where
  value_margin : ℕ → ℤ → Reply
  value_amount : ℕ → ℕ → Reply
  allowed : Bool → Reply
  cash_penalty_balance_guarantee : ℕ → ℕ → ℕ → ℕ → Reply
  words_count : List ℕ → ℕ → Reply
  fee_value_margin : ℕ → ℕ → ℤ → Reply
  cashes : List ℕ → Reply
  number_place : ℕ → ℕ → Reply

at : ℕ → ℕ → State
at w a = record { account = w; guarantee = a }

-- a refusal, or what success tells
unless_refused : Verdict → Reply → Reply
unless_refused accepted told = told
unless_refused (refused n p) told = number_place n p

booked : List ℕ → Reply
booked buffer = cash_penalty_balance_guarantee (long buffer 0) (long buffer 4) (word buffer 8) (word buffer 10)

-- the bytes of terms, contract P's returns and rates
abbrev given : Terms → List ℕ → Input
given c rates = record { bytes = packed c; list = returns_p; rates = rates }

abbrev zeros : Terms → List ℕ
zeros c = zero_rate_bytes (packed c)

-- of any family of contracts: one whose means are summed in another way is computed sooner
module _ (F : Family) where
  valued_with : Terms → List ℕ → Behaviour → Reply
  valued_with c rates b =
      let p = policy_by F (given c rates) in
      let v = verdict (valuing_checks p (behaviour_number b) (replicate (work_size p) 0) (replicate (entries p.product) 0)) in
      let a = valued_answer p v (behaviour_number b) in
      unless_refused v (value_margin a.value a.margin)

  mapped : Terms → Behaviour → List ℕ → Reply
  mapped c b map =
      let p = policy_by F (given c (zeros c)) in
      let table : List ℕ = replicate (entries p.product) 0 in
      let v = verdict (mapping_checks p (behaviour_number b) (replicate (work_size p) 0) table map) in
      unless_refused v (words_count (map_after p v (behaviour_number b) table map) (count_after p v (behaviour_number b) table))

  priced : Terms → Behaviour → ℕ → Reply
  priced c b wanted =
      let x = given c (zeros c) in
      let p = policy_by F x in
      let work : List ℕ = replicate (work_size p + 1) 7 in
      let a = fee_answer p (under_fee F x) (behaviour_number b) wanted work in
      unless_refused
      (verdict (fee_checks p (under_fee F x) (behaviour_number b) wanted work))
      (fee_value_margin (fee_found p (under_fee F x) (behaviour_number b) wanted work) a.value a.margin)

  walked : Terms → Behaviour → List ℕ → Reply
  walked c b path =
      let p = living_policy (packed c) returns_p in
      let table = amount_layers (F (terms_of (packed c)) (returns_of returns_p) zero_rates) b in
      let before : List ℕ = replicate (c.dates + 1) 7 in
      unless_refused (verdict (walk_checks p table path before)) (cashes (walk_cashes p table path before))

  pub tell_by : Question → Reply
  tell_by (contract_of c b) = valued_with c (zeros c) b
  tell_by (rated_of c rates b) = valued_with c (packed_rates rates) b
  tell_by (state_of c b w a) =
      let X = F c (returns_of returns_p) zero_rates in value_amount (state_value X b 1 (at w a)) (recorded_amount X b 1 (at w a))
  tell_by (surrender_at c w a) = allowed (surrenders (free_in c (at w a)) w w)
  tell_by (record_of c) = let v = verdict (record_checks (packed c)) in number_place (number_of v) (place_of v)
  tell_by (map_of c b words word) = mapped c b (replicate words word)
  tell_by (walk_of c b path) = walked c b path
  tell_by (fee_of c b wanted) = priced c b wanted
  tell_by (booking_of c i w a t) =
      unless_refused (verdict (booking_checks (packed c) i w a t (replicate 16 0)))
      (booked (booking_buffer (packed c) i w a t (replicate 16 0)))

-- THE CONTRACT'S REPLY
pub tell : Question → Reply
tell q = tell_by fixed_term q

-- (vii) the same where its means are summed return by return
tell_listed : tell ≡ tell_by listed_term
unfolding tell
tell_listed = ap tell_by listed_contract

-- ---- the marked cases
pub record Row : Type 0 where
  pub number : ℕ
  pub asked : Question
  pub told : Reply

row : ℕ → Question → Reply → Row
row n q t = record { number = n; asked = q; told = t }

pub marked : List Row
marked =
    row 1 (contract_of P static) (value_margin 125000 (pos 25000))
    ∷ row 1 (contract_of P mixed) (value_margin 125000 (pos 25000))
    ∷ row 1 (contract_of P dynamic) (value_margin 130000 (pos 30000))
    ∷ row 2 (state_of P dynamic 15 10) (value_amount 160000 0)
    ∷ row 3 (surrender_at P 5 10) (allowed false)
    ∷ row 3 (state_of P dynamic 5 10) (value_amount 100000 0)
    ∷ row 4 (contract_of P_one static) (value_margin 125000 (pos 25000))
    ∷ row 4 (contract_of P_one mixed) (value_margin 125000 (pos 25000))
    ∷ row 4 (contract_of P_one dynamic) (value_margin 125000 (pos 25000))
    ∷ row 5 (contract_of P_discounted static) (value_margin 115187 (pos 15187))
    ∷ row 6 (contract_of Q static) (value_margin 107500 (pos 7500))
    ∷ row 6 (contract_of Q mixed) (value_margin 110000 (pos 10000))
    ∷ row 6 (contract_of Q dynamic) (value_margin 110000 (pos 10000))
    ∷ row 7 (state_of Q mixed 12 10) (value_amount 120000 12)
    ∷ row 7 (state_of Q dynamic 12 10) (value_amount 120000 0)
    ∷ row 8 (booking_of P 1 15 10 6) (cash_penalty_balance_guarantee 59000 1000 9 4)
    ∷ row 9 (booking_of P 1 15 10 15) (cash_penalty_balance_guarantee 140000 10000 0 0)
    ∷ row 10 (booking_of P 1 5 10 6) (number_place 14 0)
    ∷ []

pub marked_cases : map (λ r. tell r.asked) marked ≡ map (λ r. r.told) marked
unfolding sum first first_from largest smallest_best reached worth value_over value recorded start_value word long bytes_of terms_of
    returns_of rates_of free_amount largest_amount surrenders admits rate_on penalty cash guarantee_after balance_after lifted_account
    next_account excess excess_paid maturity_value discounted margin state_value recorded_amount contract_value free_in admissible_in
    cash_in after_in reach_by paid_by death_payment death_share death_by mean_by_list held_by_list process_of layer_size layout_of
    listed_term check_each verdict number_of place_of on_success outside short terms_checks record_checks bad_return list_checks
    rates_checks input_checks answer behaviour_number behaviour_of valuing_checks amount_checks booking_checks booking_bytes
    booking_buffer packed P P_one P_discounted Q returns_p at unless_refused booked zero_rate_bytes tell_by row marked terms_under filled
    entries slices_short valued_answer valued_with
marked_cases = rw tell_listed refl

-- ---- document 02 (i): contract P with N 4 at steps 0, 100 and 1,000; bookings by date; the ends of the two fields
pub step_rows : List Row
step_rows =
    row 1 (contract_of (P_step 0) static) (value_margin 123750 (pos 23750))
    ∷ row 1 (contract_of (P_step 0) mixed) (value_margin 123750 (pos 23750))
    ∷ row 2 (contract_of (P_step 100) static) (value_margin 123750 (pos 23750))
    ∷ row 2 (contract_of (P_step 100) mixed) (value_margin 123875 (pos 23875))
    ∷ row 3 (contract_of (P_step 1000) static) (value_margin 123750 (pos 23750))
    ∷ row 3 (contract_of (P_step 1000) mixed) (value_margin 125000 (pos 25000))
    ∷ row 3 (contract_of (P_step 1000) dynamic) (value_margin 139375 (pos 39375))
    ∷ row 4 (booking_of (P_step 100) 1 15 10 6) (cash_penalty_balance_guarantee 59000 1000 9 4)
    ∷ row 4 (booking_of (P_step 100) 2 15 10 6) (cash_penalty_balance_guarantee 59100 900 9 4)
    ∷ row 4 (booking_of (P_step 100) 3 15 10 6) (cash_penalty_balance_guarantee 59200 800 9 4)
    ∷ row 5 (booking_of (P_step 1000) 2 15 10 6) (cash_penalty_balance_guarantee 60000 0 9 4)
    ∷ row 5 (booking_of (P_step 1000) 3 15 10 6) (cash_penalty_balance_guarantee 60000 0 9 4)
    ∷ row 6 (record_of (P_step 10000)) (number_place 0 0)
    ∷ row 6 (record_of (P_step 10001)) (number_place 15 0)
    ∷ row 7 (record_of (P_spare 0 1)) (number_place 15 0)
    ∷ row 7 (record_of (P_spare 0 256)) (number_place 15 0)
    ∷ []

pub step_cases : map (λ r. tell r.asked) step_rows ≡ map (λ r. r.told) step_rows
unfolding sum first first_from largest smallest_best reached worth value_over value recorded start_value word long bytes_of terms_of
    returns_of rates_of free_amount largest_amount surrenders admits rate_on penalty cash guarantee_after balance_after lifted_account
    next_account excess excess_paid maturity_value discounted margin state_value recorded_amount contract_value free_in admissible_in
    cash_in after_in reach_by paid_by death_payment death_share death_by mean_by_list held_by_list process_of layer_size layout_of
    listed_term check_each verdict number_of place_of on_success outside short terms_checks record_checks bad_return list_checks
    rates_checks input_checks answer behaviour_number behaviour_of valuing_checks amount_checks booking_checks booking_bytes
    booking_buffer packed P_spare P_step returns_p at unless_refused booked zero_rate_bytes tell_by row step_rows terms_under filled
    entries slices_short valued_answer valued_with
step_cases = rw tell_listed refl

-- ---- document 02 (ii): the maps of contract P, in words that held ones before; a word too few; of a contract with two decision
-- dates, a word behind them; of one with none
pub map_rows : List Row
map_rows =
    row 1 (map_of P static 4 18446744073709551615) (words_count (0 ∷ 0 ∷ 0 ∷ 0 ∷ []) 0)
    ∷ row 2 (map_of P mixed 4 18446744073709551615)
    (words_count (720751905197787136 ∷ 1610743968 ∷ 0 ∷ 0 ∷ []) 13)
    ∷ row 3 (map_of small dynamic 3 18446744073709551615) (words_count (1125899906842656 ∷ 0 ∷ 18446744073709551615 ∷ []) 2)
    ∷ row 4 (map_of P dynamic 3 0) (number_place 16 0)
    ∷ row 5 (map_of small mixed 2 0) (words_count (5837791981637634080 ∷ 772 ∷ []) 19)
    ∷ row 6 (map_of P_one mixed 0 0) (words_count [] 0)
    ∷ []

pub map_cases : map (λ r. tell r.asked) map_rows ≡ map (λ r. r.told) map_rows
unfolding sum tabulate first first_from largest smallest_best reached worth value_over value recorded start_value word long bytes_of
    terms_of returns_of rates_of free_amount largest_amount surrenders admits rate_on penalty cash guarantee_after balance_after
    lifted_account next_account excess excess_paid maturity_value discounted recorded_amount amount_layers layers free_in admissible_in
    cash_in after_in reach_by paid_by death_payment death_share death_by mean_by_list held_by_list process_of layer_size layout_of
    listed_term check_each verdict on_success outside short terms_checks record_checks bad_return list_checks rates_checks input_checks
    behaviour_number behaviour_of valuing_checks bit from_bits words_for word_of words_of set_bits surrendered surrender_map
    surrender_count map_size mapping_checks packed P P_one small returns_p unless_refused zero_rate_bytes tell_by row map_rows terms_under
    filled entries slices_short valued_table map_after count_after mapped surrender_in
map_cases = rw tell_listed refl

-- ---- document 02 (iv): contract P with N 3, and its walks along the dynamic table; with top 12, where the first return pays
pub excess_rows : List Row
excess_rows =
    row 1 (contract_of P_three static) (value_margin 125000 (pos 25000))
    ∷ row 1 (contract_of P_three mixed) (value_margin 125000 (pos 25000))
    ∷ row 1 (contract_of P_three dynamic) (value_margin 131250 (pos 31250))
    ∷ row 2 (walk_of P_three dynamic (1 ∷ 1 ∷ 1 ∷ [])) (cashes (10000 ∷ 10000 ∷ 300000 ∷ 7 ∷ []))
    ∷ row 2 (walk_of P_three dynamic (1 ∷ 0 ∷ 1 ∷ [])) (cashes (10000 ∷ 0 ∷ 100000 ∷ 7 ∷ []))
    ∷ row 2 (walk_of P_three dynamic (0 ∷ 1 ∷ 1 ∷ [])) (cashes (0 ∷ 0 ∷ 100000 ∷ 7 ∷ []))
    ∷ row 3 (contract_of (P_tight 1) static) (value_margin 125000 (pos 25000))
    ∷ row 3 (walk_of (P_tight 1) static (1 ∷ [])) (cashes (150000 ∷ 7 ∷ []))
    ∷ row 4 (contract_of (P_tight 2) static) (value_margin 127500 (pos 27500))
    ∷ row 4 (contract_of (P_tight 2) dynamic) (value_margin 135000 (pos 35000))
    ∷ row 4 (walk_of (P_tight 2) static (1 ∷ 1 ∷ [])) (cashes (80000 ∷ 100000 ∷ 7 ∷ []))
    ∷ row 5 (contract_of (P_tight 3) dynamic) (value_margin 140000 (pos 40000))
    ∷ row 5 (walk_of (P_tight 3) dynamic (1 ∷ 1 ∷ 1 ∷ [])) (cashes (30000 ∷ 60000 ∷ 180000 ∷ 7 ∷ []))
    ∷ []

pub excess_cases : map (λ r. tell r.asked) excess_rows ≡ map (λ r. r.told) excess_rows
unfolding sum tabulate first first_from largest smallest_best reached worth value_over value recorded start_value met start_met word long
    bytes_of terms_of returns_of rates_of free_amount largest_amount surrenders admits rate_on penalty cash guarantee_after balance_after
    lifted_account next_account excess excess_paid maturity_value discounted margin recorded_amount contract_value amount_layers
    walk_state walk_amount walk_held walk_paid walk_cash_on walk_cash_last walk_cash lookup layers entry free_in admissible_in cash_in
    after_in reach_by paid_by death_payment death_share death_by mean_by_list held_by_list process_of layer_size layout_of fixed_term
    listed_term check_each verdict on_success outside short terms_checks record_checks bad_return list_checks rates_checks input_checks
    answer behaviour_number behaviour_of valuing_checks bad_date walk_checks walk_cashes packed P_three P_tight returns_p unless_refused
    zero_rate_bytes tell_by row excess_rows terms_under filled entries slices_short valued_answer valued_with walked
excess_cases = rw tell_listed refl

-- ---- document 02 (v): contract P with death rates, also of three and four periods, of a discount, and of top 12, where a death
-- pays an excess; rates too few, too many and too high
pub death_rows : List Row
death_rows =
    row 1 (rated_of P (100 ∷ 100 ∷ []) static) (value_margin 125000 (pos 25000))
    ∷ row 1 (rated_of P (100 ∷ 100 ∷ []) mixed) (value_margin 125000 (pos 25000))
    ∷ row 1 (rated_of P (100 ∷ 100 ∷ []) dynamic) (value_margin 129950 (pos 29950))
    ∷ row 2 (rated_of P (2500 ∷ 5000 ∷ []) dynamic) (value_margin 128750 (pos 28750))
    ∷ row 3 (rated_of P (10000 ∷ 0 ∷ []) dynamic) (value_margin 125000 (pos 25000))
    ∷ row 3 (rated_of P (10000 ∷ 10000 ∷ []) static) (value_margin 125000 (pos 25000))
    ∷ row 4 (rated_of P (0 ∷ 10000 ∷ []) dynamic) (value_margin 130000 (pos 30000))
    ∷ row 5 (rated_of P_three (100 ∷ 200 ∷ 300 ∷ []) static) (value_margin 125000 (pos 25000))
    ∷ row 5 (rated_of P_three (100 ∷ 200 ∷ 300 ∷ []) mixed) (value_margin 125000 (pos 25000))
    ∷ row 5 (rated_of P_three (100 ∷ 200 ∷ 300 ∷ []) dynamic) (value_margin 131162 (pos 31162))
    ∷ row 6 (rated_of P_four (500 ∷ 500 ∷ 500 ∷ 500 ∷ []) static) (value_margin 123927 (pos 23927))
    ∷ row 6 (rated_of P_four (500 ∷ 500 ∷ 500 ∷ 500 ∷ []) mixed) (value_margin 123927 (pos 23927))
    ∷ row 6 (rated_of P_four (500 ∷ 500 ∷ 500 ∷ 500 ∷ []) dynamic) (value_margin 137844 (pos 37844))
    ∷ row 7 (rated_of P_discounted (3333 ∷ 3333 ∷ []) static) (value_margin 116374 (pos 16374))
    ∷ row 7 (rated_of P_discounted (3333 ∷ 3333 ∷ []) mixed) (value_margin 116374 (pos 16374))
    ∷ row 7 (rated_of P_discounted (3333 ∷ 3333 ∷ []) dynamic) (value_margin 118749 (pos 18749))
    ∷ row 8 (rated_of (P_tight 2) (2500 ∷ 5000 ∷ []) dynamic) (value_margin 132500 (pos 32500))
    ∷ row 9 (rated_of P (0 ∷ []) static) (number_place 17 0)
    ∷ row 9 (rated_of P (0 ∷ 0 ∷ 0 ∷ []) static) (number_place 17 0)
    ∷ row 10 (rated_of P (10000 ∷ 10001 ∷ []) static) (number_place 18 1)
    ∷ row 10 (rated_of P (10001 ∷ 10001 ∷ []) static) (number_place 18 0)
    ∷ []

pub death_cases : map (λ r. tell r.asked) death_rows ≡ map (λ r. r.told) death_rows
unfolding sum first first_from largest smallest_best reached worth value_over value start_value word long bytes_of terms_of returns_of
    rates_of free_amount largest_amount surrenders admits rate_on penalty cash guarantee_after balance_after lifted_account next_account
    excess excess_paid maturity_value death_payment death_share discounted margin contract_value free_in admissible_in cash_in after_in
    reach_by paid_by death_by mean_by_list held_by_list process_of layer_size layout_of listed_term check_each verdict number_of place_of
    on_success outside short terms_checks record_checks bad_return list_checks rates_checks input_checks answer behaviour_number
    behaviour_of valuing_checks packed packed_rates P P_three P_four P_discounted P_tight returns_p unless_refused zero_rate_bytes tell_by
    row death_rows terms_under filled entries slices_short valued_answer valued_with
death_cases = rw tell_listed refl

-- ---- document 02 (vi): contract P; Q, whose record has a fee; a contract of one unit. Fees further from 0, and a value that no fee
-- gives: crates/laws/proofs/FeeCases.antt
pub tiny : Terms
tiny = record { premium = 1; level = 1; top = 1; dates = 1; fee = 0; penalty = 0; discount = 1000000; step = 0; spare = 0 }

pub fee_rows : List Row
fee_rows =
    row 1 (fee_of P static 124999) (fee_value_margin 1 120000 (pos 20000))
    ∷ row 2 (fee_of P static 125000) (fee_value_margin 0 125000 (pos 25000))
    ∷ row 3 (fee_of P dynamic 125000) (fee_value_margin 1 125000 (pos 25000))
    ∷ row 4 (fee_of P dynamic 130000) (fee_value_margin 0 130000 (pos 30000))
    ∷ row 5 (fee_of Q mixed 125000) (fee_value_margin 0 125000 (pos 25000))
    ∷ row 6 (fee_of tiny static 10000) (fee_value_margin 0 10000 (pos 0))
    ∷ []

pub fee_cases : map (λ r. tell r.asked) fee_rows ≡ map (λ r. r.told) fee_rows
unfolding sum first first_from largest smallest_best reached worth value_over value start_value word long bytes_of terms_of returns_of
    rates_of free_amount largest_amount surrenders admits rate_on penalty cash guarantee_after balance_after lifted_account next_account
    excess excess_paid maturity_value death_payment death_share discounted margin contract_value free_in admissible_in cash_in after_in
    reach_by paid_by death_by mean_by_list held_by_list process_of layer_size layout_of listed_term check_each verdict number_of place_of
    on_success outside short terms_checks record_checks bad_return list_checks rates_checks input_checks answer behaviour_number
    behaviour_of fee_checks fee_found fee_answer packed P Q tiny returns_p unless_refused zero_rate_bytes tell_by row fee_rows terms_under
    no_table_checks fee_sought priced
fee_cases = rw tell_listed refl

-- ---- document 02 (vii): contracts of few states, computed by account, as the definitions are
two : Terms
two = record { premium = 2; level = 1; top = 2; dates = 1; fee = 0; penalty = 0; discount = 1000000; step = 0; spare = 0 }

two_dated : Terms
two_dated = record { premium = 1; level = 1; top = 1; dates = 2; fee = 0; penalty = 0; discount = 1000000; step = 0; spare = 0 }

pub tiny_rows : List Row
tiny_rows =
    row 1 (contract_of two static) (value_margin 25000 (pos 5000))
    ∷ row 2 (fee_of two static 25000) (fee_value_margin 0 25000 (pos 5000))
    ∷ row 3 (fee_of two static 24999) (fee_value_margin 1 20000 (pos 0))
    ∷ row 4 (map_of two_dated mixed 2 7) (words_count (4 ∷ 7 ∷ []) 1)
    ∷ []

pub tiny_cases : map (λ r. tell r.asked) tiny_rows ≡ map (λ r. r.told) tiny_rows
unfolding sum first first_from largest smallest_best worth value_over value start_value word long bytes_of terms_of returns_of rates_of
    free_amount largest_amount surrenders admits rate_on penalty cash guarantee_after balance_after lifted_account next_account excess
    excess_paid maturity_value death_payment death_share discounted margin contract_value free_in admissible_in cash_in after_in
    process_of layer_size layout_of check_each verdict number_of place_of on_success outside short terms_checks record_checks bad_return
    list_checks rates_checks input_checks answer behaviour_number behaviour_of fee_checks fee_found fee_answer packed returns_p
    unless_refused zero_rate_bytes row tabulate recorded recorded_amount amount_layers layers valuing_checks bit from_bits words_for
    word_of words_of set_bits surrendered surrender_map surrender_count map_size mapping_checks most weight_to excess_most by_account
    mean_by_account value_with held_by_account fixed_term valued_with two two_dated tiny_rows terms_under filled entries slices_short
    valued_answer tell_by valued_table map_after count_after mapped surrender_in no_table_checks fee_sought priced tell
tiny_cases = refl

-- "After the search, found or not, the needed working entries are zero": both layers of four entries, and the one behind them as it
-- was; a slice that is too short keeps what it held
pub fee_leaves : (fee_work (policy_of (given tiny (zeros tiny))) 0 (replicate 9 7) ≡ 0 ∷ 0 ∷ 0 ∷ 0 ∷ 0 ∷ 0 ∷ 0 ∷ 0 ∷ 7 ∷ [])
    × (fee_work (policy_of (given tiny (zeros tiny))) 0 (replicate 7 7) ≡ replicate 7 7)
unfolding sum first first_from word long bytes_of terms_of returns_of rates_of layer_size check_each verdict on_success outside short
    terms_checks record_checks bad_return list_checks rates_checks input_checks fee_work packed tiny returns_p zero_rate_bytes terms_under
    no_table_checks filled fixed_term layout_of
fee_leaves = (refl, refl)

-- "The program .. prints exactly": the five lines for P, as ASCII codes
pub printed_P : printed (packed P) returns_p
    ≡ 115 ∷ 116 ∷ 97 ∷ 116 ∷ 105 ∷ 99 ∷ 32 ∷ 49 ∷ 50 ∷ 53 ∷ 48 ∷ 48 ∷ 48 ∷ 10 ∷
    109 ∷ 105 ∷ 120 ∷ 101 ∷ 100 ∷ 32 ∷ 49 ∷ 50 ∷ 53 ∷ 48 ∷ 48 ∷ 48 ∷ 10 ∷
    100 ∷ 121 ∷ 110 ∷ 97 ∷ 109 ∷ 105 ∷ 99 ∷ 32 ∷ 49 ∷ 51 ∷ 48 ∷ 48 ∷ 48 ∷ 48 ∷ 10 ∷
    48 ∷ 32 ∷ 53 ∷ 32 ∷ 49 ∷ 48 ∷ 32 ∷ 53 ∷ 32 ∷ 53 ∷ 32 ∷ 48 ∷ 10 ∷
    49 ∷ 32 ∷ 49 ∷ 53 ∷ 32 ∷ 49 ∷ 48 ∷ 32 ∷ 53 ∷ 32 ∷ 53 ∷ 32 ∷ 48 ∷ 10 ∷ []
unfolding program_verdict sum first first_from largest smallest_best reached worth value_over value recorded start_value word long
    bytes_of terms_of returns_of rates_of free_amount largest_amount surrenders admits rate_on penalty cash guarantee_after balance_after
    lifted_account next_account excess excess_paid maturity_value discounted state_value recorded_amount contract_value free_in
    admissible_in cash_in after_in reach_by paid_by death_payment death_share death_by mean_by_list held_by_list process_of layer_size
    layout_of listed_term check_each verdict outside short terms_checks record_checks bad_return list_checks rates_checks input_checks
    behaviour_number valuing_checks digits decimal numbered line name_of lines_of value_line return_line line_count text_of on_success
    zero_rate_bytes printed packed P returns_p terms_under entries slices_short
printed_P = rw listed_contract refl

-- "the program lends 4,096 working numbers, refusing by 11 what needs more": two layers of 64 × 32 entries, and of 683 × 3
abbrev pub P_wide : ℕ → ℕ → Terms
P_wide premium top = record {
  premium = premium;
  level = 1;
  top = top;
  dates = 2;
  fee = 0;
  penalty = 1000;
  discount = 1000000;
  step = 0;
  spare = 0;
}

pub program_room : (program_verdict (packed (P_wide 31 63)) returns_p ≡ accepted)
    × (program_verdict (packed (P_wide 2 682)) returns_p ≡ refused 11 0)
unfolding program_verdict sum first first_from word long bytes_of terms_of returns_of rates_of layer_size check_each verdict outside short
    terms_checks record_checks bad_return list_checks rates_checks input_checks behaviour_number valuing_checks on_success zero_rate_bytes
    packed returns_p terms_under entries slices_short fixed_term process_of layout_of
program_room = (refl, refl)
