-- What holds of a booking that is accepted, and how its checks follow those of the record. Assumes nothing.
use Rattle.std.proofs.Math.Bool.{Bool}
use Rattle.std.specs.Prelude.{◌||◌, List, ◌≡◌, refl, ℕ, ◌-◌, ◌≤◌, max, eqb, length}
use Rattle.std.proofs.Common.{le_trans, arith, eqb→eq, nltb→le}
use Rattle.std.proofs.Math.Dec.{ltb}
use Rattle.rules.specs.Contract.{Terms, terms_of, top_most}
use Rattle.rules.specs.Date.{dynamic, free_amount, admits}
use Rattle.rules.specs.Refusals.{accepted, verdict, number_of, outside, record_checks, terms_checks, place_of}
use Rattle.laws.specs.Accepted.{Valid, Positive, zero_accepts, NoPlace, AllPass, all_pass, nor_left, nor_right, not_not, at_most}
use Rattle.laws.specs.Accepted.{and_then, verdict_append, no_place, no_places}
use Rattle.laws.specs.Date.{dynamic_is, amount_most_lem}
use Rattle.rules.specs.Facts.{check_numbers}
use Rattle.rules.specs.Booking.{amount_checks, booking_checks}

pub record Bookable (c : Terms) (i w a t : ℕ) (buffer : List ℕ) : Type 0 where
  pub sixteen : length buffer ≡ 16
  pub date : i ≤ c.dates - 1
  pub account : w ≤ c.top
  pub guarantee : a ≤ c.premium
  pub amount : t ≤ max w (free_amount c.level a)

module _ (c : Terms) (date w a t : ℕ) (buffer : List ℕ) where
  pub bookable : verdict (amount_checks c date w a t buffer) ≡ accepted → Bookable c date w a t buffer
  unfolding amount_checks AllPass
  bookable e = go (all_pass _ e)
    where
      early : Bool
      early = outside 1 (c.dates - 1) date || ltb c.top w

      late : Bool
      late = ltb c.premium a

      go : AllPass (amount_checks c date w a t buffer) → Bookable c date w a t buffer
      go (sixteen, (state, (amount, done))) = record {
        sixteen = eqb→eq (length buffer) 16 (not_not (eqb (length buffer) 16) sixteen);
        date = at_most 1 (c.dates - 1) date (nor_left (outside 1 (c.dates - 1) date) (ltb c.top w) (nor_left early late state));
        account = nltb→le c.top w (nor_right (outside 1 (c.dates - 1) date) (ltb c.top w) (nor_left early late state));
        guarantee = nltb→le c.premium a (nor_right early late state);
        amount = dynamic_is (free_amount c.level a) w t (not_not (admits dynamic (free_amount c.level a) w t) amount);
      }

  -- number 0 is success, and no refusal has another place than 0
  pub amount_accepts : number_of (verdict (amount_checks c date w a t buffer)) ≡ 0 → verdict (amount_checks c date w a t buffer) ≡ accepted
  unfolding amount_checks check_numbers Positive
  amount_accepts e = zero_accepts (amount_checks c date w a t buffer) (omega arith) e

  pub amount_places : NoPlace (amount_checks c date w a t buffer)
  unfolding amount_checks NoPlace
  amount_places = (refl, (refl, (refl, tt)))

-- EVERY REFUSAL of a record, and of a booking, has place 0
record_no_places : (bytes : List ℕ) → NoPlace (record_checks bytes)
unfolding record_checks terms_checks NoPlace
record_no_places bytes = (refl, (refl, (refl, (refl, (refl, (refl, (refl, tt)))))))

pub record_places : (bytes : List ℕ) → place_of (verdict (record_checks bytes)) ≡ 0
record_places bytes = no_place (record_checks bytes) (record_no_places bytes)

pub booking_places : (bytes : List ℕ) (date w a t : ℕ) (buffer : List ℕ) → place_of (verdict (booking_checks bytes date w a t buffer)) ≡ 0
unfolding booking_checks
booking_places bytes date w a t buffer =
    no_place _ (no_places (record_checks bytes) _ (record_no_places bytes) (amount_places (terms_of bytes) date w a t buffer))

-- the record's checks come first
pub booking_verdict : (bytes : List ℕ) (date w a t : ℕ) (buffer : List ℕ)
    → verdict (booking_checks bytes date w a t buffer)
    ≡ and_then (verdict (record_checks bytes)) (verdict (amount_checks (terms_of bytes) date w a t buffer))
unfolding booking_checks
booking_verdict bytes date w a t buffer = verdict_append (record_checks bytes) (amount_checks (terms_of bytes) date w a t buffer)

-- account, guarantee and amount are at most 4,000
pub bookable_small : {c : Terms} {i w a t : ℕ} {buffer : List ℕ} → Valid c → Bookable c i w a t buffer
    → (w ≤ top_most) × (a ≤ top_most) × (t ≤ top_most)
bookable_small {c} v b =
    let account = le_trans b.account v.top in
    let guarantee = le_trans b.guarantee (le_trans v.premium v.top) in
    (account, guarantee, amount_most_lem c.level account guarantee b.amount)
