-- `booking::booked` meets its contract. Assumes nothing.
use Rattle.std.proofs.Common.{◌≡◌, ◌++◌, ℕ, ap, ap₂, sym, ◌∙◌, arith}
use Rattle.std.proofs.lemmas.Result.{err_from_is_err_and}
use Rattle.contract.specs.Reading.{terms_in}
use Rattle.laws.specs.Accepted.{success_reports}
use Rattle.laws.specs.Booking.{Bookable, bookable, bookable_small}
use Rattle.laws.specs.Date.{guarantee_le}
use Rattle.rules.specs.Contract.{bytes_of}
use Rattle.rules.specs.Date.{cash, penalty, guarantee_after, balance_after}
use Rattle.rules.specs.Refusals.{Verdict, on_success}
use Rattle.rules.specs.Booking.{booking_bytes}
use Rattle.booking.proofs.booked.Goals as goal
use Rattle.booking.proofs.booked.Goals.{In_ok-refused_by}

pub returns-in_err-refused_by : goal.returns-in_err-refused_by
unfolding on_success
returns-in_err-refused_by c =
    let p = err_from_is_err_and c.from_residual.result c.from_residual.ensures.1 in
    let w = c.args.w in
    let bytes = booking_bytes (terms_in c.args.c) w.date w.account w.guarantee w.amount in
    rw (p.1, p.2) (record {
      outcome_is = c.in_err-refused_by.ensures;
      buffer_is = ap (λ (v : Verdict). on_success v bytes c.args.buffer.now) c.in_err-refused_by.ensures;
    })

-- past the checks the booking is accepted
able : (c : In_ok-refused_by)
    → let w = c.args.w in Bookable (terms_in c.args.c) w.date w.account w.guarantee w.amount c.args.buffer.now
able c = bookable _ _ _ _ _ _ (sym c.in_ok-refused_by.ensures)

pub rate_on-rate-requires : goal.rate_on-rate-requires
rate_on-rate-requires c =
    let v = c.args.c.in_range in
    (v.penalty, v.step, omega (arith, (able (goal.at.rate_on-rate-requires c).In_ok-refused_by).date, v.dates))

pub cash-cash-requires : goal.cash-cash-requires
cash-cash-requires c =
    let yes = able (goal.at.cash-cash-requires c).In_ok-refused_by in
    (c.rate_on-rate.ensures.1, (bookable_small c.args.c.in_range yes).2)

pub penalty-penalty-requires : goal.penalty-penalty-requires
penalty-penalty-requires c =
    let yes = able (goal.at.penalty-penalty-requires c).In_ok-refused_by in
    (c.rate_on-rate.ensures.1, (bookable_small c.args.c.in_range yes).2)

pub guarantee_after-guarantee-requires : goal.guarantee_after-guarantee-requires
guarantee_after-guarantee-requires c =
    let yes = able (goal.at.guarantee_after-guarantee-requires c).In_ok-refused_by in
    let s = bookable_small c.args.c.in_range yes in
    (s.0, s.1, rw c.free_amount-free.ensures yes.amount)

pub fill-requires : goal.fill-requires
unfolding balance_after
fill-requires c =
    let yes = able (goal.at.fill-requires c).In_ok-refused_by in
    let s = bookable_small c.args.c.in_range yes in
    let w = c.args.w in
    let g = guarantee_le c.free_amount-free.result w.account w.guarantee w.amount in
    record {
      sixteen = yes.sixteen;
      money = (c.cash-cash.ensures.1, c.penalty-penalty.ensures.1);
      state = (omega (arith, c.balance_after-balance.ensures), omega (arith, c.guarantee_after-guarantee.ensures));
    }

pub returns : goal.returns
unfolding booking_bytes
returns c =
    let w = c.args.w in
    let free = c.free_amount-free.ensures in
    let rate = c.rate_on-rate.ensures.0 in
    let cash_is = c.cash-cash.ensures.0 ∙ ap₂ (λ (r m : ℕ). cash r m w.amount) rate free in
    let penalty_is = c.penalty-penalty.ensures.0 ∙ ap₂ (λ (r m : ℕ). penalty r m w.amount) rate free in
    let guarantee_is =
    c.guarantee_after-guarantee.ensures ∙ ap (λ (m : ℕ). guarantee_after m w.account w.guarantee w.amount) free in
    let balance_is = c.balance_after-balance.ensures in
    let bytes : _ ≡ booking_bytes (terms_in c.args.c) w.date w.account w.guarantee w.amount =
    λ i. bytes_of 4 (cash_is i) ++ bytes_of 4 (penalty_is i) ++ bytes_of 2 (balance_is i) ++ bytes_of 2 (guarantee_is i)
    ++ bytes_of 4 0 in
    record {
      outcome_is = c.in_ok-refused_by.ensures;
      buffer_is = c.fill.ensures ∙ bytes ∙ sym (success_reports _ _ (sym c.in_ok-refused_by.ensures));
    }
