-- `booking::book` meets its contract. Assumes nothing.
use Rattle.std.proofs.Common.{◌≡◌, ℕ, List, ap, ap₂, sym, ◌∙◌}
use Rattle.std.proofs.lemmas.Result.{err_from_is_err_and}
use Rattle.contract.specs.Accepted.{read_accepted, read_refused}
use Rattle.contract.specs.Refusal.{number_in, place_in}
use Rattle.laws.specs.Accepted.{and_then}
use Rattle.laws.specs.Booking.{booking_verdict}
use Rattle.rules.specs.Contract.{Terms, terms_of}
use Rattle.rules.specs.Refusals.{Verdict, refused, verdict, on_success}
use Rattle.rules.specs.Booking.{amount_checks, booking_checks, booking_bytes, booking_buffer}
use Rattle.booking.proofs.book.Goals as goal
use Rattle.booking.proofs.book.Goals.{After-from_residual, After-booked}

-- the record is refused
whole_refused : (c : After-from_residual)
    → let w = c.args.w in let r = c.in_err-contract.field-0.0 in
    verdict (booking_checks c.args.bytes.now w.date w.account w.guarantee w.amount c.args.buffer.now) ≡ refused (number_in r) (place_in r)
whole_refused c =
    let w = c.args.w in
    let bytes = c.args.bytes.now in
    let later = verdict (amount_checks (terms_of bytes) w.date w.account w.guarantee w.amount c.args.buffer.now) in
    booking_verdict bytes w.date w.account w.guarantee w.amount c.args.buffer.now
    ∙ ap (λ (v : Verdict). and_then v later) (read_refused bytes (sym c.in_err-contract.ensures))

pub returns-in_err-contract : goal.returns-in_err-contract
unfolding booking_buffer on_success
returns-in_err-contract c =
    let w = c.args.w in
    let p = err_from_is_err_and c.from_residual.result c.from_residual.ensures.1 in
    let whole = whole_refused (goal.at.returns-in_err-contract c).After-from_residual in
    let new = booking_bytes (terms_of c.args.bytes.now) w.date w.account w.guarantee w.amount in
    record {
      outcome = rw (p.1, p.2) (sym whole);
      buffer_after = sym (ap (λ (v : Verdict). on_success v new c.args.buffer.now) whole);
    }

pub returns : goal.returns
unfolding booking_buffer
returns c =
    let w = c.args.w in
    let bytes = c.args.bytes.now in
    let buffer = c.args.buffer.now in
    let known = read_accepted bytes c.in_ok-contract.contract (sym c.in_ok-contract.ensures) in
    let later = verdict (amount_checks (terms_of bytes) w.date w.account w.guarantee w.amount buffer) in
    let whole = booking_verdict bytes w.date w.account w.guarantee w.amount buffer
    ∙ ap (λ (v : Verdict). and_then v later) known.accepts in
    let same = ap (λ (t : Terms). verdict (amount_checks t w.date w.account w.guarantee w.amount buffer)) known.terms ∙ sym whole in
    let new = ap (λ (t : Terms). booking_bytes t w.date w.account w.guarantee w.amount) known.terms in
    record {
      outcome = c.booked.ensures.outcome_is ∙ same;
      buffer_after = c.booked.ensures.buffer_is ∙ ap₂ (λ (v : Verdict) (new : List ℕ). on_success v new buffer) same new;
    }
