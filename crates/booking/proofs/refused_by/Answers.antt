-- `booking::refused_by` meets its contract. Assumes nothing.
use borrow.Author.Tests.{eq-eqb, ne_eqb}
use Rattle.std.proofs.Common.{ℕ, sym, ◌∙◌, ap}
use Rattle.rules.specs.Date.{dynamic, admits}
use Rattle.rules.specs.Refusals.{verdict}
use Rattle.rules.specs.Booking.{amount_checks}
use Rattle.booking.proofs.refused_by.Goals as goal

pub returns-then-buffer-ne-BYTES : goal.returns-then-buffer-ne-BYTES
unfolding verdict amount_checks
returns-then-buffer-ne-BYTES c = rw (ne_eqb _ _ c.if-buffer-ne-BYTES.true)

pub returns-then-bad_state : goal.returns-then-bad_state
unfolding verdict amount_checks
returns-then-bad_state c = rw (eq-eqb _ _ c.if-buffer-ne-BYTES.false, sym c.bad_state.ensures ∙ c.if-bad_state.true)

pub returns-then-not-admits_dynamic : goal.returns-then-not-admits_dynamic
unfolding verdict amount_checks
returns-then-not-admits_dynamic c =
    let w = c.args.w in
    rw (
      eq-eqb _ _ c.if-buffer-ne-BYTES.false,
      sym c.bad_state.ensures ∙ c.if-bad_state.false,
      ap (λ (m : ℕ). admits dynamic m w.account w.amount) (sym c.free_amount.ensures)
          ∙ sym c.admits_dynamic.ensures ∙ c.if-not-admits_dynamic.true,
    )

pub returns : goal.returns
unfolding verdict amount_checks
returns c =
    let w = c.args.w in
    rw (
      eq-eqb _ _ c.if-buffer-ne-BYTES.false,
      sym c.bad_state.ensures ∙ c.if-bad_state.false,
      ap (λ (m : ℕ). admits dynamic m w.account w.amount) (sym c.free_amount.ensures)
          ∙ sym c.admits_dynamic.ensures ∙ c.if-not-admits_dynamic.false,
    )
