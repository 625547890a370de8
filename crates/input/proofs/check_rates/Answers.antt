-- `input::check_rates` meets its contract. Assumes nothing.
use borrow.Author.Tests.{lt-ltb, le-ltb, eq-eqb, ne_eqb}
use mathlib.Core.Path.{refl, sym, ◌∙◌}
use native.Mathlib.Nat.{zero-add}
use Rattle.slices.specs.Found.{found_first, none_first}
use Rattle.rules.specs.Refusals.{verdict, check_each, rates_checks}
use Rattle.input.proofs.check_rates.Goals as goal

pub returns-then-rates-dates : goal.returns-then-rates-dates
unfolding verdict rates_checks check_each
returns-then-rates-dates c = rw (ne_eqb _ _ c.if-rates-dates.true) refl

pub returns-in-Some : goal.returns-in-Some
unfolding verdict rates_checks check_each
returns-in-Some c =
    let f = found_first _ _ (sym c.first_high.ensures ∙ c.in-Some.is) in
    simp (eq-eqb _ _ c.if-rates-dates.false, f.0, lt-ltb _ _ f.1, zero-add)

pub returns-in-None : goal.returns-in-None
unfolding verdict rates_checks check_each
returns-in-None c = simp (eq-eqb _ _ c.if-rates-dates.false, le-ltb _ _ (none_first _ _ (sym c.first_high.ensures ∙ c.in-None.is)))
