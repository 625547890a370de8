-- `supplied::worth` meets its contract. Assumes nothing.
use Rattle.std.proofs.Common.{ℕ, ◌+◌, ◌/◌, ◌≤◌, ◌≡◌, get_or, arith, ap, ap₂, ◌∙◌}
use native.Mathlib.Nat.{le_trans, le_of_eq, sub-le}
use Rattle.keys.specs.Sums.{sums}
use Rattle.laws.specs.Date.{guarantee_le}
use Rattle.rules.specs.Date.{cash, balance_after, guarantee_after}
use Rattle.worth.specs.Worth.{worth_over}
use Rattle.supplied.proofs.Laws.{sum_within, sum_most_lem, amount_most_lem}
use Rattle.supplied.proofs.worth.Goals as goal

-- what is left of the account and of the guarantee
balance_left : {b : ℕ} (w t : ℕ) → b ≡ balance_after w t → b ≤ w
unfolding balance_after
balance_left w t e = le_trans (le_of_eq e) (sub-le _ _)

guarantee_left : {g : ℕ} (m w a t : ℕ) → g ≡ guarantee_after m w a t → g ≤ a
guarantee_left m w a t e = le_trans (le_of_eq e) (le_trans (guarantee_le m w a t) (sub-le _ _))

pub place-at-requires : goal.place-at-requires
place-at-requires c =
    let args = c.args in
    let p = sum_within _ c.requires.0 c.requires.1 _ _ (balance_left args.w args.t c.balance_after.ensures)
    (guarantee_left c.free_amount-m.result args.w args.a args.t c.guarantee_after-g.ensures) in
    omega arith

pub cash-requires : goal.cash-requires
cash-requires c =
    let pre = c.requires in
    (pre.0.rate_is, amount_most_lem _ pre.0 pre.1 _ pre.2)

pub offset_bounds-work-at : goal.offset_bounds-work-at
offset_bounds-work-at c =
    let args = c.args in
    let p = sum_within _ c.requires.0 c.requires.1 _ _ (balance_left args.w args.t c.balance_after.ensures)
    (guarantee_left c.free_amount-m.result args.w args.a args.t c.guarantee_after-g.ensures) in
    omega (arith, c.place-at.ensures)

pub bounds-work-at : goal.bounds-work-at
bounds-work-at c =
    let args = c.args in
    let p = sum_within _ c.requires.0 c.requires.1 _ _ (balance_left args.w args.t c.balance_after.ensures)
    (guarantee_left c.free_amount-m.result args.w args.a args.t c.guarantee_after-g.ensures) in
    rw c.place-at.ensures p

pub overflow_add-result : goal.overflow_add-result
overflow_add-result c =
    let args = c.args in
    let s = sum_most_lem _ c.requires.0 c.requires.1 _ _ (balance_left args.w args.t c.balance_after.ensures)
    (guarantee_left c.free_amount-m.result args.w args.a args.t c.guarantee_after-g.ensures) in
    let sum_is = ap (λ (i : ℕ). get_or args.work.now i 0 / 8192) c.place-at.ensures in
    omega (arith, s, sum_is, c.cash.ensures.1)

pub returns : goal.returns
unfolding worth_over
returns c =
    let args = c.args in
    let free = c.free_amount-m.ensures in
    let cash_is = c.cash.ensures.0 ∙ ap (λ (m : ℕ). cash args.d.rate m args.t) free in
    let after_free = ap (λ (m : ℕ). guarantee_after m args.w args.a args.t) free in
    let guarantee_is = c.guarantee_after-g.ensures ∙ after_free in
    let sum_is = ap (λ (i : ℕ). get_or args.work.now i 0 / 8192) c.place-at.ensures in
    ap₂ (λ (x y : ℕ). x + y) cash_is (sum_is ∙ ap₂ (sums args.work.now args.d) c.balance_after.ensures guarantee_is)
