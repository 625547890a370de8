-- `expect::first_reached` meets its contract. Assumes nothing.
use Rattle.std.proofs.Common.{ℕ, ◌≤◌, ◌≡◌}
use mathlib.Core.Path.{refl}
use native.Mathlib.Nat.{le_trans}
use native.Mathlib.Omega.{arith}
use Rattle.laws.specs.Date.{account_le}
use Rattle.rules.specs.Date.{next_account}
use Rattle.expect.proofs.Laws.{return_in, return_number, factor_in, account_in, value_low, start_is}
use Rattle.expect.proofs.first_reached.Goals as goal

-- the account that the return leads to
account : {x : ℕ} (fee top balance factor : ℕ) → x ≡ next_account fee top balance factor → x ≤ top
account fee top balance factor e = rw e (account_le _ _ _ _)

pub factor_of-factor-requires : goal.factor_of-factor-requires
factor_of-factor-requires c = let pre = c.requires in (return_number pre.0 _ pre.1, omega (arith, return_in pre.0 _ pre.1))

pub next_account-account-requires : goal.next_account-account-requires
next_account-account-requires c = let pre = c.requires in factor_in pre.0 _ pre.1 c.factor_of-factor.ensures.0

pub excess_paid-paid-requires : goal.excess_paid-paid-requires
excess_paid-paid-requires c =
    let pre = c.requires in factor_in pre.0 _ pre.1 c.factor_of-factor.ensures.0

pub overflow_mul-value : goal.overflow_mul-value
overflow_mul-value c =
    let pre = c.requires in omega (arith, account_in pre.0 _ pre.1 _ c.stride.ensures (account _ _ _ _ c.next_account-account.ensures))

pub overflow_add-value : goal.overflow_add-value
overflow_add-value c =
    let pre = c.requires in omega (arith, account_in pre.0 _ pre.1 _ c.stride.ensures (account _ _ _ _ c.next_account-account.ensures))

pub offset_bounds-work-account : goal.offset_bounds-work-account
offset_bounds-work-account c =
    let pre = c.requires in omega (arith, account_in pre.0 _ pre.1 _ c.stride.ensures (account _ _ _ _ c.next_account-account.ensures))

pub bounds-work-account : goal.bounds-work-account
bounds-work-account c =
    let pre = c.requires in account_in pre.0 _ pre.1 _ c.stride.ensures (account _ _ _ _ c.next_account-account.ensures)

pub death_payment-payment-requires : goal.death_payment-payment-requires
death_payment-payment-requires c =
    let valid = c.requires.0.first.layers.valid in
    (le_trans (account _ _ _ _ c.next_account-account.ensures) valid.top, le_trans valid.premium valid.top)

pub death_share-requires : goal.death_share-requires
death_share-requires c =
    let pre = c.requires in
    let low = value_low pre.0 _ pre.1 _ c.stride.ensures (account _ _ _ _ c.next_account-account.ensures) in
    (pre.0.rate_is, low, omega (arith, c.death_payment-payment.ensures.1))

pub returns : goal.returns
returns c =
    let pre = c.requires in
    let valid = pre.0.first.layers.valid in (
      start_is pre.0 _ pre.1 c.factor_of-factor.ensures.0 c.stride.ensures c.next_account-account.ensures c.excess_paid-paid.ensures.0
          refl c.death_payment-payment.ensures.0 c.death_share.ensures.0,
      omega (arith, c.excess_paid-paid.ensures.1, c.death_share.ensures.1, valid.premium, valid.top),
    )
