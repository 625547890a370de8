-- `walk::Walkable::arrive` meets its contract. Assumes nothing.
use mathlib.Core.Path.{◌≡◌, refl, ap, ◌∙◌}
use native.Mathlib.Nat.{le_trans, le_of_eq}
use native.Mathlib.Omega.{arith}
use Rattle.returns.specs.Counted.{counted}
use Rattle.rules.specs.Contract.{returns_of}
use Rattle.rules.specs.Date.{next_account, excess_paid}
use Rattle.walk.proofs.Laws.{factor_on, factor_small}
use Rattle.walk.proofs.Walkable.arrive.Goals as goal
use Rattle.walk.proofs.Walkable.arrive.Goals.{After-factor_of-factor}

pub factor_of-factor-requires : goal.factor_of-factor-requires
factor_of-factor-requires c =
    let x = c.args.self.now in
    let k = x.fit.numbers c.args.j c.requires.0 in
    let long = (counted refl x.fit.returns).long in
    let most = x.fit.returns.count in
    (omega (arith, c.from-number.ensures, most), omega (arith, c.from-number.ensures, long))

-- the factor that was read is that of the return
factor_is : (c : After-factor_of-factor) → c.factor_of-factor.result ≡ factor_on c.args.self.now c.args.j
factor_is c = c.factor_of-factor.ensures.0 ∙ ap (returns_of c.args.self.now.list.now).factor c.from-number.ensures

pub next_account-requires : goal.next_account-requires
next_account-requires c =
    let x = c.args.self.now in (
      x.fit.valid.fee,
      le_trans c.requires.1 x.fit.valid.top,
      le_trans (le_of_eq (factor_is (goal.at.next_account-requires c).After-factor_of-factor)) (factor_small x c.args.j c.requires.0),
    )

pub excess_paid-requires : goal.excess_paid-requires
excess_paid-requires c =
    let x = c.args.self.now in (
      x.fit.valid.fee,
      le_trans c.requires.1 x.fit.valid.top,
      le_trans (le_of_eq (factor_is (goal.at.excess_paid-requires c).After-factor_of-factor)) (factor_small x c.args.j c.requires.0),
    )

pub returns : goal.returns
returns c =
    let x = c.args.self.now in
    let factor = factor_is (goal.at.returns c).After-factor_of-factor in
    let account = c.next_account.ensures ∙ ap (next_account x.contract.fee x.contract.top c.args.balance) factor in
    let paid = c.excess_paid.ensures.0 ∙ ap (excess_paid x.contract.fee x.contract.top c.args.balance) factor in
    λ i. record { account = account i; guarantee = c.args.guarantee; paid = paid i }
