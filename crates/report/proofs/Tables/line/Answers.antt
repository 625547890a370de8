-- `report::Tables::line` meets its contract. Assumes nothing.
use Rattle.std.proofs.Common.{ℕ, ◌+◌, ◌*◌, ◌≤◌, ◌<◌, ◌≡◌, List, get_or, ap, ◌∙◌, arith}
use Rattle.contract.specs.Reading.{terms_in}
use Rattle.laws.specs.Date.{account_le}
use Rattle.laws.specs.Terms.{table_size}
use Rattle.report.specs.Tables.{return_within, factor_le, row_small, entry_in, table_line_lem}
use Rattle.report.specs.Text.{put_then, put_eq}
use Rattle.rules.specs.Contract.{top_most, returns_of}
use Rattle.rules.specs.Date.{next_account}
use Rattle.rules.specs.Printed.{line, decimal}
use Rattle.report.proofs.Tables.line.Goals as goal
use Rattle.report.proofs.Tables.line.Goals.{After-stride}

pub factor_of-factor-requires : goal.factor_of-factor-requires
factor_of-factor-requires c =
    let v = c.args.self.now.agreement.returns in
    (omega (arith, c.requires.within.0, v.count), omega (arith, return_within _ v c.requires.within.0))

pub next_account-account-requires : goal.next_account-account-requires
unfolding returns_of
next_account-account-requires c =
    let v = c.args.self.now.agreement.contract.in_range in
    let f = factor_le _ c.args.self.now.agreement.returns c.requires.within.0 in
    (v.fee, omega (arith, v.top, v.premium), omega (arith, f, c.factor_of-factor.ensures.0))

-- the account is no more than the top, so that its entry is in the first layer
below : (c : After-stride) → c.next_account-account.result ≤ c.args.self.now.agreement.contract.top
below c =
    let t = c.args.self.now.agreement.contract in
    omega (arith, c.next_account-account.ensures, account_le t.fee t.top t.premium c.factor_of-factor.result)

small : (c : After-stride)
    → let t = c.args.self.now.agreement.contract in c.next_account-account.result * c.stride.result + t.premium ≤ top_most * (top_most + 2)
small c =
    let v = c.args.self.now.agreement.contract.in_range in
    rw c.stride.ensures (omega (arith, row_small v c.next_account-account.result (below c), v.top, v.premium))

inside : (c : After-stride) {n : ℕ} → table_size (terms_in c.args.self.now.agreement.contract) ≤ n
    → let t = c.args.self.now.agreement.contract in c.next_account-account.result * c.stride.result + t.premium < n
inside c room =
    let v = c.args.self.now.agreement.contract.in_range in
    rw c.stride.ensures (entry_in v _ (below c) c.requires.within.1 room)

pub overflow_mul-entry : goal.overflow_mul-entry
overflow_mul-entry c = omega (arith, small (goal.at.overflow_mul-entry c).After-stride)

pub overflow_add-entry : goal.overflow_add-entry
overflow_add-entry c = omega (arith, small (goal.at.overflow_add-entry c).After-stride)

pub offset_bounds-self-entry : goal.offset_bounds-self-entry
offset_bounds-self-entry c = omega (arith, small (goal.at.offset_bounds-self-entry c).After-stride)

pub bounds-self-entry : goal.bounds-self-entry
bounds-self-entry c = inside (goal.at.bounds-self-entry c).After-stride c.args.self.now.tabled.static_room

pub offset_bounds-self-entry-2 : goal.offset_bounds-self-entry-2
offset_bounds-self-entry-2 c = omega (arith, small (goal.at.offset_bounds-self-entry-2 c).After-stride)

pub bounds-self-entry-2 : goal.bounds-self-entry-2
bounds-self-entry-2 c = inside (goal.at.bounds-self-entry-2 c).After-stride c.args.self.now.tabled.mixed_room

pub offset_bounds-self-entry-3 : goal.offset_bounds-self-entry-3
offset_bounds-self-entry-3 c = omega (arith, small (goal.at.offset_bounds-self-entry-3 c).After-stride)

pub bounds-self-entry-3 : goal.bounds-self-entry-3
bounds-self-entry-3 c = inside (goal.at.bounds-self-entry-3 c).After-stride c.args.self.now.tabled.dynamic_room

pub returns : goal.returns
unfolding line decimal returns_of
returns c =
    let t = c.args.self.now.agreement.contract in
    let w = c.next_account-account.result in
    let entry : (xs : List ℕ) → get_or xs (w * c.stride.result + t.premium) 0 ≡ get_or xs (w * (t.premium + 1) + t.premium) 0 =
    λ xs. ap (λ (n : ℕ). get_or xs (w * n + t.premium) 0) c.stride.ensures in
    put_eq (table_line_lem _ _ _ _ _ c.args.k
    (c.next_account-account.ensures ∙ ap (next_account t.fee t.top t.premium) c.factor_of-factor.ensures.0)
    (c.from.ensures ∙ entry _) (c.from-2.ensures ∙ entry _) (c.from-3.ensures ∙ entry _))
    (put_then c.digits.ensures c.numbers.ensures)
