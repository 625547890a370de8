-- `supplied::valued` meets its contract. Assumes nothing.
use Prim.Native.Nat.{ℕ, ◌+◌, ◌*◌, ◌≤◌}
use borrow.Author.Tests.{lt-ltb, le-ltb}
use lib.ListN.{length}
use mathlib.Core.Bool.{false}
use mathlib.Core.Path.{◌≡◌, refl, ap, sym, ◌∙◌}
use Rattle.std.specs.Prelude.{◌||◌}
use Rattle.contract.specs.Reading.{terms_in}
use Rattle.slices.specs.Found.{found_first, none_first}
use Rattle.laws.specs.Supplied.{lent_room, slices_refused, entry_refused, table_accepted}
use Rattle.laws.specs.Terms.{table_size}
use Rattle.rules.specs.Contract.{returns_of, rates_of}
use Rattle.rules.specs.FixedTerm.{layer_size}
use Rattle.rules.specs.Refusals.{short}
use Rattle.valuing.specs.Answered.{refusal}
use Rattle.supplied.proofs.Laws.{answered_refused, answered_by}
use Rattle.supplied.proofs.valued.Goals as goal
use Rattle.supplied.proofs.valued.Goals.{Else-too_short}

pub returns-then-too_short : goal.returns-then-too_short
returns-then-too_short c =
    let p = c.args.policy in
    answered_refused (slices_refused (terms_in p.contract) (returns_of p.list.now) (rates_of p.rates.now) c.args.work.now
    c.args.table.now (sym c.too_short.ensures ∙ c.if-too_short.true)) refl

long_enough : (c : Else-too_short)
    → (short (2 * layer_size (terms_in c.args.policy.contract)) c.args.work.now
    || short (table_size (terms_in c.args.policy.contract)) c.args.table.now)
    ≡ false
long_enough c = sym c.too_short.ensures ∙ c.if-too_short.false

room : (c : Else-too_short)
    → (layer_size (terms_in c.args.policy.contract) + layer_size (terms_in c.args.policy.contract) ≤ length c.args.work.now)
    × (table_size (terms_in c.args.policy.contract) ≤ length c.args.table.now)
room c =
    let p = c.args.policy in
    lent_room (terms_in p.contract) (returns_of p.list.now) (rates_of p.rates.now) c.args.work.now c.args.table.now (long_enough c)

pub first_bad-requires : goal.first_bad-requires
first_bad-requires c = (room (goal.at.first_bad-requires c).Else-too_short).1

pub returns-in-Some : goal.returns-in-Some
returns-in-Some c =
    let p = c.args.policy in
    let f = found_first _ _ (sym c.first_bad.ensures ∙ c.in-Some.is) in
    answered_refused (entry_refused (terms_in p.contract) (returns_of p.list.now) (rates_of p.rates.now) c.args.work.now
    c.args.table.now (long_enough (goal.at.returns-in-Some c).Else-too_short) (rw f.0 (lt-ltb _ _ f.1)))
    (ap (λ (x : ℕ). refusal 14 x) (sym f.0))

pub follow-requires : goal.follow-requires
follow-requires c =
    let r = room (goal.at.follow-requires c).Else-too_short in
    record { room = r.0; entries = r.1; none_bad = none_first _ _ (sym c.first_bad.ensures ∙ c.in_default.is) }

pub returns : goal.returns
returns c =
    let p = c.args.policy in
    let none = none_first _ _ (sym c.first_bad.ensures ∙ c.in_default.is) in
    answered_by (table_accepted (terms_in p.contract) (returns_of p.list.now) (rates_of p.rates.now) c.args.work.now
    c.args.table.now (long_enough (goal.at.returns c).Else-too_short) (le-ltb _ _ none)) c.follow.ensures
