-- `dates::Course::sum_date` meets its contract. Assumes nothing.
use mathlib.Core.List.{List}
use mathlib.Core.Path.{◌≡◌, ap₂, sym, ◌∙◌, subst}
use native.Mathlib.Omega.{arith}
use Prim.Native.Nat.{ℕ, ◌+◌, ◌*◌}
use Rattle.contract.specs.Reading.{terms_in}
use Rattle.laws.specs.Date.{shared}
use Rattle.slices.specs.Rows.{cells, flat}
use Rattle.slices.specs.Stored.{stored}
use Rattle.dates.proofs.Laws.{sharing, shared_values, summed}
use Rattle.dates.specs.Dated.{Summed, date_of}
use Rattle.returns.specs.Sorted.{in_order}
use Rattle.rules.specs.Contract.{rates_of}
use Rattle.dates.proofs.Course.sum_date.Goals as goal

pub share_layer-requires : goal.share_layer-requires
share_layer-requires c = rw (c.rate_of.ensures, c.stride-stride.ensures) (sharing c.args.self.given c.requires)

-- what the shares leave, by the period's rate
abbrev leaves : List ℕ → (n stride r : ℕ) → List ℕ
leaves work n stride r = stored work 0 (flat stride (shared r (cells work 0 stride))) (n * stride)

pub expect_layer-requires : goal.expect_layer-requires
expect_layer-requires c =
    let args = c.args in
    let course = args.self in
    let left = c.share_layer.ensures ∙ ap₂ (leaves args.work.now (course.contract.top + 1)) c.stride-stride.ensures c.rate_of.ensures in
    let given = course.given in (
      record { valid = given.valid.returns; climbing = given.climbing },
      shared_values given c.requires _ left,
      omega (arith, c.requires.before, given.valid.terms.dates),
    )

pub returns : goal.returns
returns c =
    let args = c.args in
    let course = args.self in
    let left = c.share_layer.ensures ∙ ap₂ (leaves args.work.now (course.contract.top + 1)) c.stride-stride.ensures c.rate_of.ensures in
    let size = c.layer_size.ensures.0 in
    let stride = c.stride-stride.ensures in
    let rate = c.rate_on.ensures.0 in
    let is : record { base = _; stride = _; level = course.contract.level; rate = _ } ≡ date_of (terms_in course.contract) args.i =
    λ x. record { base = size x; stride = stride x; level = course.contract.level; rate = rate x } in (
      is,
      subst (Summed (terms_in course.contract) (in_order course.order.now) (rates_of course.rates.now args.i) args.work.now _) (sym is)
          (summed course.given c.requires _ left _ c.expect_layer.ensures),
    )
