-- `mixed::States::from_level` meets its contract. Assumes nothing.
use mathlib.Core.Path.{◌∙◌}
use native.Mathlib.Omega.{arith}
use Rattle.mixed.proofs.Laws.{alone, not_static, rest_alone, rest_larger, copying}
use Rattle.slices.specs.Stored.{stored_eq}
use Rattle.mixed.proofs.States.from_level.Goals as goal

pub copy-requires : goal.copy-requires
copy-requires c =
    copying c.args.self.span c.requires c.saturating_sub.ensures c.saturating_sub-2.ensures c.place-at.ensures
    (omega (arith, c.key-add.ensures.1))

pub returns-then-w-level : goal.returns-then-w-level
returns-then-w-level c =
    let few = alone c.args.self.behaviour c.eq.ensures c.args.self.other c.if-w-level.either in
    c.copy.ensures
    ∙ stored_eq _ _ _ _ _ (λ i l. rest_alone c.args.self.span c.requires c.saturating_sub.ensures c.saturating_sub-2.ensures
    c.place-at.ensures i l _
    c.key-add.ensures.0 few)

pub copy_larger-requires : goal.copy_larger-requires
copy_larger-requires c = (
  copying c.args.self.span c.requires c.saturating_sub.ensures c.saturating_sub-2.ensures c.place-at.ensures
      (omega (arith, c.key-add.ensures.1)),
  c.surrender_key-other.ensures.1,
)

pub returns-else-w-level : goal.returns-else-w-level
returns-else-w-level c =
    let is_mixed = not_static c.args.self.behaviour c.eq.ensures c.args.self.other c.if-w-level.false.0 in
    c.copy_larger.ensures
    ∙ stored_eq _ _ _ _ _ (λ i l. rest_larger c.args.self.span c.requires c.saturating_sub.ensures c.saturating_sub-2.ensures
    c.place-at.ensures i l _
    c.key-add.ensures.0 is_mixed c.if-w-level.false.1 c.surrender_key-other.ensures.0)
