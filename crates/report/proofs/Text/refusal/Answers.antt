-- `report::Text::refusal` meets its contract. Assumes nothing.
use Rattle.std.proofs.Common.{◌∷◌, [], ap₂, ◌∙◌, ℕ}
use Rattle.rules.specs.Printed.{line, refused_word}
use Rattle.report.specs.Text.{put_eq}
use Rattle.report.proofs.Text.refusal.Goals as goal

pub returns : goal.returns
unfolding refused_word
returns c =
    put_eq (ap₂ (λ (n p : ℕ). line refused_word (n ∷ p ∷ [])) (c.from.ensures ∙ c.number.ensures) c.place.ensures) c.line.ensures
