-- `surrender::map_size` meets its contract. Assumes nothing.
use Prim.Native.Nat.{ℕ, ◌+◌, ◌/◌, ◌%◌, min}
use mathlib.Core.Path.{◌≡◌, ap, ◌∙◌}
use native.Mathlib.Omega.{arith}
use Rattle.decision.specs.Bits.{words_for}
use Rattle.rules.specs.Map.{map_size}
use Rattle.rules.specs.Product.{entries}
use Rattle.laws.specs.Terms.{table_size}
use Rattle.rules.specs.FixedTerm.{fixed_term, process_of, layout_of}
use Rattle.surrender.proofs.map_size.Goals as goal

-- a quotient that is not whole, rounded up
up : (n : ℕ) → n / 64 + min 1 (n % 64) ≡ (n + 63) / 64
up n = omega arith

pub returns : goal.returns
unfolding map_size words_for entries table_size fixed_term process_of layout_of
returns c = c.div_ceil.ensures ∙ up _ ∙ ap (λ (n : ℕ). (n + 63) / 64) c.table_size.ensures.0
