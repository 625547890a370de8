-- Where the layer of a date stands in the table. Assumes nothing.
use Rattle.std.specs.Prelude.{List, ◌≡◌, refl, ℕ, ◌+◌, ◌-◌, ◌*◌, ◌≤◌, ◌<◌, min, length}
use Rattle.std.proofs.Math.Path.{ap}
use Rattle.std.proofs.Common.{◌∙◌, le_trans, arith}
use Rattle.std.proofs.Math.ListN.{get_or}
use borrow.Rule.Slice.PartMut.{mid_of, mid_len}
use Rattle.decision.specs.Layers.{lookup, entry}
use Rattle.slices.specs.Parts.{part_at}
use Rattle.slices.specs.Rows.{within_rows, rows_le, rows_before}
use Rattle.rules.specs.Contract.{Terms}
use Rattle.rules.specs.FixedTerm.{layer_size, layout_of}
use Rattle.dates.specs.Back.{at}
use Rattle.laws.specs.Terms.{table_size}

-- "the layer of date i starts at entry (i − 1) × (top + 1) × (U + 1)"; it stands in the table
pub record DateLayer (c : Terms) (i from to : ℕ) : Type 0 where
  pub start : from ≡ (i - 1) * layer_size c
  pub end : to ≡ from + layer_size c
  pub within : to ≤ table_size c

pub date_layer : (c : Terms) {i : ℕ} → 0 < i → i < c.dates → DateLayer c i ((i - 1) * layer_size c) ((i - 1) * layer_size c + layer_size c)
unfolding table_size
date_layer c {i} some before =
    let e = rows_before (layer_size c) i some in
    let l = rows_le (layer_size c) i (c.dates - 1) (omega arith) in
    record { start = refl; end = refl; within = omega arith }

-- what of it is lent, where a table has `lent` entries
pub record LentLayer (c : Terms) (i lent from to : ℕ) : Type 0 where
  pub start : from ≡ min ((i - 1) * layer_size c) lent
  pub end : to ≡ min ((i - 1) * layer_size c + layer_size c) lent

-- the entry of a state stands in a layer
pub entry_within : (c : Terms) {w a : ℕ} → w ≤ c.top → a ≤ c.premium → w * (c.premium + 1) + a < layer_size c
unfolding layer_size
entry_within c {w} {a} h l = within_rows (c.premium + 1) (c.top + 1) w a (omega arith) (omega arith)

-- the part of the table that is handed on
module _ {c : Terms} {i from to : ℕ} (p : DateLayer c i from to) (table : List ℕ) (room : table_size c ≤ length table) where
  pub layer_within : to ≤ length table
  layer_within = le_trans p.within room

  pub layer_long : length (mid_of from (to - from) table) ≡ layer_size c
  layer_long = mid_len from to table layer_within ∙ (let e = p.end in omega arith)

  pub layer_entry : {w a : ℕ} → w ≤ c.top → a ≤ c.premium
      → get_or (mid_of from (to - from) table) (w * (c.premium + 1) + a) 0 ≡ lookup (layout_of c) table i (at w a)
  unfolding lookup entry layout_of
  layer_entry {w} {a} h l =
      let e = p.end in
      let q = entry_within c h l in
      part_at from to (w * (c.premium + 1) + a) table (omega arith)
      ∙ ap (λ (x : ℕ). get_or table (x + (w * (c.premium + 1) + a)) 0) p.start
