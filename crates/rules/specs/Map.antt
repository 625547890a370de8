-- Document 02, request (ii), 'A map of surrender': the map of any table, and the valuing call that is also lent one. Assumes
-- nothing.
use Rattle.std.specs.Prelude.{Bool, List, [], ◌∷◌, ◌++◌, ℕ, ◌%◌, get_or}
use Rattle.decision.specs.Bits.{words_for, words_of, set_bits}
use Rattle.rules.specs.Product.{Product, entries}
use Rattle.rules.specs.Refusals.{Check, check, Verdict, on_success, short}
use Rattle.rules.specs.Operations.{Policy, filled, valuing_checks, valued_table}

module _ {S H : Type 0} (X : Product S H) where
  -- "set when the amount equals W and W is above m, clear otherwise": at entry e of a table, over all dates
  unfoldable pub surrendered : List ℕ → ℕ → Bool
  surrendered table e = X.surrender (X.layout.state_at (e % X.layout.size)) (get_or table e 0)

  -- "a bit per table entry, lowest bit first .. Unused bits of the last word are zero"
  unfoldable pub surrender_map : List ℕ → List ℕ
  surrender_map table = words_of (surrendered table) (entries X)

  -- "The number of set bits"
  unfoldable pub surrender_count : List ℕ → ℕ
  surrender_count table = set_bits (surrendered table) (entries X)

  -- the words that a map needs
  unfoldable pub map_size : ℕ
  map_size = words_for (entries X)

-- ---- valuing a contract with a map: "A valuing call that is also lent 64-bit words", so it reports and leaves what valuing does ..
module _ {S H : Type 0} (p : Policy S H) where
  -- 16: "map too short for the table, checked after 11"
  unfoldable pub mapping_checks : ℕ → List ℕ → List ℕ → List ℕ → List Check
  mapping_checks behaviour work table map = valuing_checks p behaviour work table ++ (check 16 0 (short (map_size p.product) map) ∷ [])

  -- .. and the map of the table that it leaves: "later words are untouched"
  unfoldable pub map_after : Verdict → ℕ → List ℕ → List ℕ → List ℕ
  map_after v behaviour table map = filled v (map_size p.product) (surrender_map p.product (valued_table p v behaviour table)) map

  -- "The number of set bits is returned."; of a refusal: "Other figures it would report are 0"
  unfoldable pub count_after : Verdict → ℕ → List ℕ → ℕ
  count_after v behaviour table = on_success v (surrender_count p.product (valued_table p v behaviour table)) 0
