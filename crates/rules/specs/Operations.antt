-- Document 01, 'Lent slices' and 'What an office is told': the whole answer of each operation on any policy, and what it leaves in
-- each slice, on every input. Sentences marked (iii), (vi) are of document 02, by its requests. Assumes nothing.
use Rattle.std.specs.Prelude.{Bool, not, ◌||◌, List, [], ◌∷◌, ◌++◌, ℕ, zero, suc, ◌*◌, leb, ltb, eqb, ℤ, pos, get_or, length, drop}
use Rattle.std.specs.Prelude.{replicate}
use Rattle.rules.specs.Date.{Behaviour, static, mixed, dynamic, margin}
use Rattle.rules.specs.Product.{Product, decisions, entries, contract_value, value_layer, amount_layers, supplied_value, supplied_layer}
use Rattle.rules.specs.Product.{bad_entry, bad_date, walk_cash}
use Rattle.rules.specs.Refusals.{Check, check, check_each, Verdict, verdict, number_of, place_of, on_success, short}

-- a contract as a call meets it: the checks of what it is read from, its premium, and its product
pub record Policy (S H : Type 0) : Type 1 where
  pub checks : List Check
  pub premium : ℕ
  pub product : Product S H

-- "margin (64-bit, signed)"; (iii) "Working slices and value fields become 64-bit"
pub record Answer : Type 0 where
  pub number : ℕ
  pub place : ℕ
  pub value : ℕ
  pub margin : ℤ

-- "A refusal gives its number and place, value 0 and margin 0"
unfoldable pub answer : Verdict → ℕ → ℕ → Answer
answer v value premium = record {
  number = number_of v;
  place = place_of v;
  value = on_success v value 0;
  margin = on_success v (margin value premium) (pos 0);
}

-- a slice whose first n entries are filled: "Entries of either slice beyond these are untouched."; a refusal "changes no lent slice"
unfoldable pub filled : Verdict → ℕ → List ℕ → List ℕ → List ℕ
filled v n new slice = on_success v (new ++ drop n slice) slice

-- "behaviour not 0 static, 1 mixed, 2 dynamic"
unfoldable pub behaviour_number : Behaviour → ℕ
behaviour_number static = 0
behaviour_number mixed = 1
behaviour_number dynamic = 2

-- a number above 2 is refused, so what it stands for is never asked
unfoldable pub behaviour_of : ℕ → Behaviour
behaviour_of zero = static
behaviour_of (suc zero) = mixed
behaviour_of (suc (suc n)) = dynamic

module _ {S H : Type 0} (p : Policy S H) where
  -- ---- the working slice: "two layers. After success the first layer holds the values of date 1 and the second zeros."
  abbrev pub work_size : ℕ
  work_size = 2 * p.product.layout.size

  unfoldable pub work_after : Verdict → List ℕ → List ℕ → List ℕ
  work_after v values work = filled v work_size (values ++ replicate p.product.layout.size 0) work

  -- 11: "a lent slice shorter than needed"
  unfoldable pub slices_short : List ℕ → List ℕ → Bool
  slices_short work table = short work_size work || short (entries p.product) table

  -- ---- valuing a contract: 10, 11; and what it reports and leaves, by its verdict
  unfoldable pub valuing_checks : ℕ → List ℕ → List ℕ → List Check
  valuing_checks behaviour work table = p.checks ++ (check 10 0 (ltb 2 behaviour) ∷ check 11 0 (slices_short work table) ∷ [])

  unfoldable pub valued_answer : Verdict → ℕ → Answer
  valued_answer v behaviour = answer v (contract_value p.product (behaviour_of behaviour)) p.premium

  unfoldable pub valued_work : Verdict → ℕ → List ℕ → List ℕ
  valued_work v behaviour work = work_after v (value_layer p.product (behaviour_of behaviour)) work

  unfoldable pub valued_table : Verdict → ℕ → List ℕ → List ℕ
  valued_table v behaviour table = filled v (entries p.product) (amount_layers p.product (behaviour_of behaviour)) table

  -- ---- valuing a contract with no table: (vi) "No table is lent." 10, and 11 of the working slice; what it reports and leaves is
  -- valuing's
  unfoldable pub no_table_checks : ℕ → List ℕ → List Check
  no_table_checks behaviour work = p.checks ++ (check 10 0 (ltb 2 behaviour) ∷ check 11 0 (short work_size work) ∷ [])

  -- ---- valuing a supplied table
  -- 14, first bad table entry
  unfoldable pub supplied_checks : List ℕ → List ℕ → List Check
  supplied_checks work table =
      p.checks ++ (check 11 0 (slices_short work table) ∷ check_each 14 0 (bad_entry p.product table) (entries p.product) ∷ [])

  unfoldable pub supplied_answer : List ℕ → List ℕ → Answer
  supplied_answer work table = answer (verdict (supplied_checks work table)) (supplied_value p.product table) p.premium

  -- "with the same working slice left after"
  unfoldable pub supplied_work : List ℕ → List ℕ → List ℕ
  supplied_work work table = work_after (verdict (supplied_checks work table)) (supplied_layer p.product table) work

  -- ---- walking a contract along a path
  -- 13: "count not N (looked at first), or no such return"
  -- 14: the date is its place
  unfoldable pub walk_checks : List ℕ → List ℕ → List ℕ → List Check
  walk_checks table path cashes =
      let N = p.product.process.dates in
      p.checks
      ++ (check 11 0 (short (entries p.product) table || short N cashes)
      ∷ check 13 N (not (eqb (length path) N))
      ∷ check_each 13 0 (λ j. leb p.product.process.returns (get_or path j 0)) N
      ∷ check_each 14 1 (bad_date p.product table path) (decisions p.product)
      ∷ [])

  -- "fills N cash amounts .. in order ..; cash entries beyond N are untouched"; (iii) "become 64-bit; cash in a walk too"
  unfoldable pub walk_cashes : List ℕ → List ℕ → List ℕ → List ℕ
  walk_cashes table path cashes =
      filled (verdict (walk_checks table path cashes)) p.product.process.dates (walk_cash p.product table path) cashes
