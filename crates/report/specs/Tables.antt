-- The lines of the returns, as the tables hold their amounts. Assumes nothing.
use Rattle.std.specs.Prelude.{List, [], ◌∷◌, ◌++◌, ◌≡◌, ℕ, ◌+◌, ◌-◌, ◌*◌, ◌≤◌, ◌<◌, cond, ltb, length, get_or}
use Rattle.std.proofs.Common.{ap, sym, ◌∙◌, le_trans, le_of_eq, one-mul, mul-le-mul, mul-le-mul_right, div-add-mod', arith}
use Rattle.decision.specs.Layers.{two_digits}
use Rattle.rules.specs.Contract.{word, Terms, terms_of, Returns, returns_of, top_most, factor_most}
use Rattle.rules.specs.Date.{Behaviour, static, mixed, dynamic, next_account}
use Rattle.rules.specs.Product.{Product, entries, contract_value, value_layer, amount_layers}
use Rattle.rules.specs.FixedTerm.{State, Held, layer_size}
use Rattle.rules.specs.Refusals.{accepted, verdict, record_checks, list_checks}
use Rattle.rules.specs.Operations.{filled, work_after}
use Rattle.rules.specs.Printed.{decimal, line, program_of, program_verdict}
use Rattle.laws.specs.Terms.{table_size}
use Rattle.laws.specs.Accepted.{Valid, ValidReturns}

-- the account at date 1 after return k
unfoldable pub account_by : Terms → Returns → ℕ → ℕ
account_by c rs k = next_account c.fee c.top c.premium (rs.factor k)

-- its entry in the first layer, with the whole premium guaranteed
unfoldable pub entry_by : Terms → Returns → ℕ → ℕ
entry_by c rs k = account_by c rs k * (c.premium + 1) + c.premium

unfoldable pub table_line : Terms → Returns → List ℕ → List ℕ → List ℕ → ℕ → List ℕ
table_line c rs statics mixeds dynamics k =
    let e = entry_by c rs k in
    line (decimal k) (account_by c rs k ∷ c.premium ∷ get_or statics e 0 ∷ get_or mixeds e 0 ∷ get_or dynamics e 0 ∷ [])

-- how many lines: none without a decision date
unfoldable pub lines_in : Terms → Returns → ℕ
lines_in c rs = cond (ltb 1 c.dates) rs.count 0

-- tables with room for every decision date
pub record Tabled (c : Terms) (statics mixeds dynamics : List ℕ) : Type 0 where
  pub static_room : table_size c ≤ length statics
  pub mixed_room : table_size c ≤ length mixeds
  pub dynamic_room : table_size c ≤ length dynamics

-- .. for a record and a list that are accepted
pub record Filled (bytes list statics mixeds dynamics : List ℕ) : Type 0 where
  pub accepts : verdict (record_checks bytes ++ list_checks list) ≡ accepted
  pub tabled : Tabled (terms_of bytes) statics mixeds dynamics

-- the contract's value under each behaviour
pub record Valued (X : Product State Held) (statics mixeds dynamics : ℕ) : Type 0 where
  pub static_is : statics ≡ contract_value X static
  pub mixed_is : mixeds ≡ contract_value X mixed
  pub dynamic_is : dynamics ≡ contract_value X dynamic

-- ---- what the arrays hold at the end: what the last call on each of them leaves
unfoldable pub table_left : List ℕ → List ℕ → Behaviour → List ℕ → List ℕ
table_left bytes list b table =
    let X = (program_of bytes list).product in filled (program_verdict bytes list) (entries X) (amount_layers X b) table

unfoldable pub work_left : List ℕ → List ℕ → Behaviour → List ℕ → List ℕ
work_left bytes list b work =
    work_after (program_of bytes list) (program_verdict bytes list) (value_layer (program_of bytes list).product b) work

-- ---- what one line asks
module _ (list : List ℕ) (v : ValidReturns (returns_of list)) {k : ℕ} (h : k < (returns_of list).count) where
  pub return_within : 4 * k + 4 ≤ length list
  unfolding returns_of
  return_within = let d = div-add-mod' (length list) 4 in omega arith

  pub factor_le : word list (4 * k) ≤ factor_most
  unfolding returns_of
  factor_le = omega (arith, v.factor k h)

-- a table with room for every decision date has room for one
pub one_layer : (c : Terms) (n : ℕ) → 2 ≤ c.dates → table_size c ≤ n → layer_size c ≤ n
unfolding table_size
one_layer c n h l =
    let d : 1 ≤ c.dates - 1 = omega arith in
    le_trans (le_of_eq (sym (one-mul (layer_size c)))) (le_trans (mul-le-mul_right (layer_size c) d) l)

module _ {c : Terms} (v : Valid c) (w : ℕ) (h : w ≤ c.top) where
  pub row_small : w * (c.premium + 1) ≤ top_most * (top_most + 1)
  row_small = mul-le-mul (let m : w ≤ top_most = omega (arith, v.top) in m) (let m : c.premium + 1 ≤ top_most + 1 =
      omega (arith, v.top, v.premium) in m)

  pub entry_within : w * (c.premium + 1) + c.premium < layer_size c
  unfolding layer_size
  entry_within = two_digits w c.premium (c.top + 1) (c.premium + 1) (omega arith) (omega arith)

  -- .. of a table
  pub entry_in : {n : ℕ} → 2 ≤ c.dates → table_size c ≤ n → w * (c.premium + 1) + c.premium < n
  entry_in {n} later room = let layer = one_layer c n later room in omega (arith, entry_within, layer)

-- the amounts in the entry of account w
pub table_line_lem : (c : Terms) (list statics mixeds dynamics : List ℕ) (k : ℕ) {w a b d : ℕ}
    → w ≡ next_account c.fee c.top c.premium (word list (4 * k))
    → a ≡ get_or statics (w * (c.premium + 1) + c.premium) 0
    → b ≡ get_or mixeds (w * (c.premium + 1) + c.premium) 0
    → d ≡ get_or dynamics (w * (c.premium + 1) + c.premium) 0
    → line (decimal k) (w ∷ c.premium ∷ a ∷ b ∷ d ∷ []) ≡ table_line c (returns_of list) statics mixeds dynamics k
unfolding table_line entry_by account_by returns_of
table_line_lem c list statics mixeds dynamics k ew ea eb ed =
    let static_is = ea ∙ ap (λ (x : ℕ). get_or statics (x * (c.premium + 1) + c.premium) 0) ew in
    let mixed_is = eb ∙ ap (λ (x : ℕ). get_or mixeds (x * (c.premium + 1) + c.premium) 0) ew in
    let dynamic_is = ed ∙ ap (λ (x : ℕ). get_or dynamics (x * (c.premium + 1) + c.premium) 0) ew in
    λ i. line (decimal k) (ew i ∷ c.premium ∷ static_is i ∷ mixed_is i ∷ dynamic_is i ∷ [])
