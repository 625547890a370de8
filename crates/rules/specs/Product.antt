-- A withdrawal product: a decision process, its three behaviours, what surrender is, and the layers in which its states have entries.
-- What its values, tables and walks are, and what the third demand says of it. Assumes nothing.
use Rattle.std.specs.Prelude.{Bool, not, List, [], ◌∷◌, ◌++◌, ◌≡◌, ℕ, zero, suc, ◌+◌, ◌-◌, ◌*◌, ◌%◌, ◌≤◌, get_or, take}
use Rattle.decision.specs.Index.{tabulate}
use Rattle.decision.specs.Process.{Process, Rule, value, recorded, table_value, start_value, start_table_value, start_met, Attained}
use Rattle.decision.specs.Layers.{Layout, lookup, layer, layers}
use Rattle.rules.specs.Date.{Behaviour, static, mixed, dynamic}

pub record Product (S H : Type 0) : Type 1 where
  pub process : Process S H
  pub admissible : Behaviour → Rule S
  pub surrender : Rule S
  pub layout : Layout S

module _ {S H : Type 0} (X : Product S H) where
  -- "Decisions fall on dates 1 to N−1"
  abbrev pub decisions : ℕ
  decisions = X.process.dates - 1

  -- "the layer of date i starts at entry (i − 1) × .., for i from 1 to N−1": the entries of a table
  unfoldable pub entries : ℕ
  entries = decisions * X.layout.size

  -- "A state's value under a behaviour is the largest worth among its admissible amounts."
  unfoldable pub state_value : Behaviour → ℕ → S → ℕ
  state_value b i s = value X.process (X.admissible b) i s

  -- "The recorded amount is the smallest among the best ones."
  unfoldable pub recorded_amount : Behaviour → ℕ → S → ℕ
  recorded_amount b i s = recorded X.process (X.admissible b) i s

  -- "The contract's value is the same discounted and rounded sum over the first return, without cash."
  unfoldable pub contract_value : Behaviour → ℕ
  contract_value b = start_value X.process (X.admissible b)

  -- "the first layer holds the values of date 1"
  unfoldable pub value_layer : Behaviour → List ℕ
  value_layer b = layer X.layout (state_value b 1)

  -- the recorded amounts of every decision date
  unfoldable pub amount_layers : Behaviour → List ℕ
  amount_layers b = layers X.layout decisions (recorded_amount b)

  -- ---- a supplied table: "checked in every entry, reachable or not, against the dynamic set", here entry e ..
  unfoldable pub bad_entry : List ℕ → ℕ → Bool
  bad_entry table e = not (X.admissible dynamic (X.layout.state_at (e % X.layout.size)) (get_or table e 0))

  -- .. "and its value is found by the same rule"
  unfoldable pub supplied_value : List ℕ → ℕ
  supplied_value table = start_table_value X.process (lookup X.layout table)

  unfoldable pub supplied_layer : List ℕ → List ℕ
  supplied_layer table = layer X.layout (table_value X.process (lookup X.layout table) 1)

  -- ---- a walk: "It starts with the first return, draws the table's amount at each state it meets"
  -- the state met on date i
  unfoldable pub walk_state : List ℕ → List ℕ → ℕ → S
  walk_state table path i = start_met X.process (lookup X.layout table) (take i path)

  -- the amount withdrawn on date i
  unfoldable pub walk_amount : List ℕ → List ℕ → ℕ → ℕ
  walk_amount table path i = lookup X.layout table i (walk_state table path i)

  -- "It checks only the table entries it meets.": here that of date suc j
  unfoldable pub bad_date : List ℕ → List ℕ → ℕ → Bool
  bad_date table path j = not (X.admissible dynamic (walk_state table path (suc j)) (walk_amount table path (suc j)))

  -- what is held between date i and the return after it; on date 0 "it starts with the first return"
  unfoldable pub walk_held : List ℕ → List ℕ → ℕ → H
  walk_held table path zero = X.process.start
  walk_held table path (suc j) = X.process.after (suc j) (walk_state table path (suc j)) (walk_amount table path (suc j))

  -- what that return, number i of the path, pays on arrival on date i + 1
  unfoldable pub walk_paid : List ℕ → List ℕ → ℕ → ℕ
  walk_paid table path i = X.process.paid (walk_held table path i) (get_or path i 0)

  -- (iv) "A walk adds 10,000 × the excess to the cash of the date reached": of date j + 1, where an amount is withdrawn ..
  unfoldable pub walk_cash_on : List ℕ → List ℕ → ℕ → ℕ
  walk_cash_on table path j =
      walk_paid table path j + X.process.cash (suc j) (walk_state table path (suc j)) (walk_amount table path (suc j))

  -- .. and of maturity
  unfoldable pub walk_cash_last : List ℕ → List ℕ → ℕ
  walk_cash_last table path = walk_paid table path decisions + X.process.final (walk_state table path X.process.dates)

  -- "N cash amounts .. in order, the last being the maturity payment"
  unfoldable pub walk_cash : List ℕ → List ℕ → List ℕ
  walk_cash table path = tabulate decisions (walk_cash_on table path) ++ (walk_cash_last table path ∷ [])

  -- ---- the third demand
  -- behaviour a has at most the value of b, for the contract and in every state of every date
  pub record AtMost (a b : Behaviour) : Type 0 where
    pub contract : contract_value a ≤ contract_value b
    pub state : (i : ℕ) (s : S) → state_value a i s ≤ state_value b i s

  -- "a single claim about whole strategies, from start to maturity", of the tables that the three valuing calls leave: within each
  -- behaviour's choices no strategy earns more than its value, and following its table earns exactly that, for the contract and from
  -- every state of every decision date; and no behaviour is worth more than one that has more choices.
  pub record ThirdDemand (table : Behaviour → List ℕ) : Type 0 where
    pub attained : (b : Behaviour) → Attained X.process (X.admissible b) X.layout.InRange (lookup X.layout (table b))
    pub static_mixed : AtMost static mixed
    pub mixed_dynamic : AtMost mixed dynamic

  -- the same of one call: the value that it reports and the table that it leaves
  pub record Claim (b : Behaviour) (reported : ℕ) (table : List ℕ) : Type 0 where
    pub value : reported ≡ contract_value b
    pub attained : Attained X.process (X.admissible b) X.layout.InRange (lookup X.layout table)
