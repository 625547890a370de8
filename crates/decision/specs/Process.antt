-- A decision process with a finite horizon: its values, the amounts that attain them, strategies and what they earn.
-- Definitions only. Assumes nothing.
use Rattle.std.specs.Prelude.{Bool, List, [], ◌∷◌, ◌++◌, ◌≡◌, ℕ, zero, suc, ◌+◌, ◌-◌, ◌≤◌, ◌<◌, T}
use Rattle.decision.specs.Choice.{largest, smallest_best}

-- S is a state at a date, before its decision; H is what is held after the decision.
pub record Process (S H : Type 0) : Type 0 where
  -- decisions fall on dates 1 to dates - 1; the last date is dates
  pub dates : ℕ
  -- what is held on date 0, where nothing is decided
  pub start : H
  -- returns are numbered from 0 to returns - 1
  pub returns : ℕ
  -- no admissible amount is above it
  pub limit : S → ℕ
  -- what an amount pays on a date, and what is held after it
  pub cash : ℕ → S → ℕ → ℕ
  pub after : ℕ → S → ℕ → H
  -- the state that a return leads to on the next date, and what it pays on arrival there
  pub reach : H → ℕ → S
  pub paid : H → ℕ → ℕ
  -- the worth on a date of what is held: where each return number has its value reached, and where each state has its value
  pub by_list : ℕ → H → (ℕ → ℕ) → ℕ
  pub by_state : ℕ → H → (S → ℕ) → ℕ
  -- the value of a state on the last date
  pub final : S → ℕ

-- which amounts are admissible in a state
abbrev pub Rule : Type 0 → Type 0
Rule S = S → ℕ → Bool

-- the amount named on a date after the return numbers so far
abbrev pub Strategy : Type 0
Strategy = ℕ → List ℕ → ℕ

-- the amount in the entry of a date and a state
abbrev pub Table : Type 0 → Type 0
Table S = ℕ → S → ℕ

module _ {S H : Type 0} (P : Process S H) where
  -- ---- values
  -- the value reached by a return: what is paid on arrival, and the value of the state that it leads to
  unfoldable pub reached : (S → ℕ) → H → ℕ → ℕ
  reached v h k = P.paid h k + v (P.reach h k)

  -- a choice is worth its cash and the mean of the values to come
  unfoldable pub worth : (S → ℕ) → ℕ → S → ℕ → ℕ
  worth v i s t = P.cash i s t + P.by_state i (P.after i s t) v

  -- the value on date i of state s, with n decisions to come: the largest worth among the admissible amounts
  unfoldable pub value_over : Rule S → ℕ → ℕ → S → ℕ
  value_over r zero i s = P.final s
  value_over r (suc n) i s = largest (r s) (worth (λ x. value_over r n (suc i) x) i s) (P.limit s)

  -- the value on date i of state s where the amounts are a table's
  unfoldable pub table_over : Table S → ℕ → ℕ → S → ℕ
  table_over d zero i s = P.final s
  table_over d (suc n) i s = worth (λ x. table_over d n (suc i) x) i s (d i s)

  unfoldable pub value : Rule S → ℕ → S → ℕ
  value r i s = value_over r (P.dates - i) i s

  -- the smallest of the best amounts
  unfoldable pub recorded : Rule S → ℕ → S → ℕ
  recorded r i s = smallest_best (r s) (worth (value r (suc i)) i s) (P.limit s)

  unfoldable pub table_value : Table S → ℕ → S → ℕ
  table_value d i s = table_over d (P.dates - i) i s

  -- of the whole: the mean from date 0, without cash
  unfoldable pub start_value : Rule S → ℕ
  start_value r = P.by_state 0 P.start (value r 1)

  unfoldable pub start_table_value : Table S → ℕ
  start_table_value d = P.by_state 0 P.start (table_value d 1)

  -- ---- strategies
  -- what a strategy earns on date i in state s, after the return numbers in p and with n decisions to come
  unfoldable pub earned_over : Strategy → ℕ → ℕ → List ℕ → S → ℕ
  earned_over σ zero i p s = P.final s
  earned_over σ (suc n) i p s =
      let h = P.after i s (σ i p) in
      P.cash i s (σ i p) + P.by_list i h (λ k. reached (earned_over σ n (suc i) (p ++ (k ∷ []))) h k)

  -- on every path each amount that the strategy names is admissible in the state met there
  unfoldable pub KeepsOver : Rule S → Strategy → ℕ → ℕ → List ℕ → S → Type 0
  KeepsOver r σ zero i p s = Unit {0}
  KeepsOver r σ (suc n) i p s =
      T (r s (σ i p))
      × ((k : ℕ) → k < P.returns → KeepsOver r σ n (suc i) (p ++ (k ∷ [])) (P.reach (P.after i s (σ i p)) k))

  -- from a state of date i the list of return numbers starts empty
  unfoldable pub earned : Strategy → ℕ → S → ℕ
  earned σ i s = earned_over σ (P.dates - i) i [] s

  unfoldable pub Keeps : Rule S → Strategy → ℕ → S → Type 0
  Keeps r σ i s = KeepsOver r σ (P.dates - i) i [] s

  -- from the start it begins with the first return's number
  unfoldable pub start_earned : Strategy → ℕ
  start_earned σ = P.by_list 0 P.start (λ k. reached (earned_over σ (P.dates - 1) 1 (k ∷ [])) P.start k)

  unfoldable pub StartKeeps : Rule S → Strategy → Type 0
  StartKeeps r σ = (k : ℕ) → k < P.returns → KeepsOver r σ (P.dates - 1) 1 (k ∷ []) (P.reach P.start k)

  -- ---- following a table
  -- the state met after the return numbers in p, from state s of date i
  unfoldable pub met : Table S → ℕ → S → List ℕ → S
  met d i s [] = s
  met d i s (k ∷ p) = met d (suc i) (P.reach (P.after i s (d i s)) k) p

  -- the same from the start (before the first return no state is met, and none is asked for)
  unfoldable pub start_met : Table S → List ℕ → S
  start_met d [] = P.reach P.start 0
  start_met d (k ∷ p) = met d 1 (P.reach P.start k) p

  -- to name, in each state met, the amount in that state's entry
  unfoldable pub follow : Table S → ℕ → S → Strategy
  follow d i s j p = d j (met d i s p)

  unfoldable pub start_follow : Table S → Strategy
  start_follow d j p = d j (start_met d p)

  -- ---- the claim about one rule and a table
  -- a state of a decision date
  pub record Decides (InRange : S → Type 0) (i : ℕ) (s : S) : Type 0 where
    pub from : 1 ≤ i
    pub before : i < P.dates
    pub range : InRange s

  -- No strategy that keeps to the rule earns more than the value; to follow the table keeps to the rule and earns exactly
  -- the value. From the start, and from every state in range of every decision date.
  pub record Attained (r : Rule S) (InRange : S → Type 0) (d : Table S) : Type 0 where
    pub start_most : (σ : Strategy) → StartKeeps r σ → start_earned σ ≤ start_value r
    pub start_kept : StartKeeps r (start_follow d)
    pub start_earned_lem : start_earned (start_follow d) ≡ start_value r
    pub most : (σ : Strategy) (i : ℕ) (s : S) → Decides InRange i s → Keeps r σ i s → earned σ i s ≤ value r i s
    pub kept : (i : ℕ) (s : S) → Decides InRange i s → Keeps r (follow d i s) i s
    pub followed : (i : ℕ) (s : S) → Decides InRange i s → earned (follow d i s) i s ≡ value r i s

  -- ---- what has to hold of a process and a rule
  -- the decisions to come on date i
  abbrev pub left : ℕ → ℕ
  left i = P.dates - i

  -- more reached is never worth less, and the mean of the values of states is what is expected of the values reached
  pub record Averaging : Type 0 where
    pub rises : (i : ℕ) (h : H) (v w : ℕ → ℕ) → ((k : ℕ) → k < P.returns → v k ≤ w k) → P.by_list i h v ≤ P.by_list i h w
    pub listed : (i : ℕ) (h : H) (v : S → ℕ) → P.by_state i h v ≡ P.by_list i h (reached v h)

  -- in every state some amount is admissible, and none above the limit
  pub record Open (r : Rule S) : Type 0 where
    pub some : S → ℕ
    pub admissible : (s : S) → T (r s (some s))
    pub within : (s : S) (t : ℕ) → T (r s t) → t ≤ P.limit s

  -- admissible amounts lead from states in range to states in range
  pub record Closed (r : Rule S) (InRange : S → Type 0) : Type 0 where
    pub starts : (k : ℕ) → k < P.returns → InRange (P.reach P.start k)
    pub stays : (i : ℕ) (s : S) (t k : ℕ) → InRange s → T (r s t) → k < P.returns → InRange (P.reach (P.after i s t) k)
