-- The value and the recorded amount of a state, over the discounted sums e of balance and guarantee. Assumes nothing.
use Rattle.std.specs.Prelude.{List, ◌≡◌, ℕ, ◌+◌, ◌*◌, ◌≤◌, ◌<◌, length, get_or}
use Rattle.std.proofs.Common.{ap, le_trans, sub-le, add-le-add}
use Rattle.decision.specs.Choice.{largest, smallest_best}
use Rattle.decision.proofs.Choice.{largest_eq, smallest_best_eq}
use Rattle.rules.specs.Date.{Behaviour, free_amount, largest_amount, admits, cash, balance_after, guarantee_after}
use Rattle.laws.specs.Date.{guarantee_le, cash_le}
use Rattle.keys.specs.declared.Date.{Date}
use Rattle.keys.specs.declared.Block.{Block}
use Rattle.keys.specs.Key.{key}

-- "a choice is worth its cash plus" the discounted sum
unfoldable pub worth_over : (ℕ → ℕ → ℕ) → ℕ → ℕ → ℕ → ℕ → ℕ → ℕ
worth_over e rate m w a t = cash rate m t + e (balance_after w t) (guarantee_after m w a t)

-- "the largest worth among its admissible amounts"
unfoldable pub best_value : Behaviour → (ℕ → ℕ → ℕ) → ℕ → ℕ → ℕ → ℕ → ℕ
best_value b e rate level w a =
    let m = free_amount level a in
    largest (admits b m w) (worth_over e rate m w a) (largest_amount m w)

-- "the smallest among the best ones"
unfoldable pub best_amount : Behaviour → (ℕ → ℕ → ℕ) → ℕ → ℕ → ℕ → ℕ → ℕ
best_amount b e rate level w a =
    let m = free_amount level a in
    smallest_best (admits b m w) (worth_over e rate m w a) (largest_amount m w)

-- .. both as one key
abbrev pub best_key : Behaviour → (ℕ → ℕ → ℕ) → ℕ → ℕ → ℕ → ℕ → ℕ
best_key b e rate level w a = key (best_value b e rate level w a) (best_amount b e rate level w a)

-- the states of a block hold them
pub record Keys (b : Behaviour) (e : ℕ → ℕ → ℕ) (d : Date) (s : Block) (best : List ℕ) : Type 0 where
  pub long : 512 ≤ length best
  pub each : (j : ℕ) → j < s.n → get_or best j 0 ≡ best_key b e d.rate d.level s.w (s.from + j)

-- the key of amount t
abbrev pub key_over : (ℕ → ℕ → ℕ) → ℕ → ℕ → ℕ → ℕ → ℕ → ℕ
key_over e rate m w a t = key (worth_over e rate m w a t) t

-- ---- only the sums that a state can reach count
pub worth_same : (e e' : ℕ → ℕ → ℕ) (rate m w a t : ℕ) → ((x y : ℕ) → x ≤ w → y ≤ a → e x y ≡ e' x y) → worth_over e rate m w a t
    ≡ worth_over e' rate m w a t
unfolding worth_over balance_after
worth_same e e' rate m w a t same = ap (λ (z : ℕ). cash rate m t + z) (same _ _ (sub-le w t) (le_trans (guarantee_le m w a t) (sub-le a t)))

-- .. and an amount is worth its cash and no more than the largest of them
pub worth_le : (e : ℕ → ℕ → ℕ) (rate m w a t most : ℕ) → ((x y : ℕ) → x ≤ w → y ≤ a → e x y ≤ most)
    → worth_over e rate m w a t ≤ 10000 * t + most
unfolding worth_over balance_after
worth_le e rate m w a t most h = add-le-add (cash_le rate m t) (h _ _ (sub-le w t) (le_trans (guarantee_le m w a t) (sub-le a t)))

module _ (b : Behaviour) (e e' : ℕ → ℕ → ℕ) (rate level w a : ℕ) (same : (x y : ℕ) → x ≤ w → y ≤ a → e x y ≡ e' x y) where
  pub value_same : best_value b e rate level w a ≡ best_value b e' rate level w a
  unfolding best_value
  value_same = largest_eq _ _ _ _ (λ t l. worth_same e e' rate _ w a t same)

  pub amount_same : best_amount b e rate level w a ≡ best_amount b e' rate level w a
  unfolding best_amount
  amount_same = smallest_best_eq _ _ _ _ (λ t l. worth_same e e' rate _ w a t same)
