-- Document 01, 'One date' and 'Values', on plain numbers: w is the account, a the guarantee, t the amount, m the smaller of
-- level and guarantee, i the date. A difference stops at 0. Sentences marked (i), (iv), (v) are of document 02, by its requests.
-- Assumes nothing.
use Rattle.std.specs.Prelude.{Bool, cond, ◌&&◌, ◌||◌, ℕ, ◌+◌, ◌-◌, ◌*◌, ◌/◌, min, max, leb, ltb, eqb, ℤ}
use Rattle.std.proofs.Math.IntN.{sub_ℕ}

pub data Behaviour : Type 0 where
  static mixed dynamic : Behaviour

-- "Let m be the smaller of G and A": what may be withdrawn without penalty
unfoldable pub free_amount : ℕ → ℕ → ℕ
free_amount level a = min level a

-- "0 to the larger of W and m"
unfoldable pub largest_amount : ℕ → ℕ → ℕ
largest_amount m w = max w m

-- "when W is above m, also W (surrender)"
unfoldable pub surrenders : ℕ → ℕ → ℕ → Bool
surrenders m w t = ltb m w && eqb t w

-- "Admissible amounts t. Static: m only. Mixed: m and, when W is above m, also W (surrender). Dynamic: 0 to the larger of W
-- and m."
unfoldable pub admits : Behaviour → ℕ → ℕ → ℕ → Bool
admits static m w t = eqb t m
admits mixed m w t = eqb t m || surrenders m w t
admits dynamic m w t = leb t (largest_amount m w)

-- (i) "The rate at date i is the record's rate less (i − 1) × step, never below zero."
unfoldable pub rate_on : ℕ → ℕ → ℕ → ℕ
rate_on rate step i = rate - (i - 1) * step

-- "Penalty: rate × (t − m) where t is above m, else 0."
unfoldable pub penalty : ℕ → ℕ → ℕ → ℕ
penalty rate m t = rate * (t - m)

-- "Cash: 10,000 × t less penalty."
unfoldable pub cash : ℕ → ℕ → ℕ → ℕ
cash rate m t = 10000 * t - penalty rate m t

-- "Guarantee after: A − t if t is at most m; else the smaller of A − t and A × (W − t) / W rounded down, and never below 0."
unfoldable pub guarantee_after : ℕ → ℕ → ℕ → ℕ → ℕ
guarantee_after m w a t = cond (leb t m) (a - t) (min (a - t) (a * (w - t) / w))

-- "Balance after: W − t, never below 0."
unfoldable pub balance_after : ℕ → ℕ → ℕ
balance_after w t = w - t

-- "next account = balance × factor × (10,000 − fee) / 100,000,000, rounded down a single time": before the ceiling
unfoldable pub lifted_account : ℕ → ℕ → ℕ → ℕ
lifted_account fee balance factor = balance * factor * (10000 - fee) / 100000000

-- "A result above top is held at top."
unfoldable pub next_account : ℕ → ℕ → ℕ → ℕ → ℕ
next_account fee top balance factor = min top (lifted_account fee balance factor)

-- (iv) "what a return lifts above top"
unfoldable pub excess : ℕ → ℕ → ℕ → ℕ → ℕ
excess fee top balance factor = lifted_account fee balance factor - top

-- (iv) ".. is no longer dropped, it is paid to the holder on arrival, without penalty": "10,000 × the excess"
unfoldable pub excess_paid : ℕ → ℕ → ℕ → ℕ → ℕ
excess_paid fee top balance factor = 10000 * excess fee top balance factor

-- "At maturity the value is 10,000 × the larger of W and A."
unfoldable pub maturity_value : ℕ → ℕ → ℕ
maturity_value w a = 10000 * max w a

-- (v) "Death in a period pays 10,000 × the larger of W and A as reached on its closing date, before any decision, plus 10,000 ×
-- any excess over top."
unfoldable pub death_payment : ℕ → ℕ → ℕ → ℕ
death_payment w a over = 10000 * max w a + 10000 * over

-- (v) "Each reached value becomes ((10,000 − rate) × value + rate × death payment) / 10,000, rounded down"
unfoldable pub death_share : ℕ → ℕ → ℕ → ℕ
death_share rate value payment = ((10000 - rate) * value + rate * payment) / 10000

-- "discount × (sum of weight × value reached) / 10,000,000,000, rounded down once"
unfoldable pub discounted : ℕ → ℕ → ℕ
discounted discount sum = discount * sum / 10000000000

-- "the margin (64-bit, signed): value less 10,000 × premium"
unfoldable pub margin : ℕ → ℕ → ℤ
margin value premium = sub_ℕ value (10000 * premium)
