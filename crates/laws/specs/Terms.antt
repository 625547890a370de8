-- The fixed term by its terms: what its inner parts speak of. Assumes nothing.
use Rattle.std.specs.Prelude.{Bool, not, List, [], ◌≡◌, refl, ℕ, ◌-◌, ◌*◌, ◌%◌, get_or}
use Rattle.rules.specs.Contract.{Terms, Returns, Rates, zero_rates, terms_under, terms_of}
use Rattle.rules.specs.Date.{dynamic}
use Rattle.rules.specs.Product.{Product}
use Rattle.rules.specs.Operations.{Policy}
use Rattle.rules.specs.FixedTerm.{State, Held, admissible_in, layer_size, layout_of, fixed_term}

-- "Start: balance U and guarantee U"
abbrev pub start_held : Terms → Held
start_held c = record { balance = c.premium; guarantee = c.premium }

-- the entries of a table
unfoldable pub table_size : Terms → ℕ
table_size c = (c.dates - 1) * layer_size c

-- the contract of a holder who lives, as a walk follows it
abbrev pub living_term : Terms → Returns → Product State Held
living_term c rs = fixed_term c rs zero_rates

-- .. and where no return matters, as in what is said of a table
abbrev pub frame : Terms → Product State Held
frame c = living_term c (record { count = 0; factor = λ k. 0; weight = λ k. 0 })

-- the policy of terms, returns and rates that were read: nothing of them is left to check
abbrev pub read_policy : Terms → Returns → Rates → Policy State Held
read_policy c rs ds = record { checks = []; premium = c.premium; product = fixed_term c rs ds }

-- amount t at entry e of a layer, and entry e of a table, is not in the dynamic set
unfoldable pub bad_at : Terms → ℕ → ℕ → Bool
bad_at c e t = not (admissible_in c dynamic ((layout_of c).state_at e) t)

abbrev pub bad_in : Terms → List ℕ → ℕ → Bool
bad_in c table e = bad_at c (e % layer_size c) (get_or table e 0)

-- the terms with another fee
abbrev pub with_fee : Terms → ℕ → Terms
with_fee c fee = record {
  premium = c.premium;
  level = c.level;
  top = c.top;
  dates = c.dates;
  fee = fee;
  penalty = c.penalty;
  discount = c.discount;
  step = c.step;
  spare = c.spare;
}

pub under_is : (fee : ℕ) (bytes : List ℕ) → terms_under fee bytes ≡ with_fee (terms_of bytes) fee
unfolding terms_under terms_of
under_is fee bytes = refl
