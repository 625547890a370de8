-- A CONTRACT IN FORCE: on date i the record, shortened by the dates behind it, is worth what is left. Assumes nothing.
use Rattle.std.specs.Prelude.{List, ◌≡◌}
use Prim.Native.Nat.{ℕ, suc, ◌+◌, ◌-◌, ◌*◌}
use Rattle.std.proofs.Math.ListN.{length, drop}
use Rattle.decision.specs.Process.{table_value}
use Rattle.decision.specs.Layers.{lookup, layer}
use Rattle.rules.specs.Contract.{Input, Terms, Rates, record_bytes, terms_of, rate_bytes}
use Rattle.rules.specs.Date.{Behaviour}
use Rattle.rules.specs.Product.{Product, state_value, recorded_amount, value_layer, amount_layers, supplied_layer}
use Rattle.rules.specs.FixedTerm.{State, Held, rate_in}

-- the terms from date i on: the dates that are left, and the penalty rate of date i to begin with
abbrev pub terms_from : ℕ → Terms → Terms
terms_from i c = record {
  premium = c.premium;
  level = c.level;
  top = c.top;
  dates = c.dates - (i - 1);
  fee = c.fee;
  penalty = rate_in c i;
  discount = c.discount;
  step = c.step;
  spare = c.spare;
}

-- .. and the death rates of the periods that are left
abbrev pub rates_from : ℕ → Rates → Rates
rates_from i ds j = ds (i - 1 + j)

-- what is left of a product on date i: its date 1 is date i
pub record LeftOn (i : ℕ) (X Y : Product State Held) (b : Behaviour) : Type 0 where
  pub values : (j : ℕ) (s : State) → state_value Y b (suc j) s ≡ state_value X b (i + j) s
  pub amounts : (j : ℕ) (s : State) → recorded_amount Y b (suc j) s ≡ recorded_amount X b (i + j) s
  pub first_layer : value_layer Y b ≡ layer X.layout (state_value X b i)
  pub table : amount_layers Y b ≡ drop ((i - 1) * X.layout.size) (amount_layers X b)
  pub supplied : (amounts : List ℕ)
      → supplied_layer Y (drop ((i - 1) * X.layout.size) amounts)
      ≡ layer X.layout (table_value X.process (lookup X.layout amounts) i)

-- y is what is left of x on date i: the shortened record, the same returns, and the rates from index i - 1 on
pub record InForce (i : ℕ) (x y : Input) : Type 0 where
  pub bytes : length y.bytes ≡ record_bytes
  pub terms : terms_of y.bytes ≡ terms_from i (terms_of x.bytes)
  pub list : y.list ≡ x.list
  pub rates : y.rates ≡ drop (rate_bytes * (i - 1)) x.rates
