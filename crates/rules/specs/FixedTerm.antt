-- The fixed-term contract of documents 01 and 02 as a product: its states, its one date, its values, its layers. Assumes nothing.
use Rattle.std.specs.Prelude.{Bool, cond, ◌&&◌, ℕ, suc, ◌+◌, ◌*◌, ◌/◌, ◌%◌, ◌≤◌, eqb}
use Rattle.decision.specs.Index.{sum}
use Rattle.decision.specs.Groups.{most}
use Rattle.decision.specs.Process.{Process}
use Rattle.decision.specs.Layers.{Layout}
use Rattle.rules.specs.Contract.{Terms, Returns, Rates}
use Rattle.rules.specs.Date.{Behaviour, free_amount, largest_amount, surrenders, admits, rate_on, cash, guarantee_after, balance_after}
use Rattle.rules.specs.Date.{next_account, excess, excess_paid, maturity_value, death_payment, death_share, discounted}
use Rattle.rules.specs.Product.{Product}

-- "State: account W from 0 to top, guarantee A from 0 to U."
pub record State : Type 0 where
  pub account : ℕ
  pub guarantee : ℕ

-- what is held between a decision and the return
pub record Held : Type 0 where
  pub balance : ℕ
  pub guarantee : ℕ

pub record InRange (c : Terms) (s : State) : Type 0 where
  pub account : s.account ≤ c.top
  pub guarantee : s.guarantee ≤ c.premium

-- m of a state
unfoldable pub free_in : Terms → State → ℕ
free_in c s = free_amount c.level s.guarantee

-- "Admissible amounts t"
unfoldable pub admissible_in : Terms → Behaviour → State → ℕ → Bool
admissible_in c b s t = admits b (free_in c s) s.account t

-- "when W is above m, also W (surrender)"
unfoldable pub surrender_in : Terms → State → ℕ → Bool
surrender_in c s t = surrenders (free_in c s) s.account t

-- the penalty rate on date i: (i) "Bookings, tables and values follow it."
abbrev pub rate_in : Terms → ℕ → ℕ
rate_in c i = rate_on c.penalty c.step i

unfoldable pub cash_in : Terms → ℕ → State → ℕ → ℕ
cash_in c i s t = cash (rate_in c i) (free_in c s) t

unfoldable pub after_in : Terms → ℕ → State → ℕ → Held
after_in c i s t = record {
  balance = balance_after s.account t;
  guarantee = guarantee_after (free_in c s) s.account s.guarantee t;
}

-- return number k
unfoldable pub reach_by : Terms → Returns → Held → ℕ → State
reach_by c rs h k = record {
  account = next_account c.fee c.top h.balance (rs.factor k);
  guarantee = h.guarantee;
}

-- (iv) "A value reached above top is the value at top plus 10,000 × the excess, also on the first return and at maturity."
unfoldable pub paid_by : Terms → Returns → Held → ℕ → ℕ
paid_by c rs h k = excess_paid c.fee c.top h.balance (rs.factor k)

-- (v) the payment where the holder dies in the period of return k
unfoldable pub death_by : Terms → Returns → Held → ℕ → ℕ
death_by c rs h k = death_payment (reach_by c rs h k).account h.guarantee (excess c.fee c.top h.balance (rs.factor k))

-- "discount × (sum of weight × value reached) / 10,000,000,000, rounded down once"
unfoldable pub mean_by_list : Terms → Returns → (ℕ → ℕ) → ℕ
mean_by_list c rs reached = discounted c.discount (sum (λ k. rs.weight k * reached k) rs.count)

-- .. where (v) "Each reached value becomes" its share with the death payment, by the rate of the period that begins on date i,
-- "before weights are applied"
unfoldable pub held_by_list : Terms → Returns → Rates → ℕ → Held → (ℕ → ℕ) → ℕ
held_by_list c rs ds i h reached = mean_by_list c rs (λ k. death_share (ds i) (reached k) (death_by c rs h k))

-- (vii) "Weights of returns that reach the same account and the same excess shall be added first"
unfoldable pub weight_to : Terms → Returns → ℕ → ℕ → ℕ → ℕ
weight_to c rs balance w over =
    sum (λ k.
    cond (eqb (next_account c.fee c.top balance (rs.factor k)) w && eqb (excess c.fee c.top balance (rs.factor k)) over)
    (rs.weight k) 0) rs.count

-- no return reaches a larger excess
unfoldable pub excess_most : Terms → Returns → ℕ → ℕ
excess_most c rs balance = most (λ k. excess c.fee c.top balance (rs.factor k)) rs.count

-- ".. and the products summed account by account from the lowest, then by excess."
unfoldable pub by_account : Terms → Returns → ℕ → (ℕ → ℕ → ℕ) → ℕ
by_account c rs balance reached =
    sum (λ w. sum (λ over. weight_to c rs balance w over * reached w over) (suc (excess_most c rs balance))) (suc c.top)

-- ".. That sum is the definition the engine's contract cites": the mean of what each account with its excess is worth
unfoldable pub mean_by_account : Terms → Returns → ℕ → (ℕ → ℕ → ℕ) → ℕ
mean_by_account c rs balance reached = discounted c.discount (by_account c rs balance reached)

-- (iv) "A value reached above top is the value at top plus 10,000 × the excess"; (v) "Each reached value becomes" its share with the
-- death payment: of account w with an excess, at guarantee a, where each state has its value
unfoldable pub value_with : Rates → ℕ → ℕ → (State → ℕ) → ℕ → ℕ → ℕ
value_with ds i a value w over =
    death_share (ds i) (10000 * over + value (record { account = w; guarantee = a })) (death_payment w a over)

-- the worth on date i of what is held, summed so
unfoldable pub held_by_account : Terms → Returns → Rates → ℕ → Held → (State → ℕ) → ℕ
held_by_account c rs ds i h value = mean_by_account c rs h.balance (value_with ds i h.guarantee value)

-- the process of it all; "Start: balance U and guarantee U, then the first return."
unfoldable pub process_of : Terms → Returns → Rates → Process State Held
process_of c rs ds = record {
  dates = c.dates;
  start = record { balance = c.premium; guarantee = c.premium };
  returns = rs.count;
  limit = λ s. largest_amount (free_in c s) s.account;
  cash = cash_in c;
  after = after_in c;
  reach = reach_by c rs;
  paid = paid_by c rs;
  by_list = held_by_list c rs ds;
  by_state = held_by_account c rs ds;
  final = λ s. maturity_value s.account s.guarantee;
}

-- "One layer has (top + 1) × (U + 1) entries; the entry of (W, A) is W × (U + 1) + A."
unfoldable pub layer_size : Terms → ℕ
layer_size c = (c.top + 1) * (c.premium + 1)

unfoldable pub layout_of : Terms → Layout State
layout_of c = record {
  InRange = InRange c;
  size = layer_size c;
  place = λ s. s.account * (c.premium + 1) + s.guarantee;
  state_at = λ e. record { account = e / (c.premium + 1); guarantee = e % (c.premium + 1) };
}

unfoldable pub fixed_term : Terms → Returns → Rates → Product State Held
fixed_term c rs ds = record { process = process_of c rs ds; admissible = admissible_in c; surrender = surrender_in c; layout = layout_of c }
