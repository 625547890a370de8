-- Following a supplied table: what the loops hand to each other. Assumes nothing.
use Rattle.std.specs.Prelude.{List, ◌≡◌, ℕ, ◌+◌, ◌*◌, ◌≤◌, ◌<◌, T, length, get_or}
use Rattle.decision.specs.Index.{first}
use Rattle.decision.specs.Process.{table_value}
use Rattle.decision.specs.Layers.{lookup}
use Rattle.slices.specs.Rows.{cells}
use Rattle.rules.specs.Contract.{Terms, Returns, Rates, Input}
use Rattle.rules.specs.Date.{dynamic, free_amount, admits, maturity_value}
use Rattle.rules.specs.Product.{supplied_value, supplied_layer}
use Rattle.rules.specs.FixedTerm.{rate_in, layer_size, layout_of, process_of, fixed_term}
use Rattle.rules.specs.Refusals.{Verdict}
use Rattle.rules.specs.Operations.{Answer, answer, work_after, supplied_answer, supplied_work}
use Rattle.laws.specs.Date.{shared}
use Rattle.expect.specs.Expected.{expected}
use Rattle.keys.specs.declared.Date.{Date}
use Rattle.keys.specs.Sums.{sums, Sums}
use Rattle.worth.specs.Worth.{worth_over}
use Rattle.dates.specs.Back.{at}
use Rattle.dates.specs.Dated.{OneDate}
use Rattle.laws.specs.Terms.{table_size, bad_in, read_policy}
use Rattle.rules.specs.Policy.{policy_of}

-- what the amounts in t are worth over the discounted sums e
abbrev pub followed : (ℕ → ℕ → ℕ) → (ℕ → ℕ → ℕ) → ℕ → ℕ → ℕ → ℕ → ℕ
followed e t rate level w a = worth_over e rate (free_amount level a) w a (t w a)

-- .. of date d, whose amounts stand in layer
abbrev pub followed_on : Date → List ℕ → List ℕ → ℕ → ℕ → ℕ
followed_on d work layer = followed (sums work d) (cells layer 0 d.stride) d.rate d.level

-- the rows below n are to be followed
pub record Following (work layer : List ℕ) (d : Date) (n : ℕ) : Type 0 where
  pub layers : Sums work d n
  pub entries : n * d.stride ≤ length layer
  pub admitted : (w a : ℕ) → w < n → a < d.stride
      → T (admits dynamic (free_amount d.level a) w (cells layer 0 d.stride w a))

-- one date back, by its layer of the table
pub record Dating (c : Terms) (i : ℕ) (work layer : List ℕ) : Type 0 where
  pub date : OneDate c i work
  pub layer_is : length layer ≡ layer_size c
  pub admitted : (w a : ℕ) → w ≤ c.top → a ≤ c.premium
      → T (admits dynamic (free_amount c.level a) w (cells layer 0 (c.premium + 1) w a))

pub record Back (c : Terms) (rs : Returns) (ds : Rates) (i : ℕ) (work layer work' : List ℕ) : Type 0 where
  pub long : length work' ≡ length work
  pub values : (w a : ℕ) → w ≤ c.top → a ≤ c.premium
      → cells work' 0 (c.premium + 1) w a
      ≡ followed (expected c rs (shared (ds i) (cells work 0 (c.premium + 1)))) (cells layer 0 (c.premium + 1)) (rate_in c i)
      c.level w a
  pub rest : (x : ℕ) → layer_size c + layer_size c ≤ x → get_or work' x 0 ≡ get_or work x 0

-- every date
abbrev pub table_on : Terms → Returns → Rates → List ℕ → ℕ → ℕ → ℕ → ℕ
table_on c rs ds table i w a = table_value (process_of c rs ds) (lookup (layout_of c) table) i (at w a)

pub record Starting (c : Terms) (work table : List ℕ) : Type 0 where
  pub room : layer_size c + layer_size c ≤ length work
  pub entries : table_size c ≤ length table
  pub none_bad : table_size c ≤ first (bad_in c table) (table_size c)
  pub mature : (w a : ℕ) → w ≤ c.top → a ≤ c.premium → cells work 0 (c.premium + 1) w a ≡ maturity_value w a

-- the checks have passed: slices that are long enough, and no bad entry
pub record Checked (c : Terms) (work table : List ℕ) : Type 0 where
  pub room : layer_size c + layer_size c ≤ length work
  pub entries : table_size c ≤ length table
  pub none_bad : table_size c ≤ first (bad_in c table) (table_size c)

-- the answer of a verdict, and the working slice
pub record Answered (c : Terms) (rs : Returns) (ds : Rates) (v : Verdict) (work table : List ℕ) (r : Answer)
    (work' : List ℕ) : Type 0
  where
    pub answer_is : r ≡ answer v (supplied_value (fixed_term c rs ds) table) c.premium
    pub work_is : work' ≡ work_after (read_policy c rs ds) v (supplied_layer (fixed_term c rs ds) table) work

-- WHAT VALUING A SUPPLIED TABLE ANSWERS AND LEAVES, on any input
pub record Supplying (x : Input) (work table : List ℕ) (r : Answer) (work' : List ℕ) : Type 0 where
  pub answer_is : r ≡ supplied_answer (policy_of x) work table
  pub work_is : work' ≡ supplied_work (policy_of x) work table
