-- What the calls that value share: the first layer as the rules write it, and terms and returns that were read. Assumes nothing.
use Rattle.std.specs.Prelude.{List, ◌++◌, ◌≡◌, ℕ, ◌+◌, ◌*◌, ◌/◌, ◌%◌, ◌≤◌, ◌<◌, length, drop, replicate, Ok, Err}
use Rattle.std.proofs.Common.{inr, subst, sym, ◌∙◌, le_trans, le_of_eq, div-lt_iff_lt-mul}
use Rattle.std.proofs.Math.Path.{ap}
use Rattle.std.proofs.Math.Nat.{mod-lt, div-add-mod'}
use native.Mathlib.Omega.{arith}
use Rattle.std.proofs.Math.ListN.{get_or}
use Rattle.decision.specs.Index.{tabulate}
use Rattle.slices.specs.Stored.{stored, length_stored, stored_out, stored_zeros}
use Rattle.slices.specs.Rows.{cells, flat, layer_stored}
use Rattle.rules.specs.Contract.{Terms, terms_of, Input}
use Rattle.rules.specs.Date.{maturity_value}
use Rattle.rules.specs.FixedTerm.{layer_size, fixed_term, layout_of, process_of}
use Rattle.rules.specs.Refusals.{Verdict, accepted, refused, verdict}
use Rattle.laws.specs.Bounds.{state_most}
use Rattle.contract.specs.declared.Refusal.{Refusal}
use Rattle.contract.specs.Refusal.{number_in, place_in}
use Rattle.date.specs.declared.Behaviour as date
use Rattle.input.specs.declared.Policy as input
use Rattle.input.specs.Read.{agreed_by}
use Rattle.input.specs.Given.{Given}
use Rattle.input.specs.Accepted.{agreed, disagreed, given}
use Rattle.expect.specs.Expected.{Values}
use Rattle.laws.specs.Accepted.{Valid}
use Rattle.valuing.specs.Answered.{Checked, checked_tells, Passed, WorkLent, TableLent}
use Rattle.rules.specs.Product.{entries}
use Rattle.laws.specs.Terms.{table_size}
use Rattle.rules.specs.Operations.{no_table_checks, valuing_checks}
use Rattle.rules.specs.Policy.{policy_of}
use Rattle.laws.specs.Valuing.{valuing_no_table, no_table_room, no_table_read}

-- the first layer holds f, and what stands behind both layers is kept
pub record First (f : ℕ → ℕ → ℕ) (c : Terms) (work work' : List ℕ) : Type 0 where
  pub long : length work' ≡ length work
  pub values : (w a : ℕ) → w ≤ c.top → a ≤ c.premium → cells work' 0 (c.premium + 1) w a ≡ f w a
  pub rest : (x : ℕ) → layer_size c + layer_size c ≤ x → get_or work' x 0 ≡ get_or work x 0

module _ {f : ℕ → ℕ → ℕ} {c : Terms} {work work' : List ℕ} (v : First f c work work') where
  -- with zeros behind it
  pub first_layer : layer_size c + layer_size c ≤ length work
      → stored work' (layer_size c) (λ (i : ℕ). 0) (layer_size c)
      ≡ tabulate (layer_size c) (λ e. f (e / (c.premium + 1)) (e % (c.premium + 1)))
      ++ replicate (layer_size c) 0 ++ drop (2 * layer_size c) work
  unfolding layer_size
  first_layer room = stored_zeros work work' _ (layer_size c) v.long room cell v.rest
    where
      cell : (e : ℕ) → e < (c.top + 1) * (c.premium + 1) → get_or work' e 0 ≡ f (e / (c.premium + 1)) (e % (c.premium + 1))
      cell e l =
          let p : 0 < c.premium + 1 = omega arith in
          let i : 0 + (e / (c.premium + 1) * (c.premium + 1) + e % (c.premium + 1)) ≡ e =
          let d = div-add-mod' e (c.premium + 1) in omega arith in
          let h = (div-lt_iff_lt-mul p).1 l in
          let m = mod-lt e p in
          ap (λ (j : ℕ). get_or work' j 0) (sym i) ∙ v.values (e / (c.premium + 1)) (e % (c.premium + 1)) (omega arith) (omega arith)

-- maturity values put into the first layer change nothing that is kept
pub first_from_lem : {f : ℕ → ℕ → ℕ} {c : Terms} {work work₁ work' : List ℕ} (g : ℕ → ℕ)
    → work₁ ≡ stored work 0 g (layer_size c) → First f c work₁ work' → First f c work work'
first_from_lem {c = c} {work = work} g e v = record {
  long = v.long ∙ ap length e ∙ length_stored work 0 g (layer_size c);
  values = v.values;
  rest = λ x h. v.rest x h ∙ ap (λ (xs : List ℕ). get_or xs x 0) e ∙ stored_out work 0 g (layer_size c) x (inr (omega arith));
}

-- .. and are what it then holds
pub first_mature : {work' : List ℕ} (c : Terms) (work : List ℕ) → layer_size c ≤ length work
    → work' ≡ stored work 0 (flat (c.premium + 1) maturity_value) (layer_size c)
    → (w a : ℕ) → w ≤ c.top → a ≤ c.premium → cells work' 0 (c.premium + 1) w a ≡ maturity_value w a
unfolding layer_size
first_mature c work room e w a h l =
    ap (λ (xs : List ℕ). cells xs 0 (c.premium + 1) w a) e
    ∙ (layer_stored work 0 (c.premium + 1) (c.top + 1) maturity_value (omega arith)).cell w a (omega arith) (omega arith)

pub settling : {f : ℕ → ℕ → ℕ} {c : Terms} {work work' : List ℕ} → Valid c
    → layer_size c + layer_size c ≤ length work → First f c work work' → ((w a : ℕ) → w ≤ c.top → a ≤ c.premium → f w a ≤ state_most c 1)
    → Values c 0 work'
settling valid room v most = record {
  layers = record { valid = valid; room = omega (arith, v.long) };
  small = λ w a h l. le_trans (le_of_eq (v.values w a h l)) (most w a h l);
}

-- ---- what was read: by any verdict, what passed is what was given ..
pub passed : {v : Verdict} (x : Input) {behaviour : ℕ} (policy : input.Policy) (b : date.Behaviour)
    → checked_tells (Ok (policy, b)) ≡ agreed_by v x.bytes x.list → Checked x behaviour (policy, b) → Passed v x behaviour policy b
passed {v} x policy b e same =
    let told = agreed v x.bytes x.list _ _ (sym e) in record { accepts = told.accepts; terms = told.terms; same = same }

-- .. and a refusal is the verdict's
pub turned_away : {v : Verdict} (x : Input) (r : Refusal) → checked_tells (Err r) ≡ agreed_by v x.bytes x.list
    → v ≡ refused (number_in r) (place_in r)
turned_away {v} x r e = disagreed v x.bytes x.list (sym e)

-- what a valuation that is accepted was given: a behaviour that there is, what was read, and with no table ..
pub record WorkGiven (behaviour : ℕ) (c : Terms) (list rates work : List ℕ) : Type 0 where
  pub known : behaviour ≤ 2
  pub given : Given c list rates
  pub lent : WorkLent c work

pub work_lent : (x : Input) (behaviour : ℕ) (work : List ℕ) {c : Terms}
    → verdict (no_table_checks (policy_of x) behaviour work) ≡ accepted → c ≡ terms_of x.bytes
    → WorkGiven behaviour c x.list x.rates work
unfolding fixed_term layout_of
work_lent x behaviour work accepts terms =
    let room = no_table_room (policy_of x) behaviour work accepts in record {
      known = room.known;
      given = given x (no_table_read (policy_of x) behaviour work accepts) terms;
      lent = record { room = rw terms (let l = room.layers in omega arith) };
    }

-- .. and with one
pub record TableGiven (behaviour : ℕ) (c : Terms) (list rates work table : List ℕ) : Type 0 where
  pub first : WorkGiven behaviour c list rates work
  pub lent : TableLent c work table

pub table_lent : (x : Input) (behaviour : ℕ) (work table : List ℕ) {c : Terms}
    → verdict (valuing_checks (policy_of x) behaviour work table) ≡ accepted → c ≡ terms_of x.bytes
    → TableGiven behaviour c x.list x.rates work table
unfolding entries table_size fixed_term process_of layout_of
table_lent x behaviour work table accepts terms =
    let both = valuing_no_table (policy_of x) behaviour work table accepts in
    let first = work_lent x behaviour work both.0 terms in record {
      first = first;
      lent = record {
        first = first.lent;
        room_table = subst (λ (t : Terms). table_size t ≤ length table) (sym terms) both.1;
      };
    }
