-- The sizes that are told, in the words of the rules, and that they are enough. Assumes nothing.
use Rattle.std.specs.Prelude.{Bool, Result, Ok, Err, true, false, ◌||◌, List, ◌↔◌, ◌≡◌, refl, ℕ, ◌*◌, ◌≤◌, T, length}
use Rattle.std.proofs.Common.{subst, ltb-false, le-ltb}
use Rattle.rules.specs.Contract.{Input, Terms, terms_of}
use Rattle.rules.specs.Product.{entries}
use Rattle.rules.specs.FixedTerm.{process_of, layout_of, layer_size, fixed_term}
use Rattle.rules.specs.Refusals.{accepted, refused, verdict, number_of, on_success, short, record_checks}
use Rattle.rules.specs.Operations.{work_size, slices_short}
use Rattle.rules.specs.Policy.{policy_of}
use Rattle.rules.specs.Map.{map_size}
use Rattle.rules.specs.Sizes.{Sizes, sizes_of, record_policy}
use Rattle.laws.specs.Terms.{table_size, frame}
use Rattle.contract.specs.declared.Refusal.{Refusal}
use Rattle.contract.specs.Refusal.{number_in}
use Rattle.sizes.specs.declared.Sizes as declared

-- EACH CASE OF A RESULT: number 0 with the sizes, or the refusal's number with zeros
abbrev pub sizes_in : Result declared.Sizes Refusal → Sizes
sizes_in (Ok s) = record { number = 0; work = s.work; table = s.table; map = s.map }
sizes_in (Err r) = record { number = number_in r; work = 0; table = 0; map = 0 }

module _ (bytes : List ℕ) where
  pub sizes_refused : {n p : ℕ} → verdict (record_checks bytes) ≡ refused n p
      → ◌≡◌ {A = Sizes} (record { number = n; work = 0; table = 0; map = 0 }) (sizes_of (record_policy bytes))
  unfolding sizes_of number_of on_success
  sizes_refused e = rw e

  pub sizes_accepted : {c : Terms} → verdict (record_checks bytes) ≡ accepted → c ≡ terms_of bytes
      → ◌≡◌ {A = Sizes} (record { number = 0; work = 2 * layer_size c; table = table_size c; map = map_size (frame c) })
      (sizes_of (record_policy bytes))
  unfolding sizes_of number_of on_success table_size entries map_size fixed_term process_of layout_of
  sizes_accepted e same = rw (e, same)

-- ---- WHAT THEY ARE FOR: of an accepted record, slices are long enough for a valuation, and a map for its table, exactly where they
-- have at least the sizes told
long_enough : (n : ℕ) (xs : List ℕ) → (short n xs ≡ false) ↔ (n ≤ length xs)
unfolding short
long_enough n xs = (ltb-false (length xs) n, le-ltb (length xs) n)

neither : (a b : Bool) → ((a || b) ≡ false) ↔ ((a ≡ false) × (b ≡ false))
neither true b = ((λ e. (e, absurd (subst (λ (c : Bool). T c) e tt))), (λ (e, f). e))
neither false b = ((λ e. (refl, e)), (λ (e, f). f))

module _ (x : Input) (yes_to : verdict (record_checks x.bytes) ≡ accepted) (work table map : List ℕ) where
  pub record Enough (s : Sizes) : Type 0 where
    pub slices : (slices_short (policy_of x) work table ≡ false) ↔ ((s.work ≤ length work) × (s.table ≤ length table))
    pub words : (short (map_size (policy_of x).product) map ≡ false) ↔ (s.map ≤ length map)

  pub sizes_suffice : Enough (sizes_of (record_policy x.bytes))
  unfolding sizes_of on_success slices_short entries map_size fixed_term process_of layout_of
  sizes_suffice =
      let w = long_enough (work_size (policy_of x)) work in
      let t = long_enough (entries (policy_of x).product) table in
      let both = neither (short (work_size (policy_of x)) work) (short (entries (policy_of x).product) table) in
      rw yes_to (record {
        slices = ((λ e. let f = both.0 e in (w.0 f.0, t.0 f.1)), (λ (l, m). both.1 (w.1 l, t.1 m)));
        words = long_enough (map_size (policy_of x).product) map;
      })
