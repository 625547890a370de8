-- `slices::first` meets its contract. Assumes nothing.
use Rattle.std.proofs.Common.{◌≡◌, ℕ, ◌≤◌, ◌<◌, Bool, true, false, Option, None, Some, sym, arith, rules}
use Rattle.std.specs.Prelude.{MatchOption}
use Rattle.std.proofs.lemmas.Iterator.{first_from_Range}
use Rattle.slices.specs.Found.{found, found_hit, found_none}
use Rattle.slices.proofs.first.Goals as goal

-- what `find` finds
is_found : (p : ℕ → Bool) (n : ℕ) (r : Option ℕ) → MatchOption r ((k : ℕ) → 0 ≤ k → k < n → k < n → p k ≡ false)
    (λ i. (0 ≤ i) × (i < n) × (i < n → p i ≡ true) × ((k : ℕ) → 0 ≤ k → k < i → k < n → p k ≡ false)) → r ≡ found p n
is_found p n None h = found_none (record { within = omega arith; passed = λ j l. h j (omega arith) l l }) (omega arith)
is_found p n (Some i) h =
    found_hit (record { within = omega (arith, h.1); passed = λ j l. h.3 j (omega arith) l (omega (arith, h.1)) }) h.1 (h.2 h.1)

pub returns : goal.returns
returns g c = λ p same.
    let n = c.args.n in
    is_found p n _ (first_from_Range _ _ _ _ (λ i. i < n → p i ≡ true) (λ i. i < n → p i ≡ false) c.find.ensures.ran
    (λ x q k h. sym (same x true h (search rules))) (λ x q k. (search rules, λ h. sym (same x false h (search rules)))))
