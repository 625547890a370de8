-- `expect::start_value` meets its contract. Assumes nothing.
use Prim.Native.Nat.{ℕ, ◌+◌, ◌*◌, ◌-◌, ◌≤◌}
use mathlib.Core.List.{List}
use mathlib.Core.Path.{◌≡◌}
use Rattle.decision.specs.Index.{sum}
use Rattle.laws.specs.Bounds.{entry_most}
use Rattle.laws.specs.Date.{shared}
use Rattle.rules.specs.Contract.{Terms, returns_of, weight_most}
use Rattle.contract.specs.Reading.{terms_in}
use Rattle.slices.specs.Rows.{cells}
use Rattle.expect.specs.Expected.{reached_from}
use Rattle.expect.proofs.start_value.Given as goal

-- what the sum is over
abbrev pub weighed : List ℕ → List ℕ → ℕ → Terms → ℕ → ℕ
weighed work list rate c j =
    (returns_of list).weight j
    * reached_from c (returns_of list) (shared rate (cells work 0 (c.premium + 1))) c.premium c.premium j

abbrev pub invariant-loop-k : goal.invariant-loop-k
invariant-loop-k l =
    (l.k ≤ l.k-end) × (l.sum ≡ sum (weighed l.work l.list l.rate (terms_in l.c)) l.k) × (l.sum ≤ l.k * (weight_most * entry_most))

abbrev pub decreases-loop-k : goal.decreases-loop-k
decreases-loop-k l = l.k-end - l.k
