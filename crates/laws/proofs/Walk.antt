-- What an accepted walk conserves. Assumes nothing.
use Rattle.std.specs.Prelude.{List, ◌++◌, ◌≡◌, eqb, length}
use Rattle.std.proofs.Common.{arith}
use Prim.Native.Nat.{ℕ, suc, ◌+◌, ◌≤◌, ◌<◌}
use Rattle.std.proofs.Math.Dec.{eqb→eq}
use Rattle.decision.specs.Index.{sum}
use Rattle.rules.specs.Contract.{terms_of, returns_of}
use Rattle.rules.specs.Product.{walk_state, walk_amount}
use Rattle.rules.specs.FixedTerm.{free_in, process_of, fixed_term}
use Rattle.rules.specs.Refusals.{accepted, verdict, record_checks, list_checks}
use Rattle.rules.specs.Operations.{walk_checks}
use Rattle.rules.specs.Policy.{living_policy}
use Rattle.laws.specs.Accepted.{AllPass, all_pass, pass_right, not_not}
use Rattle.laws.specs.Walk.{walk_conserves}

-- .. of a walk that is accepted, on every date up to maturity
pub walk_keeps : (bytes list table path cashes : List ℕ) → verdict (walk_checks (living_policy bytes list) table path cashes) ≡ accepted
    → (n : ℕ) → n < (terms_of bytes).dates
    → let X = (living_policy bytes list).product in
    ((j : ℕ) → j < n → walk_amount X table path (suc j) ≤ free_in (terms_of bytes) (walk_state X table path (suc j)))
    → sum (λ j. walk_amount X table path (suc j)) n + (walk_state X table path (suc n)).guarantee ≡ (terms_of bytes).premium
unfolding walk_checks AllPass fixed_term process_of
walk_keeps bytes list table path cashes e n l free =
    let checks = pass_right (record_checks bytes ++ list_checks list) _ (all_pass _ e) in
    let long = eqb→eq (length path) (terms_of bytes).dates (not_not (eqb (length path) (terms_of bytes).dates) checks.1.0) in
    walk_conserves (terms_of bytes) (returns_of list) table path n (omega arith) free
