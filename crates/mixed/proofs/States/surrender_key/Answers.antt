-- `mixed::States::surrender_key` meets its contract. Assumes nothing.
use Prim.Native.Nat.{ℕ}
use mathlib.Core.Path.{ap, ◌∙◌}
use native.Mathlib.Omega.{arith}
use Rattle.keys.specs.Key.{key}
use Rattle.mixed.proofs.Laws.{cell_small, key_is}
use Rattle.mixed.proofs.States.surrender_key.Goals as goal

pub returns : goal.returns
returns c =
    let place_is = c.place-at.ensures in
    let m = cell_small c.args.self.span.layers 0 0 (omega arith) (omega arith) place_is in
    let k = c.key.ensures.0 ∙ ap (λ (x : ℕ). key x c.args.self.s.w) c.cash.ensures.0 in
    (key_is c.args.self.span.layers 0 0 (omega arith) (omega arith) place_is _ _ k, omega arith)
