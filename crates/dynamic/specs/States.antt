-- The states of a block while amounts are tried. Assumes nothing.
use Rattle.std.specs.Prelude.{ℕ, List}
use Rattle.dynamic.specs.declared.States.{States}
use Rattle.dynamic.specs.Block.{tried_to}
use Rattle.proportion.specs.Held.{Held, key_at, tried_below}

-- the amounts below t were tried
abbrev pub Trying : States → List ℕ → ℕ → Type 0
Trying x best t = Held (key_at x.work.now x.d x.s) best x.s.n (tried_to x.s t)

-- all amounts were tried of the states below `low`, of the others those up to m
abbrev pub Holding : States → List ℕ → ℕ → Type 0
Holding x best low = Held (key_at x.work.now x.d x.s) best x.s.n (tried_below x.d x.s low)
