-- The states of a block while amounts above m are tried. Assumes nothing.
use Rattle.std.specs.Prelude.{ℕ, ◌+◌, ◌-◌, List}
use Rattle.proportion.specs.declared.Run.{Run}
use Rattle.proportion.specs.declared.States.{States}
use Rattle.proportion.specs.Held.{Held, raised_to, key_at, tried_below}

-- the key of amount t for state j
abbrev pub key_of : States → ℕ → ℕ → ℕ
key_of x = key_at x.work.now x.d x.s

-- the states of a run, each raised to the key of amount t
abbrev pub raised_by : States → List ℕ → Run → ℕ → List ℕ
raised_by x best r t = raised_to best r.low (λ i. key_of x (r.low + i) t) (r.end - r.low)

-- all amounts were tried of the states below `low`, of the others those up to m
abbrev pub Holding : States → List ℕ → ℕ → Type 0
Holding x best low = Held (key_of x) best x.s.n (tried_below x.d x.s low)
