-- A behaviour in the code is one of the rules, and its number. Assumes nothing.
use Rattle.std.specs.Prelude.{◌≡◌, ℕ, ◌≤◌, ◌<◌, Result, MatchResult}
use Rattle.rules.specs.Date as rules
use Rattle.rules.specs.Operations.{behaviour_of}
use Rattle.date.specs.declared.Behaviour.{Behaviour}
use Rattle.date.specs.declared.Behaviour.TheVariants.{Static, Mixed, Dynamic}
use Rattle.date.specs.declared.UnknownBehaviour.{UnknownBehaviour}

abbrev pub behaviour_in : Behaviour → rules.Behaviour
behaviour_in Static = rules.static
behaviour_in Mixed = rules.mixed
behaviour_in Dynamic = rules.dynamic

-- "behaviour not 0 static, 1 mixed, 2 dynamic"
abbrev pub Numbers : ℕ → Result Behaviour UnknownBehaviour → Type 0
Numbers n r = MatchResult r (λ b. (n ≤ 2) × (behaviour_in b ≡ behaviour_of n)) (λ e. 2 < n)
