-- `pricing::search` meets its contract. Assumes nothing.
use Prim.Native.Nat.{◌-◌}
use Rattle.contract.specs.Reading.{terms_in}
use Rattle.date.specs.Behaviour.{behaviour_in}
use Rattle.decision.specs.Bisection.{halvings}
use Rattle.rules.specs.Contract.{returns_of, rates_of}
use Rattle.pricing.specs.Priced.{Searching}
use Rattle.pricing.proofs.search.Given as goal

abbrev pub invariant-loop-s : goal.invariant-loop-s
invariant-loop-s l =
    Searching (terms_in l.policy.contract) (returns_of l.policy.list.now) (rates_of l.policy.rates.now) (behaviour_in l.behaviour) l.wanted
    l.initial.work l.s l.work

-- 14 at the start (`fourteen`), and less with each valuation
abbrev pub decreases-loop-s : goal.decreases-loop-s
decreases-loop-s l = halvings (l.s.high - l.s.low)
