-- Walking a path: what the loops hand to each other. Assumes nothing.
use Rattle.std.specs.Prelude.{◌≡◌, ℕ, ◌-◌, ◌*◌, ◌≤◌, get_or}
use Rattle.rules.specs.Contract.{returns_of}
use Rattle.rules.specs.Date.{next_account, excess_paid}
use Rattle.rules.specs.Product.{Product, walk_state, walk_paid}
use Rattle.rules.specs.FixedTerm.{State, Held}
use Rattle.laws.specs.Terms.{living_term}
use Rattle.contract.specs.Reading.{terms_in}
use Rattle.dates.specs.Back.{at}
use Rattle.walk.specs.declared.Place.{Place}
use Rattle.walk.specs.declared.Walkable.{Walkable}

-- what is walked
abbrev pub term_of : Walkable → Product State Held
term_of x = living_term (terms_in x.contract) (returns_of x.list.now)

-- the place that the path's return j leads to from a balance, with a guarantee
abbrev pub arrival_of : Walkable → ℕ → ℕ → ℕ → Place
arrival_of x j balance guarantee =
    let factor = (returns_of x.list.now).factor (get_or x.path.now j 0) in record {
      account = next_account x.contract.fee x.contract.top balance factor;
      guarantee = guarantee;
      paid = excess_paid x.contract.fee x.contract.top balance factor;
    }

-- what is met on date i, and was paid on arrival there
pub record Met (x : Walkable) (i : ℕ) (p : Place) : Type 0 where
  pub state : walk_state (term_of x) x.table.now x.path.now i ≡ at p.account p.guarantee
  pub paid : p.paid ≡ walk_paid (term_of x) x.table.now x.path.now (i - 1)
  pub account : p.account ≤ x.contract.top
  pub guarantee : p.guarantee ≤ x.contract.premium
  pub paid_small : p.paid ≤ 20000 * x.contract.top
