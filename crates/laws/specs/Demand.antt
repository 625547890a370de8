-- The third demand, proved once for every product that is sound. Assumes nothing.
use Rattle.std.specs.Prelude.{List, ◌++◌, ◌≡◌, ℕ, ◌≤◌, T}
use Rattle.std.proofs.Common.{arith}
use Rattle.decision.specs.Process.{Averaging, Open, Closed, Decides, Attained}
use Rattle.decision.proofs.Optimal.{attained, wider, start_wider}
use Rattle.decision.specs.Layers.{Placed, lookup, lookup_layers}
use Rattle.rules.specs.Date.{Behaviour, static, mixed, dynamic}
use Rattle.rules.specs.Product.{Product, decisions, state_value, recorded_amount, contract_value, amount_layers, AtMost, ThirdDemand}

module _ {S H : Type 0} (X : Product S H) where
  -- what a product owes
  pub record Sound : Type 0 where
    pub dates : 1 ≤ X.process.dates
    pub averages : Averaging X.process
    pub opened : (b : Behaviour) → Open X.process (X.admissible b)
    pub closed : (b : Behaviour) → Closed X.process (X.admissible b) X.layout.InRange
    pub static_mixed : (s : S) (t : ℕ) → T (X.admissible static s t) → T (X.admissible mixed s t)
    pub mixed_dynamic : (s : S) (t : ℕ) → T (X.admissible mixed s t) → T (X.admissible dynamic s t)
    pub placed : Placed X.layout

  module _ (h : Sound) where
    -- the table that a valuing call leaves holds the recorded amounts, whatever stands behind it
    pub table_filled : (b : Behaviour) (rest : List ℕ) (i : ℕ) (s : S) → Decides X.process X.layout.InRange i s
        → lookup X.layout (amount_layers X b ++ rest) i s ≡ recorded_amount X b i s
    unfolding amount_layers
    table_filled b rest i s g =
        lookup_layers X.layout h.placed (decisions X) (recorded_amount X b) rest i s g.from (omega (arith, g.before)) g.range

    pub table_attains : (b : Behaviour) (rest : List ℕ)
        → Attained X.process (X.admissible b) X.layout.InRange (lookup X.layout (amount_layers X b ++ rest))
    unfolding recorded_amount
    table_attains b rest =
        attained X.process h.averages (X.admissible b) (h.opened b) X.layout.InRange (h.closed b) _
        (table_filled b rest) h.dates

    at_most : (a b : Behaviour) → ((s : S) (t : ℕ) → T (X.admissible a s t) → T (X.admissible b s t)) → AtMost X a b
    unfolding contract_value state_value
    at_most a b more = record {
      contract = start_wider X.process h.averages (X.admissible a) (X.admissible b) (h.opened a) (h.opened b) more;
      state = wider X.process h.averages (X.admissible a) (X.admissible b) (h.opened a) (h.opened b) more;
    }

    pub demand : (rest : Behaviour → List ℕ) → ThirdDemand X (λ b. amount_layers X b ++ rest b)
    demand rest = record {
      attained = λ b. table_attains b (rest b);
      static_mixed = at_most static mixed h.static_mixed;
      mixed_dynamic = at_most mixed dynamic h.mixed_dynamic;
    }
