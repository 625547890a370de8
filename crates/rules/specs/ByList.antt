-- Document 02, request (vii): the contract whose means are summed return by return. proofs/ByList shows that it is the contract.
-- Assumes nothing.
use Rattle.decision.specs.Means.{listed}
use Rattle.rules.specs.Contract.{Terms, Returns, Rates}
use Rattle.rules.specs.Product.{Product}
use Rattle.rules.specs.FixedTerm.{State, Held, admissible_in, surrender_in}
use Rattle.rules.specs.FixedTerm.{process_of, layout_of}

-- the contract whose means are summed return by return, as document 01 has it
unfoldable pub listed_term : Terms → Returns → Rates → Product State Held
listed_term c rs ds = record {
  process = listed (process_of c rs ds);
  admissible = admissible_in c;
  surrender = surrender_in c;
  layout = layout_of c;
}
