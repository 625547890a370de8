-- What is read, in the words of the rules. Assumes nothing.
use Rattle.std.specs.Prelude.{ℕ, Result}
use Rattle.rules.specs.Contract.{Input, Terms, returns_of}
use Rattle.contract.specs.declared.Refusal.{Refusal}
use Rattle.contract.specs.Reading.{Taken, terms_in, tells}
use Rattle.input.specs.declared.Input as declared
use Rattle.input.specs.declared.Agreement.{Agreement}
use Rattle.input.specs.declared.Policy.{Policy}

-- the struct and the record of the rules hold the same bytes
abbrev pub input_of : declared.Input → Input
input_of x = record { bytes = x.bytes.now; list = x.list.now; rates = x.rates.now }

-- EACH CASE OF AN AGREEMENT: the terms and how many returns, or the refusal's number and place
abbrev pub agreement_tells : Result Agreement Refusal → Taken (Terms × ℕ)
agreement_tells r = tells (λ (a : Agreement). (terms_in a.contract, (returns_of a.list.now).count)) r

-- .. and of a policy
abbrev pub policy_tells : Result Policy Refusal → Taken (Terms × ℕ)
policy_tells r = tells (λ (p : Policy). (terms_in p.contract, (returns_of p.list.now).count)) r
