-- What a call with one buffer answers and leaves. Assumes nothing.
use Rattle.std.specs.Prelude.{List, ◌≡◌, ℕ, Result}
use Rattle.rules.specs.Refusals.{Verdict, on_success}
use Rattle.contract.specs.declared.Refusal.{Refusal}
use Rattle.contract.specs.Refusal.{verdict_in}

-- the verdict, and in the buffer the bytes on success or what it held
pub record Booked (v : Verdict) (bytes before : List ℕ) (result : Result Unit Refusal) (after : List ℕ) : Type 0 where
  pub outcome_is : verdict_in result ≡ v
  pub buffer_is : after ≡ on_success v bytes before
