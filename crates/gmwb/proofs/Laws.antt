-- What reading a record says of it. Assumes nothing.
use Rattle.std.specs.Prelude.{List, ◌≡◌, ℕ, Result, Ok, Err}
use Rattle.std.proofs.Common.{sym}
use Rattle.rules.specs.Refusals.{verdict, record_checks}
use Rattle.contract.specs.declared.Contract.{Contract}
use Rattle.contract.specs.declared.Refusal.{Refusal}
use Rattle.contract.specs.Refusal.{verdict_in}
use Rattle.contract.specs.Reading.{reading_tells, record_read}
use Rattle.contract.specs.Accepted.{read_accepted, read_refused}

pub read_verdict : (bytes : List ℕ) (r : Result Contract Refusal) → reading_tells r ≡ record_read bytes
    → verdict_in r ≡ verdict (record_checks bytes)
read_verdict bytes (Ok c) e = sym (read_accepted bytes c (sym e)).accepts
read_verdict bytes (Err r) e = sym (read_refused bytes (sym e))
