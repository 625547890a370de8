-- `contract::Contract::read` meets its contract. Assumes nothing.
use Rattle.std.proofs.Common.{◌≡◌, ap, sym, subst, eq-eqb, ne_eqb}
use Rattle.std.proofs.lemmas.Result.{err_from_is_err_and}
use Rattle.contract.specs.Reading.{taken, record_read, taken_by}
use Rattle.rules.specs.Contract.{Terms, terms_under, terms_of}
use Rattle.rules.specs.Refusals.{accepted, verdict, record_checks}
use Rattle.laws.specs.Accepted.{Valid, all_pass, valid_record}
use Rattle.contract.proofs.Contract.read.Goals as goal
use Rattle.contract.proofs.Contract.read.Goals.{After-word-8}

pub returns-then-bytes-ne-BYTES : goal.returns-then-bytes-ne-BYTES
unfolding record_read taken_by verdict record_checks
returns-then-bytes-ne-BYTES c = rw (ne_eqb _ _ c.if-bytes-ne-BYTES.true)

pub returns-in_err-check : goal.returns-in_err-check
unfolding record_read taken_by verdict record_checks
returns-in_err-check c =
    let p = err_from_is_err_and c.from_residual.result c.from_residual.ensures.1 in
    rw (p.1, p.2, eq-eqb _ _ c.if-bytes-ne-BYTES.false, sym (c.in_err-check.ensures))

-- the words that were read are the record's terms, and every check passes
read : (c : After-word-8) → Terms
read c = record {
  premium = c.word.result;
  level = c.word-2.result;
  top = c.word-3.result;
  dates = c.word-4.result;
  fee = c.word-5.result;
  penalty = c.word-6.result;
  discount = c.long.result;
  step = c.word-7.result;
  spare = c.word-8.result;
}

terms : (c : After-word-8) → read c ≡ terms_of c.args.bytes.now
unfolding terms_of terms_under read
terms c = λ i. record {
  premium = c.word.ensures.0 i;
  level = c.word-2.ensures.0 i;
  top = c.word-3.ensures.0 i;
  dates = c.word-4.ensures.0 i;
  fee = c.word-5.ensures.0 i;
  penalty = c.word-6.ensures.0 i;
  discount = c.long.ensures i;
  step = c.word-7.ensures.0 i;
  spare = c.word-8.ensures.0 i;
}

passes : (c : After-word-8) → verdict (record_checks c.args.bytes.now) ≡ accepted
unfolding verdict record_checks
passes c = rw (eq-eqb _ _ c.if-bytes-ne-BYTES.false) (sym (c.in_ok-check.ensures))

pub invariant_of-result : goal.invariant_of-result
unfolding read
invariant_of-result c = record {
  in_range = subst Valid (sym (terms c)) (valid_record c.args.bytes.now (all_pass _ (passes c)));
}

pub returns : goal.returns
unfolding record_read taken_by read
returns c =
    let w = (goal.at.returns c).After-word-8 in
    rw (passes w) (ap taken (terms w))
