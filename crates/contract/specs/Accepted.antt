-- What an accepted record shows of the bytes. Assumes nothing.
use Rattle.std.specs.Prelude.{List, ℕ}
use Rattle.std.proofs.Math.Path.{◌≡◌, refl, ap₂}
use Rattle.std.proofs.Common.{sym, ◌∙◌, subst, arith}
use Rattle.rules.specs.Contract.{terms_of}
use Rattle.rules.specs.Refusals.{Verdict, accepted, refused, verdict, record_checks}
use Rattle.laws.specs.Accepted.{Valid, all_pass, valid_record}
use Rattle.contract.specs.declared.Contract.{Contract}
use Rattle.contract.specs.Reading.{terms_in, taken, turned, taken_by, record_read}

-- ---- what was taken, and what was turned away, by any verdict
module _ {A : Type 0} (v : Verdict) (x : A) where
  pub taken_accepts : {y : A} → taken_by v x ≡ taken y → (v ≡ accepted) × (x ≡ y)
  unfolding taken_by
  taken_accepts {y} e = go v refl e
    where
      go : (u : Verdict) → v ≡ u → taken_by u x ≡ taken y → (v ≡ accepted) × (x ≡ y)
      go accepted a f = let same : x ≡ y = cc in (a, same)
      go (refused n p) a f = let z : ◌≡◌ {A = ℕ} 0 1 = cc in absurd (omega arith)

  pub turned_refused : {n p : ℕ} → taken_by v x ≡ turned n p → v ≡ refused n p
  unfolding taken_by
  turned_refused {n} {p} e = go v refl e
    where
      go : (u : Verdict) → v ≡ u → taken_by u x ≡ turned n p → v ≡ refused n p
      go accepted a f = let z : ◌≡◌ {A = ℕ} 0 1 = cc in absurd (omega arith)
      go (refused m q) a f = let number : m ≡ n = cc in let place : q ≡ p = cc in a ∙ ap₂ refused number place

-- the terms c were read from the bytes
pub record Read (bytes : List ℕ) (c : Contract) : Type 0 where
  pub accepts : verdict (record_checks bytes) ≡ accepted
  pub terms : terms_in c ≡ terms_of bytes
  pub valid : Valid (terms_in c)

pub read_accepted : (bytes : List ℕ) (c : Contract) → record_read bytes ≡ taken (terms_in c) → Read bytes c
unfolding record_read
read_accepted bytes c e =
    let both = taken_accepts (verdict (record_checks bytes)) (terms_of bytes) e in
    record { accepts = both.0; terms = sym both.1; valid = subst Valid both.1 (valid_record bytes (all_pass _ both.0)) }

pub read_refused : (bytes : List ℕ) {n p : ℕ} → record_read bytes ≡ turned n p → verdict (record_checks bytes) ≡ refused n p
unfolding record_read
read_refused bytes e = turned_refused (verdict (record_checks bytes)) (terms_of bytes) e
