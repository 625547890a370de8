-- Document 01, 'Lent slices' and 'What an office is told': booking one withdrawal, its checks and its bytes. Assumes nothing.
use Rattle.std.specs.Prelude.{not, ◌||◌, List, [], ◌∷◌, ◌++◌, ℕ, ◌-◌, ltb, eqb, length}
use Rattle.rules.specs.Contract.{Terms, bytes_of, terms_of}
use Rattle.rules.specs.Date.{dynamic, free_amount, admits, penalty, cash, guarantee_after, balance_after}
use Rattle.rules.specs.FixedTerm.{rate_in}
use Rattle.rules.specs.Refusals.{Check, check, verdict, on_success, outside, record_checks}

-- 12: "date not 1 to N−1, W above top or A above U"
unfoldable pub amount_checks : Terms → ℕ → ℕ → ℕ → ℕ → List ℕ → List Check
amount_checks c date w a t buffer =
    check 11 0 (not (eqb (length buffer) 16))
    ∷ check 12 0 (outside 1 (c.dates - 1) date || ltb c.top w || ltb c.premium a)
    ∷ check 14 0 (not (admits dynamic (free_amount c.level a) w t))
    ∷ []

unfoldable pub booking_checks : List ℕ → ℕ → ℕ → ℕ → ℕ → List ℕ → List Check
booking_checks bytes date w a t buffer = record_checks bytes ++ amount_checks (terms_of bytes) date w a t buffer

-- "A booking fills 16 bytes: cash (4), penalty (4), balance (2), guarantee (2), four zeros."
unfoldable pub booking_bytes : Terms → ℕ → ℕ → ℕ → ℕ → List ℕ
booking_bytes c date w a t =
    let m = free_amount c.level a in
    bytes_of 4 (cash (rate_in c date) m t)
    ++ bytes_of 4 (penalty (rate_in c date) m t)
    ++ bytes_of 2 (balance_after w t)
    ++ bytes_of 2 (guarantee_after m w a t)
    ++ bytes_of 4 0

unfoldable pub booking_buffer : List ℕ → ℕ → ℕ → ℕ → ℕ → List ℕ → List ℕ
booking_buffer bytes date w a t buffer =
    on_success (verdict (booking_checks bytes date w a t buffer)) (booking_bytes (terms_of bytes) date w a t) buffer
