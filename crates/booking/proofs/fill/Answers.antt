-- `booking::fill` meets its contract. Assumes nothing.
use Rattle.std.proofs.Common.{List, ◌++◌, ◌∷◌, ◌≡◌, ℕ, ap, sym, length, arith}
use Rattle.std.specs.Int.{w16, w32, to_le_bytes}
use Rattle.booking.proofs.Laws.{two_bytes, four_bytes, four_zeros, end_of}
use Rattle.booking.proofs.fill.Goals as goal

pub returns : goal.returns
returns c =
    let x = c.args in
    let four : length c.fill.new.self ≡ 4 = omega arith in
    let zeros = four_zeros _ (c.fill.ensures.after (λ y e. e)) four in
    rw (c.copy_from_slice.ensures.after, c.copy_from_slice-2.ensures.after, c.copy_from_slice-3.ensures.after)
    (rw (c.copy_from_slice-4.ensures.after, zeros)
    (rw (c.to_le_bytes.ensures, c.to_le_bytes-2.ensures, c.to_le_bytes-3.ensures, c.to_le_bytes-4.ensures)
    (rw (sym (four_bytes x.cash), sym (four_bytes x.penalty), sym (two_bytes x.balance), sym (two_bytes x.guarantee), sym (four_bytes 0))
    (ap (λ (end : List ℕ). to_le_bytes w32 x.cash ++ to_le_bytes w32 x.penalty ++ to_le_bytes w16 x.balance
    ++ to_le_bytes w16 x.guarantee ++ 0 ∷ 0 ∷ 0 ∷ 0 ∷ end) (end_of x.buffer.now c.requires.sixteen)))))
