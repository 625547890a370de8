-- Numbers written by their bytes. Assumes nothing.
use Rattle.std.proofs.Common.{◌≡◌, List, [], ◌∷◌, ◌/◌, ◌%◌, ℕ, ap, sym, ◌∙◌, length, drop, length-drop, arith}
use Rattle.std.specs.Prelude.{replicate}
use Rattle.std.proofs.lemmas.List.{length-replicate}
use Rattle.std.proofs.Math.ListN.{drop_of_length-le}
use Rattle.std.specs.Int.{w16, w32, to_le_bytes}
use Rattle.rules.specs.Contract.{bytes_of}

pub two_bytes : (x : ℕ) → to_le_bytes w16 x ≡ bytes_of 2 x
unfolding bytes_of
two_bytes x = λ i. x % 256 ∷ x / 256 % 256 ∷ []

pub four_bytes : (x : ℕ) → to_le_bytes w32 x ≡ bytes_of 4 x
unfolding bytes_of
four_bytes x =
    let third : x / 65536 % 256 ≡ x / 256 / 256 % 256 = omega arith in
    let fourth : x / 16777216 % 256 ≡ x / 256 / 256 / 256 % 256 = omega arith in
    rw (third, fourth)

-- four bytes, each filled with 0
pub four_zeros : {ys : List ℕ} (n : ℕ) → ys ≡ replicate n 0 → length ys ≡ 4 → ys ≡ 0 ∷ 0 ∷ 0 ∷ 0 ∷ []
four_zeros {ys} n e four =
    e ∙ ap (λ (m : ℕ). replicate m 0) (sym (length-replicate {A = ℕ} n 0) ∙ sym (ap length e) ∙ four)

-- nothing stands behind the sixteenth byte
pub end_of : (l : List ℕ) → length l ≡ 16 → drop 4 (drop 2 (drop 2 (drop 4 (drop 4 l)))) ≡ []
end_of l e = drop_of_length-le (drop 2 (drop 2 (drop 4 (drop 4 l)))) {i = 4} (simp length-drop (omega arith))
