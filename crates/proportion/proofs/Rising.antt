-- Rows that rise with the guarantee. Assumes nothing.
use Rattle.std.proofs.Common.{◌≡◌, ℕ, zero, suc, ◌+◌, ◌-◌, ◌*◌, ◌<◌, ◌≤◌, List, get_or, ap, subst, subst₂, le_trans, le_of_eq, arith}
use native.Mathlib.Decide.{dec_le}
use Rattle.slices.specs.Rows.{cells}
use Rattle.proportion.specs.Share.{Ascending, Rising}

-- ---- one row after the other
pub rising_none : (e : ℕ → ℕ → ℕ) (stride : ℕ) → Rising e stride 0
rising_none e stride = record { step = λ x y h l. absurd (omega arith) }

pub rising_next : {e : ℕ → ℕ → ℕ} {stride : ℕ} (x : ℕ) → Rising e stride x → ((y : ℕ) → y + 1 < stride → e x y ≤ e x (y + 1))
    → Rising e stride (x + 1)
rising_next {e} {stride} x r last = record { step = λ z y h l. go z y h l (dec_le (z + 1) x) }
  where
    go : (z y : ℕ) → z < x + 1 → y + 1 < stride → Dec (z + 1 ≤ x) → e z y ≤ e z (y + 1)
    go z y h l (yes m) = r.step z y (omega arith) l
    go z y h l (no m) = let s : z ≡ x = omega arith in rw s (last y l)

pub row_rises : (work : List ℕ) (base stride x steps : ℕ) → steps ≡ stride - 1 → Ascending work (base + x * stride) steps
    → (y : ℕ) → y + 1 < stride → cells work base stride x y ≤ cells work base stride x (y + 1)
row_rises work base stride x steps e h y l =
    let p : base + x * stride + y ≡ base + (x * stride + y) = omega arith in
    let q : base + x * stride + y + 1 ≡ base + (x * stride + (y + 1)) = omega arith in
    subst₂ (λ (u v : ℕ). get_or work u 0 ≤ get_or work v 0) p q (h y (omega arith))

pub row_ascends : (work : List ℕ) (base stride x n steps : ℕ) → steps ≡ stride - 1 → Rising (cells work base stride) stride n → x < n
    → Ascending work (base + x * stride) steps
row_ascends work base stride x n steps e r l i k =
    let p : base + (x * stride + i) ≡ base + x * stride + i = omega arith in
    let q : base + (x * stride + (i + 1)) ≡ base + x * stride + i + 1 = omega arith in
    subst₂ (λ (u v : ℕ). get_or work u 0 ≤ get_or work v 0) p q (r.step x i l (omega arith))

pub rising_le : {e : ℕ → ℕ → ℕ} {stride n : ℕ} → Rising e stride n → (x y z : ℕ) → x < n → y ≤ z → z < stride → e x y ≤ e x z
rising_le {e} r x y zero h k l = le_of_eq (ap (e x) (let q : y ≡ 0 = omega arith in q))
rising_le {e} {stride} {n} r x y (suc z) h k l = go (dec_le y z) (λ m. rising_le r x y z h m (omega arith))
  where
    go : Dec (y ≤ z) → (y ≤ z → e x y ≤ e x z) → e x y ≤ e x (suc z)
    go (yes m) before = let up : z + 1 ≡ suc z = omega arith in
        le_trans (before m) (subst (λ (q : ℕ). e x z ≤ e x q) up (r.step x z h (omega arith)))
    go (no m) before = le_of_eq (ap (e x) (let q : y ≡ suc z = omega arith in q))
