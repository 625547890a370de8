-- Shares in halves, and rows that are shared in place, one after the other. Assumes nothing.
use mathlib.Core.List.{List}
use mathlib.Core.Logic.{inr}
use mathlib.Core.Path.{◌≡◌, refl, ap, ap₂, sym, ◌∙◌}
use Prim.Native.Nat.{ℕ, ◌+◌, ◌-◌, ◌*◌, ◌/◌, ◌%◌, ◌≤◌, ◌<◌, min, max}
use native.Mathlib.Nat.{le_trans, le_of_eq, zero-add, mul_assoc, mul_comm, mul-add, add-mul, mul-le-mul, div-add-mod}
use native.Mathlib.Decide.{dec_le}
use native.Mathlib.Omega.{arith}
use lib.ListN.{length, get_or}
use Rattle.rules.specs.Contract.{top_most, rate_most}
use Rattle.rules.specs.Date.{death_payment, death_share}
use Rattle.laws.specs.Date.{share_living, share_whole, shared}
use Rattle.laws.specs.Narrow.{low_most}
use Rattle.slices.specs.Stored.{stored, length_stored, stored_none, stored_out, stored_eq, stored_join, is_stored}
use Rattle.slices.specs.Rows.{cells, flat, layer_flat, rows_le, rows_step, row_next}
use Rattle.death.specs.Shared.{Halves, Run, Row, Rows}

-- ---- a quotient by two products
-- what the low half is rounded up by does not show
rounding_small : (hv lv qv rv ev : ℕ) → qv * 4294967296 ≡ hv * 10000 + rv → lv * 10000 ≡ rv * 4294967296 + ev → ev ≤ 9999 * low_most
    → (hv + lv / 4294967296) / 4294967296 ≡ qv / 10000
rounding_small hv lv qv rv ev e f l = omega arith

-- q × 2 ^ 64 / 10,000 rounded up, in halves, times v
two_halves : (q v high low : ℕ) → v ≤ low_most → high ≡ q * 4294967296 / 10000
    → low ≡ (q * 4294967296 % 10000 * 4294967296 + 9999) / 10000
    → (high * v + low * v / 4294967296) / 4294967296 ≡ q * v / 10000
two_halves q v high low small h l =
    let rem = q * 4294967296 % 10000 in
    let more = low * 10000 - rem * 4294967296 in
    let whole : q * 4294967296 ≡ high * 10000 + rem = let d = div-add-mod (q * 4294967296) 10000 in omega arith in
    let up : low * 10000 ≡ rem * 4294967296 + more = omega arith in
    let few : more ≤ 9999 = omega arith in
    rounding_small (high * v) (low * v) (q * v) (rem * v) (more * v)
    (times q 4294967296 v ∙ ap (λ (x : ℕ). x * v) whole ∙ add-mul (high * 10000) rem v ∙ ap (λ (x : ℕ). x + rem * v)
    (sym (times high 10000 v)))
    (times low 10000 v ∙ ap (λ (x : ℕ). x * v) up ∙ add-mul (rem * 4294967296) more v ∙ ap (λ (x : ℕ). x + more * v)
    (sym (times rem 4294967296 v)))
    (mul-le-mul few small)
  where
    times : (x b y : ℕ) → x * y * b ≡ x * b * y
    times x b y = mul_assoc x y b ∙ ap (λ (z : ℕ). x * z) (mul_comm y b) ∙ sym (mul_assoc x b y)

-- what is left of a value to the holder who lives
pub left_is : {rate high low : ℕ} → Halves rate high low → (v : ℕ) → v ≤ low_most
    → (high * v + low * v / 4294967296) / 4294967296 ≡ (10000 - rate) * v / 10000
left_is {rate} {high} {low} h v small = two_halves (10000 - rate) v high low small h.high_is h.low_is

-- the halves have 32 bits, and so do their products' sums 64
pub high_small : {rate high low : ℕ} → Halves rate high low → high ≤ 4294537799
high_small h = omega (arith, h.some, h.high_is)

pub low_small : {rate high low : ℕ} → Halves rate high low → low ≤ low_most
low_small h = omega (arith, h.low_is)

pub left_small : (rate v : ℕ) → v ≤ low_most → (10000 - rate) * v / 10000 ≤ low_most
left_small rate v small = let m = mul-le-mul {n₁ = 10000 - rate} {n₂ = 10000} (omega arith) small in omega arith

-- ---- one row, in two runs
-- what a run stores
abbrev pub shared_run : ℕ → ℕ → ℕ → List ℕ → ℕ → ℕ → ℕ
shared_run rate paid step work from j = paid + step * j + (10000 - rate) * get_or work (from + j) 0 / 10000

-- an entry that is not shared yet
pub entry_kept : {work' : List ℕ} (work : List ℕ) (from j : ℕ) (g : ℕ → ℕ) → work' ≡ stored work from g j
    → get_or work' (from + j) 0 ≡ get_or work (from + j) 0
entry_kept work from j g e = ap (λ (xs : List ℕ). get_or xs (from + j) 0) e ∙ stored_out work from g j (from + j) (inr (le_of_eq refl))

module _ {work : List ℕ} {rate stride w : ℕ} (is : rate ≤ rate_most) (r : Row work stride w) where
  cell_at : (a : ℕ) → get_or work (w * stride + a) 0 ≡ cells work 0 stride w a
  cell_at a = ap (λ (i : ℕ). get_or work i 0) (sym (zero-add (w * stride + a)))

  paid_most_lem : (n : ℕ) → n ≤ top_most + 1 → rate * n ≤ rate_most * (top_most + 1)
  paid_most_lem n l = mul-le-mul is l

  -- the states up to guarantee w, and those from there on
  pub low_run : (n : ℕ) → n ≡ min (w + 1) stride → Run work (w * stride) n (rate * w) 0
  low_run n e = record {
    few = omega (arith, r.width);
    paid_small = paid_most_lem w (omega (arith, r.account));
    step_small = omega arith;
    room = omega (arith, r.room);
    small = λ j l. le_trans (le_of_eq (cell_at j)) (r.small j (omega arith));
  }

  module _ (n : ℕ) (e : n ≡ min (w + 1) stride) {work₁ : List ℕ}
      (one : work₁ ≡ stored work (w * stride) (shared_run rate (rate * w) 0 work (w * stride)) n)
    where
      next_kept : (j : ℕ) → get_or work₁ (w * stride + n + j) 0 ≡ cells work 0 stride w (n + j)
      next_kept j =
          let same : w * stride + n + j ≡ w * stride + (n + j) = omega arith in
          ap (λ (xs : List ℕ). get_or xs (w * stride + n + j) 0) one
          ∙ stored_out work (w * stride) _ n (w * stride + n + j) (inr (omega arith))
          ∙ ap (λ (i : ℕ). get_or work i 0) same
          ∙ cell_at (n + j)

      pub high_run : Run work₁ (w * stride + n) (stride - n) (rate * n) rate
      high_run = record {
        few = omega (arith, r.width);
        paid_small = paid_most_lem n (omega (arith, r.width));
        step_small = is;
        room = let long = ap length one ∙ length_stored work (w * stride) _ n in omega (arith, r.room);
        small = λ j l. le_trans (le_of_eq (next_kept j)) (r.small (n + j) (omega arith));
      }

      -- the row, where both are shared
      pub two_runs : {work₂ : List ℕ}
          → work₂ ≡ stored work₁ (w * stride + n) (shared_run rate (rate * n) rate work₁ (w * stride + n)) (stride - n)
          → work₂ ≡ stored work (w * stride) (shared rate (cells work 0 stride) w) stride
      two_runs two =
          let f = shared rate (cells work 0 stride) w in
          two
          ∙ ap (λ (xs : List ℕ). stored xs (w * stride + n) (shared_run rate (rate * n) rate work₁ (w * stride + n)) (stride - n))
          (one ∙ stored_eq work (w * stride) _ f n lower)
          ∙ stored_join work (w * stride) f _ n (stride - n) upper
          ∙ ap (stored work (w * stride) f) (let s : n + (stride - n) ≡ stride = omega arith in s)
        where
          lower : (j : ℕ) → j < n → shared_run rate (rate * w) 0 work (w * stride) j ≡ shared rate (cells work 0 stride) w j
          lower j l =
              let m : max w j ≡ w = omega arith in
              sym (share_whole rate (cells work 0 stride w j) w j
              ∙ ap₂ (λ (x y : ℕ). x + (10000 - rate) * y / 10000) (ap (λ (z : ℕ). rate * z) m ∙ omega arith) (sym (cell_at j)))

          upper : (j : ℕ) → j < stride - n
              → shared_run rate (rate * n) rate work₁ (w * stride + n) j ≡ shared rate (cells work 0 stride) w (n + j)
          upper j l =
              let m : max w (n + j) ≡ n + j = omega arith in
              sym (share_whole rate (cells work 0 stride w (n + j)) w (n + j)
              ∙ ap₂ (λ (x y : ℕ). x + (10000 - rate) * y / 10000) (ap (λ (z : ℕ). rate * z) m ∙ mul-add rate n j) (sym (next_kept j)))

-- ---- row after row
module _ {work : List ℕ} {rate stride n : ℕ} (s : Rows work rate stride n) where
  -- the rows before w are shared, and w is not yet
  module _ (w : ℕ) (l : w < n) (g : ℕ → ℕ) {work' : List ℕ} (e : work' ≡ stored work 0 g (w * stride)) where
    row_kept : (a : ℕ) → cells work' 0 stride w a ≡ cells work 0 stride w a
    row_kept a = ap (λ (xs : List ℕ). cells xs 0 stride w a) e ∙ stored_out work 0 g (w * stride) _ (inr (omega arith))

    pub row_of : Row work' stride w
    row_of =
        let k = rows_le stride (w + 1) n (omega arith) in
        let long = ap length e ∙ length_stored work 0 g (w * stride) in record {
          account = omega (arith, s.few);
          width = s.width;
          room = omega (arith, rows_step stride w, s.room);
          small = λ a h. le_trans (le_of_eq (row_kept a)) (s.small w a l h);
        }

    pub row_shared : (a : ℕ) → shared rate (cells work' 0 stride) w a ≡ shared rate (cells work 0 stride) w a
    row_shared a = ap (λ (x : ℕ). death_share rate x (death_payment w a 0)) (row_kept a)

-- one row more
pub share_step : (work : List ℕ) (rate stride n : ℕ) → Rows work rate stride n → (w : ℕ) → w < n → (work' : List ℕ)
    → work' ≡ stored work 0 (flat stride (shared rate (cells work 0 stride))) (w * stride)
    → stored work' (w * stride) (shared rate (cells work' 0 stride) w) stride
    ≡ stored work 0 (flat stride (shared rate (cells work 0 stride))) ((w + 1) * stride)
share_step work rate stride n s w l work' e =
    stored_eq work' (w * stride) _ _ stride (λ a h. row_shared s w l _ e a)
    ∙ ap (λ (xs : List ℕ). stored xs (w * stride) (shared rate (cells work 0 stride) w) stride) e
    ∙ row_next work stride w (shared rate (cells work 0 stride)) _ (λ a h. refl)

-- at rate 0 every value is its own share
pub shared_none : (work : List ℕ) (rate stride n : ℕ) → n * stride ≤ length work → rate ≡ 0
    → work ≡ stored work 0 (flat stride (shared rate (cells work 0 stride))) (n * stride)
shared_none work rate stride n room none = go (dec_le 1 stride)
  where
    same : (w a : ℕ) → cells work 0 stride w a ≡ shared rate (cells work 0 stride) w a
    same w a =
        sym (ap (λ (r : ℕ). death_share r (cells work 0 stride w a) (death_payment w a 0)) none
        ∙ share_living (cells work 0 stride w a) (death_payment w a 0))

    go : Dec (1 ≤ stride) → work ≡ stored work 0 (flat stride (shared rate (cells work 0 stride))) (n * stride)
    go (yes some) =
        is_stored work work 0 _ (n * stride) refl (omega arith)
        (λ k l.
        ap (λ (i : ℕ). get_or work i 0) (zero-add k)
        ∙ layer_flat work stride n (shared rate (cells work 0 stride)) some (record { cell = λ w a i j. same w a }) k l)
        (λ j o. refl)
    go (no h) =
        let e : stride ≡ 0 = omega arith in
        let none : n * stride ≡ 0 * stride = rw e (omega arith) in
        rw none (stored_none work 0 _ stride)
