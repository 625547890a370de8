-- The two layers that the states of a date are decided in: the first holds what the date leaves, the second, at base, the
-- discounted sums of every balance and guarantee, times 8,192, so that a sum and the key of its cash add to a key. Assumes nothing.
use Rattle.std.specs.Prelude.{◌≡◌, ℕ, ◌+◌, ◌*◌, ◌/◌, ◌^◌, ◌<◌, ◌≤◌, List, length, slice_index}
use Rattle.std.proofs.Common.{ap, sym, subst, le_trans, le_of_eq, mul-le-mul_left, arith}
use Rattle.std.proofs.Math.Path.{fun_ext}
use Rattle.slices.specs.Stored.{stored, length_stored}
use Rattle.slices.specs.Rows.{cells, cells_kept, rows_le, rows_step}
use Rattle.laws.specs.Bounds.{entry_most}
use Rattle.keys.specs.declared.Date.{Date}
use Rattle.keys.specs.declared.Block.{Block}

-- the discounted sum of balance x and guarantee y
abbrev pub sums : List ℕ → Date → ℕ → ℕ → ℕ
sums work d x y = cells work d.base d.stride x y / 8192

-- two layers of n rows
pub record Sums (work : List ℕ) (d : Date) (n : ℕ) : Type 0 where
  pub few : n ≤ 4001
  pub width : d.stride ≤ 4001
  pub level_is : d.level < d.stride
  pub rate_is : d.rate ≤ 10000
  pub apart : n * d.stride ≤ d.base
  pub room : d.base + n * d.stride ≤ length work
  pub scaled : (x y : ℕ) → x < n → y < d.stride → cells work d.base d.stride x y ≡ 8192 * sums work d x y
  pub small : (x y : ℕ) → x < n → y < d.stride → sums work d x y ≤ entry_most

-- n states of account w, from guarantee `from` on
pub record Span (work : List ℕ) (d : Date) (s : Block) : Type 0 where
  pub layers : Sums work d (s.w + 1)
  pub short : s.n ≤ 512
  pub columns : s.from + s.n ≤ d.stride

-- n numbers from `at` on, each with `add` more, for the states from `low` on
pub record Copying (work : List ℕ) (low at n add : ℕ) : Type 0 where
  pub within : low + n ≤ 512
  pub room : at + n ≤ length work
  pub more : add < 2 ^ 62
  pub small : (i : ℕ) → i < n → slice_index work (at + i) < 2 ^ 62

-- what no number of the second layer passes
abbrev pub sum_most : ℕ
sum_most = 8192 * entry_most

module _ {work : List ℕ} {d : Date} {n : ℕ} (s : Sums work d n) where
  pub sum_small : (x y : ℕ) → x < n → y < d.stride → cells work d.base d.stride x y ≤ sum_most
  sum_small x y h l = le_trans (le_of_eq (s.scaled x y h l)) (mul-le-mul_left 8192 (s.small x y h l))

  -- a run of k entries of row x
  pub sum_in : (x y k : ℕ) → x < n → y + k ≤ d.stride → d.base + (x * d.stride + y) + k ≤ length work
  sum_in x y k h l = let m = rows_le d.stride (x + 1) n (omega arith) in omega (arith, rows_step d.stride x, s.room)

  pub row_in : (x y k : ℕ) → x < n → y + k ≤ d.stride → x * d.stride + y + k ≤ d.base
  row_in x y k h l = let m = rows_le d.stride (x + 1) n (omega arith) in omega (arith, rows_step d.stride x, s.apart)

  -- fewer rows
  pub sums_less : (m : ℕ) → m ≤ n → Sums work d m
  sums_less m h =
      let r = rows_le d.stride m n h in record {
        few = le_trans h s.few;
        width = s.width;
        level_is = s.level_is;
        rate_is = s.rate_is;
        apart = le_trans r s.apart;
        room = omega (arith, s.room);
        scaled = λ x y l k. s.scaled x y (omega arith) k;
        small = λ x y l k. s.small x y (omega arith) k;
      }

  -- .. in another slice of the same sums
  pub sums_moved : {work' : List ℕ} → length work' ≡ length work → cells work' d.base d.stride ≡ cells work d.base d.stride
      → Sums work' d n
  sums_moved long same = record {
    few = s.few;
    width = s.width;
    level_is = s.level_is;
    rate_is = s.rate_is;
    apart = s.apart;
    room = omega (arith, s.room);
    scaled = subst (λ (e : ℕ → ℕ → ℕ). (x y : ℕ) → x < n → y < d.stride → e x y ≡ 8192 * (e x y / 8192)) (sym same) s.scaled;
    small = subst (λ (e : ℕ → ℕ → ℕ). (x y : ℕ) → x < n → y < d.stride → e x y / 8192 ≤ entry_most) (sym same) s.small;
  }

  -- what is stored in the first layer leaves the second
  pub sums_kept : (at k : ℕ) (f : ℕ → ℕ) → at + k ≤ d.base → Sums (stored work at f k) d n
  sums_kept at k f h = sums_moved (length_stored work at f k) (cells_kept work at k d.base d.stride f h)

pub sums_as : (work work' : List ℕ) (d : Date) → cells work' d.base d.stride ≡ cells work d.base d.stride → sums work' d
    ≡ sums work d
sums_as work work' d same = fun_ext (λ x. fun_ext (λ y. ap (λ (e : ℕ → ℕ → ℕ). e x y / 8192) same))

pub sums_same : (work : List ℕ) (d : Date) (at k : ℕ) (f : ℕ → ℕ) → at + k ≤ d.base → sums (stored work at f k) d ≡ sums work d
sums_same work d at k f h = sums_as work (stored work at f k) d (cells_kept work at k d.base d.stride f h)
