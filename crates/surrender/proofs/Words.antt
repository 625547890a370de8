-- What the loops over the parts of a word and over the words of a map hold. Assumes nothing.
use mathlib.Core.Bool.{Bool}
use mathlib.Core.List.{List, ◌++◌}
use mathlib.Core.Path.{◌≡◌, refl, ap, ap₂, sym, ◌∙◌, subst, fun_ext}
use Prim.Native.Nat.{ℕ, ◌+◌, ◌-◌, ◌*◌, ◌%◌, ◌^◌, ◌≤◌, ◌<◌, min}
use native.Mathlib.Nat.{pow-le-pow_right, add-zero, add_assoc, mul_comm, mod-eq_of_lt}
use native.Mathlib.Omega.{arith}
use lib.ListN.{length, set, drop}
use borrow.Rule.Slice.PartMut.{mid_of, mid_len}
use Rattle.decision.specs.Index.{sum, sum_next}
use Rattle.decision.specs.Bits.{from_bits, words_for, bits_in, word_of, words_of, ones}
use Rattle.decision.proofs.Bits.{bits_lt, bits_append, words_count}
use Rattle.slices.specs.Stored.{stored, stored_push, stored_front}
use Rattle.rules.specs.Contract.{Terms}
use Rattle.rules.specs.FixedTerm.{layer_size, fixed_term, process_of, layout_of}
use Rattle.rules.specs.Map.{surrendered, surrender_map, surrender_count, map_size}
use Rattle.surrender.specs.declared.State.{State}
use Rattle.surrender.specs.declared.Run.{Run}
use Rattle.surrender.specs.Mapped.{state_of, draws, Open, Wording, Worded}
use Rattle.surrender.proofs.States.{state_at_lem, account_le, guarantee_le, part_bits}
use Rattle.laws.specs.Terms.{table_size, frame}
use Rattle.rules.specs.Product.{entries}

-- what the loop over the parts of a word holds: k of n entries are taken
pub record Taken (c : Terms) (table : List ℕ) (from n bits : ℕ) (next : State) (k : ℕ) : Type 0 where
  pub some : k ≤ n
  pub bits_are : bits ≡ from_bits (λ i. surrendered (frame c) table (from + i)) k
  pub next_is : next ≡ state_of c (from + k)
  pub inside : next.guarantee ≤ c.premium

pub taken_none : (c : Terms) (table : List ℕ) (from n : ℕ) (at : State) → at ≡ state_of c from → Taken c table from n 0 at 0
unfolding from_bits sum
taken_none c table from n at same = record {
  some = omega arith;
  bits_are = refl;
  next_is = same ∙ ap (state_of c) (sym (add-zero from));
  inside = subst (λ (s : State). s.guarantee ≤ c.premium) (sym same) (guarantee_le c from);
}

-- one part more: as many entries as the word still takes and the row still has
pub record Part (c : Terms) (table : List ℕ) (from n bits k part : ℕ) (next : State) : Type 0 where
  pub taken : Taken c table from n bits next k
  pub few : n ≤ 64
  pub room : from + n ≤ length table
  pub more : k < n
  pub size : part ≡ min (n - k) (c.premium + 1 - next.guarantee)

module _ {c : Terms} {table : List ℕ} {from n bits k part : ℕ} {next : State} (h : Part c table from n bits k part next) where
  pub next_within : next.account ≤ c.top
  next_within = subst (λ (s : State). s.account ≤ c.top) (sym h.taken.next_is) (account_le c (from + k))

  pub part_some : 1 ≤ part
  part_some = omega (arith, h.size, h.more, h.taken.inside)

  pub part_within : k + part ≤ n
  part_within = omega (arith, h.size, h.more)

  pub part_inside : next.guarantee + part ≤ c.premium + 1
  part_inside = omega (arith, h.size, h.taken.inside)

  -- of which the first r may surrender
  module _ {r : ℕ} (o : Open c.level next part r) where
    pub part_room : from + k + r ≤ length table
    part_room = omega (arith, part_within, o.within, h.room)

    abbrev pub row : List ℕ
    row = mid_of (from + k) (from + k + r - (from + k)) table

    pub row_long : length row ≡ r
    row_long = mid_len (from + k) (from + k + r) table part_room ∙ omega arith

    row_is : from_bits (draws row next.account) (length row) ≡ from_bits (λ i. surrendered (frame c) table (from + (k + i))) part
    row_is =
        let e : from + k + r - (from + k) ≡ r = omega arith in
        let same : ◌≡◌ {A = ℕ → Bool} (λ i. surrendered (frame c) table (from + k + i))
        (λ i. surrendered (frame c) table (from + (k + i))) =
        fun_ext (λ i. ap (surrendered (frame c) table) (add_assoc from k i)) in
        ap (from_bits (draws row next.account)) row_long
        ∙ ap (λ (m : ℕ). from_bits (draws (mid_of (from + k) m table) next.account) r) e
        ∙ part_bits c table (from + k) part r next h.taken.next_is part_inside o
        ∙ ap (λ (g : ℕ → Bool). from_bits g part) same

    -- its bits, moved up by k, join those that are there
    module _ {x : ℕ} (x_is : x ≡ from_bits (draws row next.account) (length row)) where
      joined : bits + x * 2 ^ k ≡ from_bits (λ i. surrendered (frame c) table (from + i)) (k + part)
      joined =
          let f : ℕ → Bool = λ i. surrendered (frame c) table (from + i) in
          ap₂ (λ (a b : ℕ). a + b * 2 ^ k) h.taken.bits_are (x_is ∙ row_is)
          ∙ ap (λ (y : ℕ). from_bits f k + y) (mul_comm (from_bits (λ i. f (k + i)) part) (2 ^ k))
          ∙ sym (bits_append f k part)

      fits : bits + x * 2 ^ k < 2 ^ 64
      fits =
          let l = bits_lt (λ i. surrendered (frame c) table (from + i)) (k + part) in
          let most : k + part ≤ 64 = omega (arith, part_within, h.few) in
          let p : 2 ^ (k + part) ≤ 2 ^ 64 = pow-le-pow_right (omega arith) most in
          rw joined (omega arith)

      pub added : bits + x * 2 ^ k % 18446744073709551616 ≡ from_bits (λ i. surrendered (frame c) table (from + i)) (k + part)
      added =
          let l = fits in
          let m : x * 2 ^ k % 18446744073709551616 ≡ x * 2 ^ k = mod-eq_of_lt (omega arith) in
          rw m joined

      pub added_fits : bits + x * 2 ^ k % 18446744073709551616 < 2 ^ 64
      added_fits = let l = fits in let e = added in let j = joined in omega arith

      pub taken_more : {next' : State} → next' ≡ state_of c (from + k + part)
          → Taken c table from n (bits + x * 2 ^ k % 18446744073709551616) next' (k + part)
      taken_more same =
          let here = same ∙ ap (state_of c) (add_assoc from k part) in record {
            some = part_within;
            bits_are = added;
            next_is = here;
            inside = subst (λ (s : State). s.guarantee ≤ c.premium) (sym here) (guarantee_le c (from + (k + part)));
          }

-- a run fits a word
pub run_fits : {c : Terms} {table : List ℕ} {from n : ℕ} {r : Run} → Worded c table from n r → n ≤ 64 → r.bits < 2 ^ 64
run_fits {c} {table} {from} {n} w few =
    let l = bits_lt (λ k. surrendered (frame c) table (from + k)) n in
    let p : 2 ^ n ≤ 2 ^ 64 = pow-le-pow_right (omega arith) few in
    omega (arith, w.bits_are)

-- what the loop over the words holds: j of them are filled
pub record Filled (c : Terms) (table map : List ℕ) (at : State) (count : ℕ) (map' : List ℕ) (j : ℕ) : Type 0 where
  pub some : j ≤ map_size (frame c)
  pub map_is : map' ≡ stored map 0 (word_of (surrendered (frame c) table) (table_size c)) j
  pub count_is : count ≡ sum (λ i. ones (word_of (surrendered (frame c) table) (table_size c) i)) j
  pub few : count ≤ 64 * j
  pub at_is : at ≡ state_of c (min (table_size c) (64 * j))

pub filled_none : (c : Terms) (table map : List ℕ) → Filled c table map (record { account = 0; guarantee = 0 }) 0 map 0
unfolding stored sum
filled_none c table map = record {
  some = omega arith;
  map_is = refl;
  count_is = refl;
  few = omega arith;
  at_is =
      let e : min (table_size c) (64 * 0) ≡ 0 * layer_size c + (0 * (c.premium + 1) + 0) = omega arith in
      sym (ap (state_of c) e ∙ state_at_lem c 0 0 0 (omega arith) (omega arith));
}

module _ {c : Terms} {table map map' : List ℕ} {at : State} {count j : ℕ} (d : Filled c table map at count map' j)
    (more : j < map_size (frame c))
  where
    -- the word has entries
    pub word_some : 64 * j < table_size c
    unfolding map_size words_for entries table_size fixed_term process_of layout_of
    word_some = omega arith

    pub wording : {n : ℕ} → n ≡ bits_in (table_size c) j → table_size c ≤ length table → Wording c table (64 * j) n at
    wording {n} e room =
        let l = word_some in
        let here : min (table_size c) (64 * j) ≡ 64 * j = omega arith in
        record { few = omega arith; room = omega arith; within = omega arith; begins = d.at_is ∙ ap (state_of c) here }

    pub filled_more : {n set_bits_lem : ℕ} {r : Run} → n ≡ bits_in (table_size c) j → Worded c table (64 * j) n r
        → set_bits_lem ≡ ones r.bits → set_bits_lem ≤ 64
        → Filled c table map r.next (count + set_bits_lem) (set map' j r.bits) (j + 1)
    unfolding word_of
    filled_more {n} {set_bits_lem} {r} e w o l =
        let f = word_of (surrendered (frame c) table) (table_size c) in
        let bits : r.bits ≡ f j = w.bits_are ∙ ap (from_bits (λ k. surrendered (frame c) table (64 * j + k))) e in
        let size = table_size c in
        let has = word_some in
        let behind : 64 * j + n ≡ min size (64 * (j + 1)) = omega arith in
        record {
          some = omega arith;
          map_is = (λ i. set (d.map_is i) j (bits i)) ∙ stored_push map f j;
          count_is = ap₂ ◌+◌ d.count_is (o ∙ ap ones bits) ∙ sym (sum_next (λ i. ones (f i)) j);
          few = omega (arith, d.few);
          at_is = w.ends ∙ ap (state_of c) behind;
        }

-- all the words
module _ {c : Terms} {table map map' : List ℕ} {at : State} {count j : ℕ} (d : Filled c table map at count map' j)
    (done : map_size (frame c) ≤ j)
  where
    all : j ≡ map_size (frame c)
    all = omega (arith, d.some)

    pub filled_count : count ≡ surrender_count (frame c) table
    unfolding surrender_count map_size entries table_size fixed_term process_of layout_of
    filled_count =
        d.count_is
        ∙ ap (sum (λ i. ones (word_of (surrendered (frame c) table) (table_size c) i))) all
        ∙ words_count (surrendered (frame c) table) (table_size c)

    pub filled_map : map_size (frame c) ≤ length map → map' ≡ surrender_map (frame c) table ++ drop (map_size (frame c)) map
    unfolding surrender_map map_size words_of entries table_size fixed_term process_of layout_of
    filled_map room =
        d.map_is ∙ ap (stored map 0 (word_of (surrendered (frame c) table) (table_size c))) all
        ∙ stored_front map _ (map_size (frame c)) room
