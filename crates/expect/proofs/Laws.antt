-- A row of discounted sums: what is read is not what is written, and every sum fits. Assumes nothing.
use mathlib.Core.List.{List}
use mathlib.Core.Logic.{inl, inr}
use mathlib.Core.Path.{◌≡◌, refl, ap, ap₂, sym, ◌∙◌, subst}
use Prim.Native.Nat.{ℕ, zero, suc, ◌+◌, ◌*◌, ◌%◌, ◌≤◌, ◌<◌}
use native.Mathlib.Nat.{le_trans, le_of_eq, mul-le-mul, mul-one, zero-add, mod-eq_of_lt}
use native.Mathlib.Omega.{arith}
use lib.ListN.{get_or, length}
use Rattle.decision.specs.Index.{sum, sum_eq, sum_next, sum_term, weighted_le}
use Rattle.slices.specs.Stored.{stored, length_stored, stored_out, stored_first, stored_join}
use Rattle.slices.specs.Rows.{cells, flat, flat_at, within_rows, rows_le, rows_step}
use Rattle.rules.specs.Contract.{Terms, Returns, returns_of, top_most, rate_most, factor_most, weight_total, weight_most}
use Rattle.rules.specs.Date.{next_account, excess_paid, death_payment, death_share, discounted}
use Rattle.rules.specs.FixedTerm.{mean_by_list, layer_size}
use Rattle.laws.specs.Bounds.{state_most, value_room, value_most_lem, entry_most}
use Rattle.laws.specs.Narrow.{low_most, value_narrow}
use Rattle.laws.specs.Date.{shared, shared_le}
use Rattle.laws.specs.Accepted.{ValidReturns}
use Rattle.returns.specs.Grouped.{Grouped}
use Rattle.returns.specs.declared.Groups.{Groups}
use Rattle.expect.specs.Expected.{expected, reached_from, expected_listed, expected_le, expected_same, state_sum, two_sums}
use Rattle.expect.specs.Expected.{paid_sum_le, scaled, term, product_most, Reached, Run, Adding, Summed, Row, Layers, Values, Within}
use Rattle.expect.specs.Expected.{Balance, Starting}

-- ---- sums along the guarantees
-- a product is small
pub product_small : {x y : ℕ} → x ≤ weight_most → y ≤ low_most → x * y ≤ product_most
product_small h l = mul-le-mul {n₂ = weight_most} {m₂ = low_most} h l

pub sum_four : (f : ℕ → ℕ) (k : ℕ) → sum f (k + 4) ≡ sum f k + (f k + f (k + 1) + f (k + 2) + f (k + 3))
sum_four f k =
    let one = sum_next f k in
    let two : sum f (k + 2) ≡ sum f (k + 1) + f (k + 1) = next (k + 2) (k + 1) (omega arith) in
    let three : sum f (k + 3) ≡ sum f (k + 2) + f (k + 2) = next (k + 3) (k + 2) (omega arith) in
    let four : sum f (k + 4) ≡ sum f (k + 3) + f (k + 3) = next (k + 4) (k + 3) (omega arith) in
    omega arith
  where
    next : (n m : ℕ) → n ≡ m + 1 → sum f n ≡ sum f m + f m
    next n m e = ap (sum f) e ∙ sum_next f m

pub twice_four : (f : ℕ → ℕ) (k x y : ℕ) → sum f (k + 4) ≡ sum f k + x → sum f (k + 4 + 4) ≡ sum f (k + 4) + y
    → sum f (k + 8) ≡ sum f k + (x + y)
twice_four f k x y p q = let e : sum f (k + 4 + 4) ≡ sum f (k + 8) = ap (sum f) (omega arith) in omega arith

-- a number of 32 bits is its low part
pub low_part : {x : ℕ} → x ≤ low_most → x % 4294967296 ≡ x
low_part h = mod-eq_of_lt (omega arith)

module _ {work : List ℕ} {gs : Groups} {count from n : ℕ} (r : Run work gs count from n) where
  sum_small : (j k : ℕ) → j < n → k ≤ count → sum (term work gs (from + j)) k ≤ product_most * k
  unfolding sum
  sum_small j zero l h = omega arith
  sum_small j (suc k) l h =
      let before = sum_small j k l (omega arith) in
      let x = r.reached k j (omega arith) l in
      let last = product_small x.light x.small in
      omega arith

  -- fewer returns
  pub run_part : (k : ℕ) → k ≤ count → Run work gs k from n
  run_part k h = record { few = omega (arith, r.few); short = r.short; reached = λ i j g p. r.reached i j (omega arith) p }

  -- sums over some returns have room for one product more
  pub summed_adding : {sums : List ℕ} {k : ℕ} → Summed work gs sums from n k → gs.paid ≤ product_most → k ≤ count
      → Adding sums n k
  summed_adding {k = k} s few h = record {
    small = λ j l. let x = sum_small j k l h in omega (arith, s.each j l);
  }

-- a list filled from its front
pub filled : {xs : List ℕ} (l : List ℕ) (f : ℕ → ℕ) (n : ℕ) → xs ≡ stored l 0 f n → n ≤ length l
    → (k : ℕ) → k < n → get_or xs k 0 ≡ f k
filled l f n e fits k h = ap (λ (z : List ℕ). get_or z k 0) e ∙ stored_first l f n k fits h

-- n entries stored: whatever stood there ..
pub summed : {work sums' : List ℕ} {gs : Groups} {from n k : ℕ} (sums : List ℕ)
    → sums' ≡ stored sums 0 (λ i. gs.paid + sum (term work gs (from + i)) k) n → n ≤ length sums → Summed work gs sums' from n k
summed {n = n} sums e fits = record { each = λ i l. filled sums _ n e fits i l }

-- .. or what later returns add to the sums that stood there
pub summed_more : {work sums sums' : List ℕ} {gs : Groups} {from n k : ℕ} (k' : ℕ) (g : ℕ → ℕ)
    → Summed work gs sums from n k → sums' ≡ stored sums 0 (λ j. get_or sums j 0 + g j) n → n ≤ length sums
    → ((j : ℕ) → sum (term work gs (from + j)) k' ≡ sum (term work gs (from + j)) k + g j) → Summed work gs sums' from n k'
summed_more {sums = sums} {n = n} k' g s e fits more = record {
  each = λ j l. let x = filled sums _ n e fits j l in omega (arith, s.each j l, more j);
}

-- an entry that is not added to yet
pub kept_yet : {sums' : List ℕ} (sums : List ℕ) (f : ℕ → ℕ) (j : ℕ) → sums' ≡ stored sums 0 f j → get_or sums' j 0 ≡ get_or sums j 0
kept_yet sums f j e = ap (λ (xs : List ℕ). get_or xs j 0) e ∙ stored_out sums 0 f j j (inr (le_of_eq (zero-add j)))

module _ {work : List ℕ} {gs : Groups} {most to stride : ℕ} (r : Row work gs most to stride) where
  -- the rows that are read lie before the row that is written
  row_kept : (g : ℕ → ℕ) (n k a : ℕ) → k < gs.count → a < stride
      → get_or (stored work to g n) (get_or gs.starts k 0 + a) 0 ≡ get_or work (get_or gs.starts k 0 + a) 0
  row_kept g n k a m l = stored_out work to g n (get_or gs.starts k 0 + a) (inl (let b = r.below k m in omega arith))

  pub row_sum : (g : ℕ → ℕ) (n a : ℕ) → a < stride
      → sum (term (stored work to g n) gs a) gs.count ≡ sum (term work gs a) gs.count
  row_sum g n a l = sum_eq _ _ gs.count (λ k m. ap (λ (x : ℕ). get_or gs.weights k 0 * x) (row_kept g n k a m l))

  -- n guarantees more
  pub row_more : (discount : ℕ) {work' work'' : List ℕ} (from n : ℕ) → from + n ≤ stride
      → work' ≡ stored work to (λ a. 8192 * discounted discount (gs.paid + sum (term work gs a) gs.count)) from
      → work'' ≡ stored work' (to + from) (λ j. 8192 * discounted discount (gs.paid + sum (term work' gs (from + j)) gs.count)) n
      → work'' ≡ stored work to (λ a. 8192 * discounted discount (gs.paid + sum (term work gs a) gs.count)) (from + n)
  row_more discount from n h e f =
      let value : ℕ → ℕ = λ s. 8192 * discounted discount (gs.paid + s) in
      let total : List ℕ → ℕ → ℕ = λ xs j. sum (term xs gs (from + j)) gs.count in
      f ∙ ap (λ (xs : List ℕ). stored xs (to + from) (λ j. value (total xs j)) n) e
      ∙ stored_join work to _ _ from n (λ j l. ap value (row_sum _ from (from + j) (omega arith)))

  pub row_reached : (k a : ℕ) → k < gs.count → a < stride → Reached work gs a k
  row_reached k a m l = record {
    light = r.light k m;
    within = let b = r.below k m in omega (arith, r.room);
    small = le_trans (r.small k a m l) r.most_is;
  }

  pub row_sum_le : (a : ℕ) → a < stride → sum (term work gs a) gs.count ≤ weight_total * most
  row_sum_le a l = weighted_le (λ k. get_or gs.weights k 0) _ gs.count r.total (λ k m. r.small k a m l)

  -- the first m guarantees, some of the row filled
  pub row_part : (work' : List ℕ) (g : ℕ → ℕ) (n m : ℕ) → work' ≡ stored work to g n → m ≤ stride
      → Row work' gs most to m
  row_part work' g n m e h = record {
    eights = r.eights;
    most_is = r.most_is;
    paid_small = r.paid_small;
    sums_small = r.sums_small;
    total = r.total;
    light = r.light;
    small = λ k a l p.
        rw (ap (λ (xs : List ℕ). get_or xs (get_or gs.starts k 0 + a) 0) e ∙ row_kept g n k a l (omega arith))
        (r.small k a l (omega arith));
    below = λ k l. let b = r.below k l in omega arith;
    room = let l = ap length e ∙ length_stored work to g n in omega (arith, r.room);
  }

-- the last n guarantees of a row
pub row_run : {work : List ℕ} {gs : Groups} {most to : ℕ} (from n : ℕ)
    → Row work gs most to (from + n) → n ≤ 512
    → Run work gs gs.count from n
row_run {gs = gs} from n r h = record {
  few = gs.few;
  short = h;
  reached = λ k j l m. row_reached r k (from + j) l (omega arith);
}

-- the row of a balance in the second layer
pub row_room : {c : Terms} {work : List ℕ} (b : ℕ) → Layers c work → b ≤ c.top
    → (c.top + 1) * (c.premium + 1) + b * (c.premium + 1) + (c.premium + 1) ≤ length work
unfolding layer_size
row_room {c} b v top =
    let l = rows_le (c.premium + 1) (b + 1) (c.top + 1) (omega arith) in omega (arith, rows_step (c.premium + 1) b, v.room)

-- ---- the row of one balance
module _ {c : Terms} {i : ℕ} {rs : Returns} {work : List ℕ} (gs : Groups) {discount most balance stride size : ℕ}
    (b : Balance c i rs work discount most balance stride size)
    (g : Grouped c rs balance stride gs.starts gs.weights gs.count gs.paid)
  where
    -- a row of the first layer ends within it
    reached_within : (x : ℕ) → x ≤ c.top → x * stride + stride ≤ size
    reached_within x l = let m = rows_le stride (x + 1) (c.top + 1) (omega arith) in omega (arith, rows_step stride x, b.size_is)

    -- what is paid on arrival
    paid_le : gs.paid ≤ weight_total * (20000 * c.top)
    paid_le = le_trans (le_of_eq g.paid_is) (paid_sum_le c rs balance b.returns b.balance_is)

    -- .. and with it the values of the layer
    most_room : 20000 * c.top + most ≤ entry_most
    most_room = rw b.most_is (le_trans (value_room c b.layers.valid (i + 1) (omega arith)) (value_most_lem b.layers.valid))

    most_low : most ≤ low_most
    most_low = let low = value_narrow c b.layers.valid (i + 1) (omega arith) in omega (arith, b.most_is)

    balance_room : size + balance * stride + stride ≤ length work
    balance_room = rw (b.size_is, b.stride_is) (row_room balance b.layers b.balance_is)

    -- the groups weigh what the returns weigh
    total : sum (λ k. get_or gs.weights k 0) gs.count ≡ weight_total
    total =
        sum_eq _ _ gs.count (λ k l. sym (mul-one (get_or gs.weights k 0)))
        ∙ g.sums (λ x. 1)
        ∙ sum_eq _ _ rs.count (λ k l. mul-one (rs.weight k))
        ∙ b.returns.total

    -- where the entry of an account stands
    place : (w a : ℕ) → 0 + (w * (c.premium + 1) + a) ≡ w * stride + a
    place w a = zero-add _ ∙ ap (λ (x : ℕ). w * x + a) (sym b.stride_is)

    pub balance_row : Row work gs most (size + balance * stride) stride
    balance_row = record {
      eights = record { some = g.some; whole = g.eights };
      most_is = most_low;
      paid_small = omega (arith, paid_le, b.layers.valid.top);
      sums_small = omega (arith, paid_le, most_room);
      total = total;
      light = λ k l. let one = sum_term (λ j. get_or gs.weights j 0) gs.count k l in omega (arith, total);
      small = λ k a l m.
          let r = g.rows k l in
          rw r.start
          (subst (λ (z : ℕ). get_or work z 0 ≤ most) (place r.account a)
          (b.small r.account a r.within (omega (arith, b.stride_is))));
      below = λ k l. let r = g.rows k l in let m = reached_within r.account r.within in rw r.start (omega arith);
      room = balance_room;
    }

    states_are : (a : ℕ) → sum (term work gs a) gs.count ≡ state_sum c rs (cells work 0 (c.premium + 1)) balance a
    unfolding state_sum
    states_are a =
        g.sums (λ x. get_or work (x + a) 0)
        ∙ sum_eq _ _ rs.count (λ k l. ap (λ (x : ℕ). rs.weight k * get_or work x 0) (sym (place _ a)))

    pub balance_cells : (a : ℕ)
        → discounted discount (gs.paid + sum (term work gs a) gs.count)
        ≡ expected c rs (cells work 0 (c.premium + 1)) balance a
    unfolding mean_by_list
    balance_cells a =
        ap₂ discounted b.discount_is
        (ap₂ ◌+◌ g.paid_is (states_are a) ∙ two_sums c rs (cells work 0 (c.premium + 1)) balance a)
        ∙ sym (expected_listed c rs (cells work 0 (c.premium + 1)) balance a)

-- ---- the balances: the first layer stays as the second is filled
pub layer_balance : {c : Terms} {rs : Returns} {work : List ℕ} {i discount most stride size : ℕ} (work' : List ℕ) (f : ℕ → ℕ)
    (n b : ℕ) → stride ≡ c.premium + 1 → size ≡ (c.top + 1) * (c.premium + 1) → ValidReturns rs → Values c i work → (discount ≡ c.discount) × (most ≡ state_most c (i + 1))
    → work' ≡ stored work size f n → b ≤ c.top → Balance c i rs work' discount most b stride size
layer_balance {c = c} {work = work} {most = most} {size = size} work' f n b s z h v m e top = record {
  returns = h;
  layers = record { valid = v.layers.valid; room = omega (arith, v.layers.room, ap length e ∙ length_stored _ _ _ _) };
  discount_is = m.0;
  most_is = m.1;
  small = kept_within;
  balance_is = top;
  stride_is = s;
  size_is = z ∙ ap (λ (n : ℕ). (c.top + 1) * n) (sym s);
}
  where
    kept_within : Within c work' most
    kept_within w a h l =
        let i = within_rows (c.premium + 1) (c.top + 1) w a (omega arith) (omega arith) in
        rw (m.1, ap (λ (xs : List ℕ). cells xs 0 (c.premium + 1) w a) e ∙ stored_out work size f n _ (inl (omega (arith, z)))) (v.small w a h l)

-- ---- row after row
module _ (c : Terms) (rs : Returns) (work : List ℕ) (stride size : ℕ) (size_is : size ≡ (c.top + 1) * stride) where
  sums : ℕ → ℕ
  sums = flat stride (scaled (expected c rs (cells work 0 stride)))

  -- the rows filled so far are not read
  kept : (n b a : ℕ) → a < stride → expected c rs (cells (stored work size sums n) 0 stride) b a ≡ expected c rs (cells work 0 stride) b a
  kept n b a l =
      expected_same c rs _ _ b a (λ w h.
      let i = within_rows stride (c.top + 1) w a (omega arith) l in
      stored_out work size sums n (0 + (w * stride + a)) (inl (omega arith)))

  pub expect_step : (b : ℕ) (work' : List ℕ)
      → work' ≡ stored work size (flat stride (scaled (expected c rs (cells work 0 stride)))) (b * stride)
      → stored work' (size + b * stride) (scaled (expected c rs (cells work' 0 stride)) b) stride
      ≡ stored work size (flat stride (scaled (expected c rs (cells work 0 stride)))) ((b + 1) * stride)
  unfolding sums
  expect_step b work' e =
      ap (λ (xs : List ℕ). stored xs (size + b * stride) (scaled (expected c rs (cells xs 0 stride)) b) stride) e
      ∙ stored_join work size sums _ (b * stride) stride (λ k l.
      ap (λ (x : ℕ). 8192 * x) (kept (b * stride) b k l) ∙ sym (flat_at stride (scaled (expected c rs (cells work 0 stride))) b k l))
      ∙ ap (stored work size sums) (rows_step stride b)

-- ---- the first return
-- the sum over it is within the bound on an entry
pub start_le : {c : Terms} {rate : ℕ} {work list : List ℕ} → Starting c rate work list
    → expected c (returns_of list) (shared rate (cells work 0 (c.premium + 1))) c.premium c.premium ≤ entry_most
start_le {c} {rate} {work} s =
    let valid = s.first.layers.valid in
    expected_le c _ _ 0 c.premium c.premium valid s.returns valid.premium (λ w h.
    shared_le rate c.top (cells work 0 (c.premium + 1)) s.rate_is h valid.premium (omega arith)
    (s.first.small w c.premium h (omega arith)))

module _ {c : Terms} {rate : ℕ} {work list : List ℕ} (s : Starting c rate work list) (k : ℕ) (l : k < (returns_of list).count) where
  -- it stands in the list
  pub return_in : 4 * k + 4 ≤ length list
  unfolding returns_of
  return_in = omega arith

  pub return_number : k < 64
  return_number = omega (arith, s.returns.count)

  -- what the leaves ask of its factor
  pub factor_in : {factor : ℕ} → factor ≡ (returns_of list).factor k
      → (c.fee ≤ rate_most) × (c.premium ≤ top_most) × (factor ≤ factor_most)
  factor_in e =
      let valid = s.first.layers.valid in (valid.fee, le_trans valid.premium valid.top, rw e (s.returns.factor k l))

  pub weight_small : {weight : ℕ} → weight ≡ (returns_of list).weight k → weight ≤ weight_most
  weight_small e = rw e (s.returns.weight k l)

  -- what it leads to stands in the first layer, and is of 32 bits
  pub account_in : (w : ℕ) {stride : ℕ} → stride ≡ c.premium + 1 → w ≤ c.top → w * stride + c.premium < length work
  unfolding layer_size
  account_in w e h =
      rw e let i = within_rows (c.premium + 1) (c.top + 1) w c.premium (omega arith) (omega arith) in
      omega (arith, s.first.layers.room)

  pub value_low : (w : ℕ) {stride : ℕ} → stride ≡ c.premium + 1 → w ≤ c.top → get_or work (w * stride + c.premium) 0 ≤ low_most
  value_low w e h =
      rw e let small = s.first.small w c.premium h (omega arith) in
      let low = value_narrow c s.first.layers.valid 1 (omega arith) in
      let at = ap (λ (i : ℕ). get_or work i 0) (zero-add (w * (c.premium + 1) + c.premium)) in
      omega arith

  -- with its share, it is what every date's sum takes
  pub start_is : {factor stride account paid value payment r : ℕ}
      → factor ≡ (returns_of list).factor k
      → stride ≡ c.premium + 1
      → account ≡ next_account c.fee c.top c.premium factor
      → paid ≡ excess_paid c.fee c.top c.premium factor
      → value ≡ get_or work (account * stride + c.premium) 0
      → payment ≡ death_payment account c.premium 0
      → r ≡ death_share rate value payment
      → paid + r ≡ reached_from c (returns_of list) (shared rate (cells work 0 (c.premium + 1))) c.premium c.premium k
  start_is {account = account} f s w x v p r =
      let at = ap (λ (n : ℕ). get_or work (account * n + c.premium) 0) s
      ∙ ap (λ (i : ℕ). get_or work i 0) (sym (zero-add (account * (c.premium + 1) + c.premium))) in
      rw (x, r, p, v ∙ at, w, f) refl
