-- The states along a table, and the bits of the entries of a row. Assumes nothing.
use mathlib.Core.Bool.{Bool, false}
use mathlib.Core.List.{List}
use mathlib.Core.Path.{◌≡◌, ap, sym, ◌∙◌, subst}
use Prim.Native.Nat.{ℕ, ◌+◌, ◌-◌, ◌*◌, ◌/◌, ◌%◌, ◌^◌, ◌≤◌, ◌<◌}
use native.Mathlib.Nat.{div-add-mod', mod-lt}
use native.Mathlib.Omega.{arith}
use lib.Dec.{eqb}
use lib.ListN.{get_or, drop}
use lib.Seq.{get_or-take, get_or-drop}
use borrow.Rule.Slice.PartMut.{mid_of}
use borrow.Author.Tests.{lt-ltb, le-ltb}
use Rattle.decision.specs.Index.{sum_eq, sum_zeros}
use Rattle.decision.specs.Bits.{bit, from_bits}
use Rattle.decision.proofs.Bits.{bits_append}
use Rattle.decision.specs.Layers.{low_digit, high_digit, two_digits}
use Rattle.rules.specs.Contract.{Terms}
use Rattle.rules.specs.Date.{free_amount, surrenders}
use Rattle.rules.specs.FixedTerm.{InRange, free_in, layer_size, layout_of, fixed_term, surrender_in, process_of}
use Rattle.rules.specs.Map.{surrendered}
use Rattle.laws.specs.FixedTerm.{size_some, placed_in_range}
use Rattle.surrender.specs.declared.State.{State}
use Rattle.surrender.specs.Mapped.{state_of, draws, Open}
use Rattle.laws.specs.Terms.{frame}

-- ---- the state of an entry
module _ (c : Terms) where
  -- of the entry of (w, a) in layer q
  pub state_at_lem : (q w a : ℕ) → w ≤ c.top → a ≤ c.premium
      → state_of c (q * layer_size c + (w * (c.premium + 1) + a)) ≡ record { account = w; guarantee = a }
  unfolding layer_size
  state_at_lem q w a h l =
      let stride = c.premium + 1 in
      let inside = two_digits w a (c.top + 1) stride (omega arith) (omega arith) in
      let r = low_digit q (w * stride + a) ((c.top + 1) * stride) inside in
      let u = high_digit w a stride (omega arith) in
      let v = low_digit w a stride (omega arith) in
      rw r (λ i. record { account = u i; guarantee = v i })

  -- every entry is one of some layer
  whole : (e : ℕ) → e ≡ e / layer_size c * layer_size c + ((state_of c e).account * (c.premium + 1) + (state_of c e).guarantee)
  whole e =
      sym (ap (λ (x : ℕ). e / layer_size c * layer_size c + x) (div-add-mod' (e % layer_size c) (c.premium + 1))
      ∙ div-add-mod' e (layer_size c))

  in_range : (e : ℕ) → InRange c ((layout_of c).state_at (e % layer_size c))
  in_range e = placed_in_range c (e % layer_size c) (mod-lt e (size_some c))

  pub account_le : (e : ℕ) → (state_of c e).account ≤ c.top
  unfolding layout_of
  account_le e = (in_range e).account

  pub guarantee_le : (e : ℕ) → (state_of c e).guarantee ≤ c.premium
  unfolding layout_of
  guarantee_le e = (in_range e).guarantee

  -- n entries behind a state: in its row, at the start of the next, or at the start of the next layer
  module _ (e n : ℕ) (at : State) (same : at ≡ state_of c e) where
    here : e ≡ e / layer_size c * layer_size c + (at.account * (c.premium + 1) + at.guarantee)
    here =
        whole e
        ∙ sym (ap (λ (s : State). e / layer_size c * layer_size c + (s.account * (c.premium + 1) + s.guarantee)) same)

    pub next_same : at.account ≤ c.top → at.guarantee + n ≤ c.premium
        → record { account = at.account; guarantee = at.guarantee + n } ≡ state_of c (e + n)
    next_same h l =
        let x = here in
        let i : e + n ≡ e / layer_size c * layer_size c + (at.account * (c.premium + 1) + (at.guarantee + n)) = omega arith in
        sym (ap (state_of c) i ∙ state_at_lem (e / layer_size c) at.account (at.guarantee + n) h l)

    pub next_row : at.account < c.top → at.guarantee + n ≡ c.premium + 1
        → record { account = at.account + 1; guarantee = 0 } ≡ state_of c (e + n)
    next_row h l =
        let x = here in
        let i : e + n ≡ e / layer_size c * layer_size c + ((at.account + 1) * (c.premium + 1) + 0) = omega arith in
        sym (ap (state_of c) i ∙ state_at_lem (e / layer_size c) (at.account + 1) 0 (omega arith) (omega arith))

    pub next_layer : at.account ≡ c.top → at.guarantee + n ≡ c.premium + 1 → record { account = 0; guarantee = 0 } ≡ state_of c (e + n)
    unfolding layer_size
    next_layer h l =
        let q = e / layer_size c in
        let x = here ∙ ap (λ (w : ℕ). q * layer_size c + (w * (c.premium + 1) + at.guarantee)) h in
        let i : e + n ≡ (q + 1) * layer_size c + (0 * (c.premium + 1) + 0) = omega arith in
        sym (ap (state_of c) i ∙ state_at_lem (q + 1) 0 0 (omega arith) (omega arith))

-- ---- one entry
open_bit : (m w t : ℕ) → m < w → surrenders m w t ≡ eqb t w
unfolding surrenders
open_bit m w t l = rw (lt-ltb m w l)

shut_bit : (m w t : ℕ) → w ≤ m → surrenders m w t ≡ false
unfolding surrenders
shut_bit m w t l = rw (le-ltb m w l)

-- ---- the entries of a part of a row
bits_eq : (f g : ℕ → Bool) (n : ℕ) → ((k : ℕ) → k < n → f k ≡ g k) → from_bits f n ≡ from_bits g n
unfolding from_bits
bits_eq f g n h = sum_eq _ _ n (λ k l. ap (λ (b : Bool). bit b * 2 ^ k) (h k l))

no_bits : (f : ℕ → Bool) (n : ℕ) → ((k : ℕ) → k < n → f k ≡ false) → from_bits f n ≡ 0
unfolding from_bits bit
no_bits f n h = sum_zeros _ n (λ k l. rw (h k l) (omega arith))

-- the open entries of a part of a row stand for all of them
module _ (c : Terms) (table : List ℕ) (start part r : ℕ) (at : State) (same : at ≡ state_of c start)
    (inside : at.guarantee + part ≤ c.premium + 1) (o : Open c.level at part r)
  where
    account_within : at.account ≤ c.top
    account_within = subst (λ (s : State). s.account ≤ c.top) (sym same) (account_le c start)

    -- the bit of an entry by its state
    entry_bit : (i : ℕ) → i < part
        → surrendered (frame c) table (start + i) ≡ surrenders (free_amount c.level (at.guarantee + i)) at.account
        (get_or table (start + i) 0)
    unfolding surrendered free_in layout_of fixed_term surrender_in process_of
    entry_bit i l =
        let here = next_same c start i at same account_within (omega arith) in
        sym (ap (λ (s : State). surrenders (free_amount c.level s.guarantee) s.account (get_or table (start + i) 0)) here)

    open_entry : (i : ℕ) → i < r → surrendered (frame c) table (start + i) ≡ draws (mid_of start r table) at.account i
    open_entry i l =
        entry_bit i (omega (arith, o.within))
        ∙ open_bit (free_amount c.level (at.guarantee + i)) at.account (get_or table (start + i) 0) (o.above i l)
        ∙ sym (ap (λ (t : ℕ). eqb t at.account) (get_or-take r (drop start table) i 0 l ∙ get_or-drop start table i 0))

    shut_entry : (i : ℕ) → i < part - r → surrendered (frame c) table (start + (r + i)) ≡ false
    shut_entry i l =
        entry_bit (r + i) (omega arith)
        ∙ shut_bit (free_amount c.level (at.guarantee + (r + i))) at.account (get_or table (start + (r + i)) 0)
        (o.others (r + i) (omega arith) (omega arith))

    pub part_bits : from_bits (draws (mid_of start r table) at.account) r ≡ from_bits (λ i. surrendered (frame c) table (start + i)) part
    part_bits =
        let f : ℕ → Bool = λ i. surrendered (frame c) table (start + i) in
        let whole : part ≡ r + (part - r) = omega (arith, o.within) in
        let none = no_bits (λ i. f (r + i)) (part - r) shut_entry in
        bits_eq _ _ r (λ i l. sym (open_entry i l))
        ∙ sym (ap (from_bits f) whole ∙ bits_append f r (part - r) ∙ ap (λ (x : ℕ). from_bits f r + 2 ^ r * x) none ∙ (omega arith))
