-- Laws of one date: the admissible sets, how the guarantee falls, and shares at death. Assumes nothing.
use Rattle.std.specs.Prelude.{Bool, true, false, cond, ◌&&◌, ◌||◌, ◌⊎◌, ◌≡◌, ℕ, ◌+◌, ◌-◌, ◌*◌, ◌/◌, ◌≤◌, ◌<◌, min, max, T, leb, ltb, eqb}
use Rattle.std.proofs.Common.{inl, inr, ap, sym, ◌∙◌, le_refl, le_trans, sub-le, mul-le-mul_left, add_comm, mul_assoc, mul-add, add-mul}
use Rattle.std.proofs.Common.{arith, lit<, eqb→eq, leb→le, le→leb, ltb→lt, lt→ltb, le-leb}
use Rattle.std.proofs.Math.Nat.{max-le, min-le_left, min-le_right, div-le_of_le-mul, mul-add-div, add-mul-div_right}
use Rattle.std.proofs.Math.Dec.{eqb_refl}
use Rattle.std.proofs.lemmas.Bool.{lt-leb}
use Rattle.decision.specs.Choice.{and_left, and_right, and_intro}
use Rattle.rules.specs.Contract.{rate_most, factor_most}
use Rattle.rules.specs.Date.{Behaviour, static, mixed, dynamic, free_amount, largest_amount, surrenders, admits, cash, guarantee_after}
use Rattle.rules.specs.Date.{balance_after, next_account, excess, excess_paid, death_payment, death_share}
use Rattle.rules.specs.Facts.{lifted_le}

-- ---- admissible amounts
or_left : (a b : Bool) → T a → T (a || b)
or_left true b p = tt
or_left false b p = absurd p

or_right : (a b : Bool) → T b → T (a || b)
or_right true b p = tt
or_right false b p = p

pub or_elim : (a b : Bool) → T (a || b) → T a ⊎ T b
or_elim true b p = inl tt
or_elim false b p = inr p

-- what the mixed set holds
pub mixed_is : (m w t : ℕ) → T (admits mixed m w t) → (t ≡ m) ⊎ ((m < w) × (t ≡ w))
unfolding admits surrenders
mixed_is m w t p = go (or_elim (eqb t m) (ltb m w && eqb t w) p)
  where
    go : T (eqb t m) ⊎ T (ltb m w && eqb t w) → (t ≡ m) ⊎ ((m < w) × (t ≡ w))
    go (inl e) = inl (eqb→eq t m e)
    go (inr q) = inr (ltb→lt m w (and_left (ltb m w) (eqb t w) q), eqb→eq t w (and_right (ltb m w) (eqb t w) q))

-- what the dynamic set holds
pub dynamic_is : (m w t : ℕ) → T (admits dynamic m w t) → t ≤ max w m
unfolding admits largest_amount
dynamic_is m w t p = leb→le t (max w m) p

pub is_dynamic : (m w t : ℕ) → t ≤ max w m → T (admits dynamic m w t)
unfolding admits largest_amount
is_dynamic m w t l = le→leb t (max w m) l

pub static_mixed : (m w t : ℕ) → T (admits static m w t) → T (admits mixed m w t)
unfolding admits
static_mixed m w t p = or_left (eqb t m) (surrenders m w t) p

pub mixed_dynamic : (m w t : ℕ) → T (admits mixed m w t) → T (admits dynamic m w t)
mixed_dynamic m w t p = go (mixed_is m w t p)
  where
    go : (t ≡ m) ⊎ ((m < w) × (t ≡ w)) → T (admits dynamic m w t)
    go (inl e) = is_dynamic m w t (omega arith)
    go (inr (l, e)) = is_dynamic m w t (omega arith)

-- m is always admissible, and nothing above the larger of W and m
pub admits_free : (b : Behaviour) (m w : ℕ) → T (admits b m w m)
unfolding admits
admits_free static m w = eqb_refl m
admits_free mixed m w = or_left (eqb m m) (surrenders m w m) (eqb_refl m)
admits_free dynamic m w = is_dynamic m w m (omega arith)

pub admits_within : (b : Behaviour) (m w t : ℕ) → T (admits b m w t) → t ≤ max w m
admits_within static m w t p = dynamic_is m w t (mixed_dynamic m w t (static_mixed m w t p))
admits_within mixed m w t p = dynamic_is m w t (mixed_dynamic m w t p)
admits_within dynamic m w t p = dynamic_is m w t p

-- from the level on m is the level
pub free_level : (level a : ℕ) → level ≤ a → free_amount level a ≡ level
unfolding free_amount
free_level level a h = omega arith

-- an amount in the dynamic set is at most what account and guarantee are
pub amount_most_lem : (level : ℕ) {most w a t : ℕ} → w ≤ most → a ≤ most → t ≤ max w (free_amount level a) → t ≤ most
unfolding free_amount
amount_most_lem level {a = a} account guarantee amount = le_trans amount (max-le account (le_trans (min-le_right level a) guarantee))

-- ---- movements
-- up to m the guarantee falls by the amount
pub guarantee_free : (m w a t : ℕ) → t ≤ m → guarantee_after m w a t ≡ a - t
unfolding guarantee_after
guarantee_free m w a t l = rw (le-leb t m l)

-- .. above m it is the smaller of the difference and the share in proportion
pub guarantee_above : (m w a t : ℕ) → m < t → guarantee_after m w a t ≡ min (a - t) (a * (w - t) / w)
unfolding guarantee_after
guarantee_above m w a t h = rw (lt-leb t m h)

-- no amount raises it, and an amount lowers it at least by itself
pub guarantee_le : (m w a t : ℕ) → guarantee_after m w a t ≤ a - t
unfolding guarantee_after
guarantee_le m w a t = go (leb t m)
  where
    go : (b : Bool) → cond b (a - t) (min (a - t) (a * (w - t) / w)) ≤ a - t
    go true = le_refl (a - t)
    go false = min-le_left (a - t) (a * (w - t) / w)

-- an account is held at top
pub account_le : (fee top balance factor : ℕ) → next_account fee top balance factor ≤ top
unfolding next_account
account_le fee top balance factor = min-le_left _ _

-- of a balance up to top a return pays at most 20,000 × top on arrival
pub excess_paid_le : (fee top balance factor : ℕ) → balance ≤ top → factor ≤ factor_most → excess_paid fee top balance factor ≤ 20000 * top
unfolding excess_paid excess
excess_paid_le fee top balance factor h l = let x = lifted_le fee balance factor l in omega arith

-- a withdrawal pays at most 10,000 × the amount ..
pub cash_le : (rate m t : ℕ) → cash rate m t ≤ 10000 * t
unfolding cash
cash_le rate m t = sub-le _ _

-- .. and it and the arrival after it together no more than an arrival can: what is withdrawn is not lifted
pub period_le : (rate m fee top w t factor : ℕ) → w ≤ top → t ≤ top → factor ≤ factor_most
    → cash rate m t + excess_paid fee top (balance_after w t) factor ≤ 20000 * top
unfolding excess_paid excess balance_after
period_le rate m fee top w t factor h k l =
    let x = lifted_le fee (w - t) factor l in
    let y = cash_le rate m t in
    omega arith

-- above m the whole account is a mixed choice
pub admits_surrender : (m w : ℕ) → m < w → T (admits mixed m w w)
unfolding admits surrenders
admits_surrender m w h = or_right (eqb w m) (ltb m w && eqb w w) (and_intro (ltb m w) (eqb w w) (lt→ltb m w h) (eqb_refl w))

-- ---- shares at death
-- more reached, or more paid at death, is never a smaller share
pub share_mono : (rate : ℕ) {v w p q : ℕ} → v ≤ w → p ≤ q → death_share rate v p ≤ death_share rate w q
unfolding death_share
share_mono rate l m =
    let lives = mul-le-mul_left (10000 - rate) l in
    let dies = mul-le-mul_left rate m in
    omega arith

-- rate and complement are 10,000
whole : (rate x : ℕ) → rate ≤ rate_most → (10000 - rate) * x + rate * x ≡ 10000 * x
whole rate x h = sym (add-mul (10000 - rate) rate x) ∙ ap (λ (n : ℕ). n * x) (let e : 10000 - rate + rate ≡ 10000 = omega arith in e)

-- a share is at most what neither value nor payment passes
pub share_le : {rate value payment : ℕ} (x : ℕ) → rate ≤ rate_most → value ≤ x → payment ≤ x → death_share rate value payment ≤ x
unfolding death_share
share_le {rate} x h l m =
    let lives = mul-le-mul_left (10000 - rate) l in
    let dies = mul-le-mul_left rate m in
    let all = whole rate x h in
    div-le_of_le-mul 10000 (omega arith)

-- at rate 0 it is the value, at rate 10,000 the payment
pub share_living : (value payment : ℕ) → death_share 0 value payment ≡ value
unfolding death_share
share_living value payment = omega arith

pub share_certain : (value payment : ℕ) → death_share 10000 value payment ≡ payment
unfolding death_share
share_certain value payment = omega arith

-- what is paid to the holder who lives and at death alike passes through unchanged
share_paid : (rate paid value payment : ℕ) → rate ≤ rate_most
    → death_share rate (paid + value) (payment + paid) ≡ paid + death_share rate value payment
unfolding death_share
share_paid rate paid value payment h =
    let e : (10000 - rate) * (paid + value) + rate * (payment + paid) ≡ 10000 * paid + ((10000 - rate) * value + rate * payment) =
    omega (arith, mul-add (10000 - rate) paid value, mul-add rate payment paid, whole rate paid h) in
    ap (λ (n : ℕ). n / 10000) e ∙ mul-add-div (lit< tt) paid ((10000 - rate) * value + rate * payment)

-- .. and so does an excess: the share of what is reached is the excess and the share of the state's value
pub share_excess : (rate w a over value : ℕ) → rate ≤ rate_most
    → death_share rate (10000 * over + value) (death_payment w a over) ≡ 10000 * over + death_share rate value (death_payment w a 0)
unfolding death_payment
share_excess rate w a over value h =
    let none : 10000 * max w a ≡ 10000 * max w a + 10000 * 0 = omega arith in
    share_paid rate (10000 * over) value (10000 * max w a) h ∙ ap (λ (d : ℕ). 10000 * over + death_share rate value d) none

-- without an excess the payment is whole money, and only what is left to the holder who lives is rounded
pub share_whole : (rate value w a : ℕ) → death_share rate value (death_payment w a 0) ≡ rate * max w a + (10000 - rate) * value / 10000
unfolding death_share death_payment
share_whole rate value w a =
    let e : 10000 * max w a + 10000 * 0 ≡ max w a * 10000 = omega arith in
    let whole = ap (λ (y : ℕ). rate * y) e ∙ sym (mul_assoc rate (max w a) 10000) in
    ap (λ (y : ℕ). ((10000 - rate) * value + y) / 10000) whole
    ∙ add-mul-div_right ((10000 - rate) * value) (rate * max w a) (lit< tt)
    ∙ add_comm ((10000 - rate) * value / 10000) (rate * max w a)

-- a death pays at most 10,000 × what neither account nor guarantee passes, with the excess
pub death_le : (w a over top : ℕ) → w ≤ top → a ≤ top → death_payment w a over ≤ 10000 * over + 10000 * top
unfolding death_payment
death_le w a over top h l = let m = max-le h l in omega arith

-- the values v of a date's states as the death rate of the period before it leaves them, by account and guarantee, without the
-- excess that leads there: it passes through unchanged (`share_excess`)
abbrev pub shared : ℕ → (ℕ → ℕ → ℕ) → ℕ → ℕ → ℕ
shared rate v w a = death_share rate (v w a) (death_payment w a 0)

-- at most what the value does not pass, if that is no less than 10,000 × top
pub shared_le : (rate top : ℕ) (v : ℕ → ℕ → ℕ) {w a x : ℕ} → rate ≤ rate_most → w ≤ top → a ≤ top → 10000 * top ≤ x → v w a ≤ x
    → shared rate v w a ≤ x
shared_le rate top v {w} {a} {x} small h l most value = share_le x small value (le_trans (death_le w a 0 top h l) (omega arith))
