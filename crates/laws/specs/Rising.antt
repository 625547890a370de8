-- What one date makes of more account, more guarantee and a smaller fee: never less. On plain numbers. Assumes nothing.
use Rattle.std.specs.Prelude.{Bool, true, false, cond, not, ◌⊎◌, ◌≡◌, ℕ, ◌+◌, ◌-◌, ◌*◌, ◌/◌, ◌≤◌, ◌<◌, min, max, T, leb}
use Rattle.std.proofs.Common.{inl, inr, sym, ◌∙◌, subst₂, zero-le, le_refl, le_trans, le_of_eq, mul-le-mul, mul-le-mul_left}
use Rattle.std.proofs.Common.{mul-le-mul_right, sub-le, mul-zero, mul-add, div-mul-le_self, le-div_iff_mul-le, eq-zero-or-pos, arith}
use Rattle.std.proofs.Common.{leb→le, le→leb, eqb→eq, le-leb}
use Rattle.std.proofs.Math.Nat.{sub-le-sub_left, sub_self, zero-div, min-zero, div-le_of_le-mul}
use Rattle.std.proofs.Math.Dec.{nleb→lt}
use Rattle.std.proofs.lemmas.Bool.{lt-leb}
use Rattle.rules.specs.Contract.{rate_most}
use Rattle.rules.specs.Date.{Behaviour, static, mixed, dynamic, free_amount, admits, penalty, cash, guarantee_after, balance_after}
use Rattle.rules.specs.Date.{lifted_account, next_account, excess, excess_paid, maturity_value, death_payment}
use Rattle.laws.specs.Date.{mixed_is, dynamic_is, is_dynamic, static_mixed, admits_free, admits_surrender, guarantee_free}
use Rattle.laws.specs.Date.{guarantee_above}

-- ---- what a return makes: a larger fee, and a smaller balance, never more
pub lifted_rises : {low high x y : ℕ} (factor : ℕ) → low ≤ high → x ≤ y → lifted_account high x factor ≤ lifted_account low y factor
unfolding lifted_account
lifted_rises factor fees l =
    let m = mul-le-mul (mul-le-mul_right factor l) (sub-le-sub_left fees 10000) in
    omega arith

pub account_rises : {low high x y : ℕ} (top factor : ℕ) → low ≤ high → x ≤ y
    → next_account high top x factor ≤ next_account low top y factor
unfolding next_account
account_rises top factor fees l = let m = lifted_rises factor fees l in omega arith

-- .. nor does a smaller factor
pub account_climbs : {x y : ℕ} (fee top balance : ℕ) → x ≤ y → next_account fee top balance x ≤ next_account fee top balance y
unfolding next_account lifted_account
account_climbs fee top balance l = let m = mul-le-mul_right (10000 - fee) (mul-le-mul_left balance l) in omega arith

pub excess_rises : {low high x y : ℕ} (top factor : ℕ) → low ≤ high → x ≤ y → excess high top x factor ≤ excess low top y factor
unfolding excess
excess_rises top factor fees l = let m = lifted_rises factor fees l in omega arith

pub excess_paid_rises : {low high x y : ℕ} (top factor : ℕ) → low ≤ high → x ≤ y
    → excess_paid high top x factor ≤ excess_paid low top y factor
unfolding excess_paid
excess_paid_rises top factor fees l = mul-le-mul_left 10000 (excess_rises top factor fees l)

-- ---- what is paid at maturity and at death
pub maturity_rises : {w x a b : ℕ} → w ≤ x → a ≤ b → maturity_value w a ≤ maturity_value x b
unfolding maturity_value
maturity_rises l m = omega arith

pub death_rises : {w x a b p q : ℕ} → w ≤ x → a ≤ b → p ≤ q → death_payment w a p ≤ death_payment x b q
unfolding death_payment
death_rises l m n = omega arith

-- ---- any amount, from more account and more guarantee
pub free_rises : (level : ℕ) {a b : ℕ} → a ≤ b → free_amount level a ≤ free_amount level b
unfolding free_amount
free_rises level l = omega arith

-- it stays open, pays no less and leaves no smaller balance
pub dynamic_rises : {m n w x : ℕ} (t : ℕ) → m ≤ n → w ≤ x → T (admits dynamic m w t) → T (admits dynamic n x t)
dynamic_rises {m} {n} {w} {x} t free l p = is_dynamic n x t (let most = dynamic_is m w t p in omega arith)

pub cash_rises : (rate t : ℕ) {m n : ℕ} → m ≤ n → cash rate m t ≤ cash rate n t
unfolding cash penalty
cash_rises rate t free = let l = mul-le-mul_left rate (sub-le-sub_left free t) in omega arith

pub balance_rises : (t : ℕ) {w x : ℕ} → w ≤ x → balance_after w t ≤ balance_after x t
unfolding balance_after
balance_rises t l = omega arith

-- what is in proportion to the account that is left
spread : (a r t d x : ℕ) → x * (r + t) ≤ a * r → x ≤ a → x * (r + t + d) ≤ a * (r + d)
spread a r t d x h l = let m = mul-le-mul_right d l in omega arith

share_rises : {a b w x : ℕ} (t : ℕ) → a ≤ b → w ≤ x → t ≤ w → a * (w - t) / w ≤ b * (x - t) / x
share_rises {a} {b} {w} {x} t cover l h = go (eq-zero-or-pos w)
  where
    go : (w ≡ 0) ⊎ (0 < w) → a * (w - t) / w ≤ b * (x - t) / x
    go (inl e) = let z : w - t ≡ 0 = omega arith in rw z (rw (mul-zero, zero-div) zero-le)
    go (inr p) =
        let y = a * (w - t) / w in
        let whole : w - t + t ≡ w = omega arith in
        let longer : w - t + t + (x - w) ≡ x = omega arith in
        let left : w - t + (x - w) ≡ x - t = omega arith in
        let most : y ≤ a = div-le_of_le-mul w (let m = mul-le-mul_left a (sub-le w t) in omega arith) in
        let part : y * (w - t + t) ≤ a * (w - t) = rw whole (div-mul-le_self (a * (w - t)) w) in
        let some : 0 < x = omega arith in
        (le-div_iff_mul-le some).1
        (le_trans (subst₂ (λ (u v : ℕ). y * u ≤ a * v) longer left (spread a (w - t) t (x - w) y part most))
        (mul-le-mul_right (x - t) cover))

-- .. and leaves no smaller guarantee
pub guarantee_rises : (level t : ℕ) {a b w x : ℕ} → a ≤ b → w ≤ x → t ≤ max w (free_amount level a)
    → guarantee_after (free_amount level a) w a t ≤ guarantee_after (free_amount level b) x b t
unfolding guarantee_after
guarantee_rises level t {a} {b} {w} {x} cover l most =
    let free = free_rises level cover in
    go (leb t (free_amount level a)) (leb t (free_amount level b)) (leb→le t _) (λ p. le→leb t _ (le_trans p free)) (nleb→lt t _)
  where
    go : (p q : Bool) → (T p → t ≤ free_amount level a) → (t ≤ free_amount level a → T q) → (T (not p) → free_amount level a < t)
        → cond p (a - t) (min (a - t) (a * (w - t) / w)) ≤ cond q (b - t) (min (b - t) (b * (x - t) / x))
    go true true within wide above = omega arith
    go false true within wide above = omega arith
    go true false within wide above = absurd (wide (within tt))
    go false false within wide above =
        let h : t ≤ w = let over = above tt in omega arith in
        let s = share_rises t cover l h in
        omega arith

-- ---- a mixed choice, from more account at one guarantee: m is answered by m, surrender by surrender
unfoldable pub answered : ℕ → ℕ → ℕ → ℕ
answered m x t = cond (leb t m) t x

answered_free : (m x t : ℕ) → t ≤ m → answered m x t ≡ t
unfolding answered
answered_free m x t l = rw (le-leb t m l)

answered_above : (m x t : ℕ) → m < t → answered m x t ≡ x
unfolding answered
answered_above m x t l = rw (lt-leb t m l)

-- surrender leaves no guarantee
pub surrender_ends : (m w a : ℕ) → m < w → guarantee_after m w a w ≡ 0
surrender_ends m w a l = guarantee_above m w a w l ∙ rw (sub_self w, mul-zero, zero-div, min-zero)

-- and more of it pays no less
surrender_rises : (rate m : ℕ) {w x : ℕ} → rate ≤ rate_most → m ≤ w → w ≤ x → cash rate m w ≤ cash rate m x
unfolding cash penalty
surrender_rises rate m {w} {x} small h l =
    let more : x - m ≡ w - m + (x - w) = omega arith in
    let y = mul-le-mul_right (x - w) small in
    rw (more, mul-add) (omega arith)

-- what the answer does: it is open, pays no less, and leaves no smaller balance and the same guarantee
pub record Answers (b : Behaviour) (rate m w x a t u : ℕ) : Type 0 where
  pub open_to : T (admits b m x u)
  pub cash_is : cash rate m t ≤ cash rate m u
  pub balance_is : balance_after w t ≤ balance_after x u
  pub guarantee_is : guarantee_after m w a t ≡ guarantee_after m x a u

pub mixed_answers : (rate m a t w x : ℕ) → rate ≤ rate_most → w ≤ x → T (admits mixed m w t)
    → Answers mixed rate m w x a t (answered m x t)
unfolding balance_after
mixed_answers rate m a t w x small l p = go (mixed_is m w t p)
  where
    go : (t ≡ m) ⊎ ((m < w) × (t ≡ w)) → Answers mixed rate m w x a t (answered m x t)
    go (inl e) = rw (answered_free m x t (le_of_eq e)) (record {
      open_to = rw e (admits_free mixed m x);
      cash_is = le_refl _;
      balance_is = omega arith;
      guarantee_is = guarantee_free m w a t (le_of_eq e) ∙ sym (guarantee_free m x a t (le_of_eq e));
    })
    go (inr (above, e)) = rw (answered_above m x t (omega arith)) (record {
      open_to = admits_surrender m x (omega arith);
      cash_is = rw e (surrender_rises rate m small (omega arith) l);
      balance_is = omega arith;
      guarantee_is = rw e (surrender_ends m w a above ∙ sym (surrender_ends m x a (omega arith)));
    })

-- .. and a static choice, by the same answer
pub static_answers : (rate m a t w x : ℕ) → rate ≤ rate_most → w ≤ x → T (admits static m w t)
    → Answers static rate m w x a t (answered m x t)
unfolding admits
static_answers rate m a t w x small l p =
    let y = mixed_answers rate m a t w x small l (static_mixed m w t p) in
    let e = eqb→eq t m p in record {
      open_to = rw (answered_free m x t (le_of_eq e)) p;
      cash_is = y.cash_is;
      balance_is = y.balance_is;
      guarantee_is = y.guarantee_is;
    }
