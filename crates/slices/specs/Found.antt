-- The first index that passes a test, if any. Assumes nothing.
use Rattle.std.specs.Prelude.{Bool, true, false, cond, not, ◌≡◌, refl, ℕ, ◌≤◌, ◌<◌, ltb, T, Option, None, Some}
use Rattle.std.proofs.Common.{sym, subst, le-ltb, lt-ltb, nltb→le, ltb→lt, arith}
use Rattle.decision.specs.Index.{first, Searched, search_hit, search_end}

unfoldable pub found : (ℕ → Bool) → ℕ → Option ℕ
found test n = let k = first test n in cond (ltb k n) (Some k) None

pub found_hit : {test : ℕ → Bool} {n k : ℕ} → Searched test n k → k < n → test k ≡ true → Some k ≡ found test n
unfolding found
found_hit x l e = rw (search_hit x l e, lt-ltb _ _ l)

pub found_none : {test : ℕ → Bool} {n k : ℕ} → Searched test n k → n ≤ k → ◌≡◌ {A = Option ℕ} None (found test n)
unfolding found
found_none x l = rw (search_end x l, le-ltb _ _ l)

-- and what is found tells the first index
pub found_first : (test : ℕ → Bool) (n : ℕ) {k : ℕ} → found test n ≡ Some k → (first test n ≡ k) × (k < n)
unfolding found
found_first test n {k} e = go (first test n) (ltb (first test n) n) refl e
  where
    go : (j : ℕ) (b : Bool) → ltb j n ≡ b → ◌≡◌ {A = Option ℕ} (cond b (Some j) None) (Some k) → (j ≡ k) × (k < n)
    go j true l f = let same : j ≡ k = cc in (same, subst (λ (i : ℕ). i < n) same (ltb→lt j n (subst T (sym l) tt)))
    go j false l f = let z : ◌≡◌ {A = ℕ} 0 1 = cc in absurd (omega arith)

pub none_first : (test : ℕ → Bool) (n : ℕ) → ◌≡◌ {A = Option ℕ} (found test n) None → n ≤ first test n
unfolding found
none_first test n e = go (first test n) (ltb (first test n) n) refl e
  where
    go : (j : ℕ) (b : Bool) → ltb j n ≡ b → ◌≡◌ {A = Option ℕ} (cond b (Some j) None) None → n ≤ j
    go j true l f = let z : ◌≡◌ {A = ℕ} 0 1 = cc in absurd (omega arith)
    go j false l f = nltb→le j n (subst (λ (c : Bool). T (not c)) (sym l) tt)
