-- The largest worth among the amounts from 0 to a limit that pass a test, and the smallest amount that has it.
-- Assumes nothing.
use Rattle.std.specs.Prelude.{Bool, true, false, cond, ◌&&◌, ◌⊎◌, ◌≢◌, ◌≡◌, refl, ℕ, zero, suc, max, ◌≤◌, T, eqb}
use Rattle.std.proofs.Common.{inl, inr, ap, sym, ◌∙◌, subst, zero-le, le_of_eq, le_trans, le_refl, le_antisymm, arith, eqb→eq}
use Rattle.std.proofs.Math.Decide.{dec_le}
use Rattle.std.proofs.Math.Nat.{le_step, le-max_left, le-max_right, le-suc_iff}
use Rattle.decision.specs.Index.{first, First, first_is, first_least, first_eq}
use Rattle.decision.specs.Choice.{nothing, largest, smallest_best, Best, eq→eqb, and_left, and_right, and_intro}

passing : (b : Bool) (f : ℕ → ℕ) (t : ℕ) → T b → cond b f nothing t ≡ f t
passing true f t p = refl
passing false f t p = absurd p

pub le_largest : (ok : ℕ → Bool) (f : ℕ → ℕ) (n t : ℕ) → t ≤ n → T (ok t) → f t ≤ largest ok f n
unfolding largest
le_largest ok f zero t h p =
    let z : t ≡ 0 = omega arith in
    le_of_eq (ap f z ∙ sym (passing (ok 0) f 0 (subst (λ (x : ℕ). T (ok x)) z p)))
le_largest ok f (suc n) t h p = go (le-suc_iff.0 h) (le_largest ok f n t)
  where
    go : (t ≤ n) ⊎ (t ≡ suc n) → (t ≤ n → T (ok t) → f t ≤ largest ok f n)
        → f t ≤ max (largest ok f n) (cond (ok (suc n)) f nothing (suc n))
    go (inl l) below = le_trans (below l p) (le-max_left _ _)
    go (inr e) below =
        le_trans (le_of_eq (ap f e ∙ sym (passing (ok (suc n)) f (suc n) (subst (λ (x : ℕ). T (ok x)) e p)))) (le-max_right _ _)

-- an amount that passes and has the worth v
Has : (ℕ → Bool) → (ℕ → ℕ) → ℕ → ℕ → Type 0
Has ok f n v = (t : ℕ) × (t ≤ n) × T (ok t) × (f t ≡ v)

-- the largest worth is had, unless nothing passes and it is 0
had : (ok : ℕ → Bool) (f : ℕ → ℕ) (n : ℕ) → (largest ok f n ≡ 0) ⊎ Has ok f n (largest ok f n)
unfolding largest Has
had ok f zero = go (ok 0) (λ p. p)
  where
    go : (b : Bool) → (T b → T (ok 0)) → (cond b f nothing 0 ≡ 0) ⊎ Has ok f 0 (cond b f nothing 0)
    go true q = inr (0, zero-le, q tt, refl)
    go false q = inl refl
had ok f (suc n) = go (ok (suc n)) (λ p. p) (had ok f n) (dec_le (largest ok f n) (f (suc n)))
  where
    more : ℕ
    more = largest ok f n

    go : (b : Bool) → (T b → T (ok (suc n))) → (more ≡ 0) ⊎ Has ok f n more → Dec (more ≤ f (suc n))
        → (max more (cond b f nothing (suc n)) ≡ 0) ⊎ Has ok f (suc n) (max more (cond b f nothing (suc n)))
    go true q o (yes l) = inr (suc n, le_refl (suc n), q tt, omega arith)
    go true q (inl e) (no l) = absurd (l (omega arith))
    go true q (inr (t, h, p, e)) (no l) = inr (t, le_step h, p, omega arith)
    go false q (inl e) d = inl (omega arith)
    go false q (inr (t, h, p, e)) d = inr (t, le_step h, p, omega arith)

-- where some amount passes, the smallest best amount and the largest worth are best
pub best_is : (ok : ℕ → Bool) (f : ℕ → ℕ) (n t : ℕ) → t ≤ n → T (ok t) → Best ok f n (smallest_best ok f n) (largest ok f n)
unfolding smallest_best Has
best_is ok f n t h p = go (had ok f n)
  where
    v : ℕ
    v = largest ok f n

    hits : ℕ → Bool
    hits u = ok u && eqb (f u) v

    r : ℕ
    r = first hits (suc n)

    hit : (u : ℕ) → T (ok u) → f u ≡ v → T (hits u)
    hit u q e = and_intro (ok u) (eqb (f u) v) q (eq→eqb e)

    -- some amount hits, so the first hit is one of them
    found : (u : ℕ) → u ≤ n → T (hits u) → First hits (suc n) r → Best ok f n r v
    found u l q x =
        let k : r ≤ n = le_trans (first_least x u q) l in
        let y = x.passes (omega arith) in
        record {
          within = k;
          passes = and_left (ok r) (eqb (f r) v) y;
          worth = eqb→eq (f r) v (and_right (ok r) (eqb (f r) v) y);
          most = le_largest ok f n;
          smallest = λ w m b.
              let l = le_largest ok f n w (omega arith) b in
              let e : f w ≢ v = λ e. x.none w (omega arith) m (hit w b e) in
              omega arith;
        }

    go : (v ≡ 0) ⊎ Has ok f n v → Best ok f n r v
    go (inl e) = found t h (hit t p (omega (arith, le_largest ok f n t h p))) (first_is hits (suc n))
    go (inr (u, l, q, e)) = found u l (hit u q e) (first_is hits (suc n))

-- there is one best amount and one largest worth: whatever finds them, these are the ones
pub best_unique : {ok : ℕ → Bool} {f : ℕ → ℕ} {n c v d w : ℕ} → Best ok f n c v → Best ok f n d w → (c ≡ d) × (v ≡ w)
best_unique {ok} {f} {n} {c} {v} {d} {w} x y = (le_antisymm (low x y (sym same)) (low y x same), same)
  where
    same : v ≡ w
    same = let l = y.most c x.within x.passes in
        let m = x.most d y.within y.passes in
        omega (arith, x.worth, y.worth)

    low : {a b u z : ℕ} → Best ok f n a u → Best ok f n b z → z ≡ u → a ≤ b
    low {a} {b} p q e =
        elim (dec_le a b) [ yes l ↦ l | no l ↦ absurd (let s = p.smallest b (omega arith) q.passes in omega (arith, q.worth)) ]

-- the same worths up to the limit, the same best
pub largest_eq : (ok : ℕ → Bool) (f g : ℕ → ℕ) (n : ℕ) → ((t : ℕ) → t ≤ n → f t ≡ g t) → largest ok f n ≡ largest ok g n
unfolding largest
largest_eq ok f g zero h = go (ok 0)
  where
    go : (b : Bool) → cond b f nothing 0 ≡ cond b g nothing 0
    go true = h 0 (le_refl 0)
    go false = refl
largest_eq ok f g (suc n) h = λ i. max (largest_eq ok f g n (λ t l. h t (le_step l)) i) (go (ok (suc n)) i)
  where
    go : (b : Bool) → cond b f nothing (suc n) ≡ cond b g nothing (suc n)
    go true = h (suc n) (le_refl (suc n))
    go false = refl

pub smallest_best_eq : (ok : ℕ → Bool) (f g : ℕ → ℕ) (n : ℕ) → ((t : ℕ) → t ≤ n → f t ≡ g t) → smallest_best ok f n ≡ smallest_best ok g n
unfolding smallest_best
smallest_best_eq ok f g n h =
    first_eq _ _ (suc n) (λ t l i. ok t && eqb (h t (omega arith) i) (largest_eq ok f g n h i))
