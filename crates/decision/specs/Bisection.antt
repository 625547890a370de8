-- Finding by halves the first index that passes a test which every later index passes too. Assumes nothing.
use Rattle.std.specs.Prelude.{Bool, false, ◌≡◌, refl, ℕ, zero, suc, ◌+◌, ◌-◌, ◌*◌, ◌^◌, ◌≤◌, ◌<◌, T, ltb}
use Rattle.std.proofs.Common.{ap, subst, le_refl, zero-add, pow-suc, arith, lit<, lt→ltb, ltb→lt}
use Rattle.std.proofs.Math.Decide.{dec_le}
use Rattle.decision.specs.Index.{first, first_is, first_least, false_is, is_first}

-- what is passed by an index is passed by every later one
abbrev pub Lasting : (ℕ → Bool) → Type 0
Lasting test = (i j : ℕ) → i ≤ j → T (test i) → T (test j)

-- what a search by halves has come to: nothing below `low` passes, and `high` passes or is n
pub record Narrowed (test : ℕ → Bool) (n low high : ℕ) : Type 0 where
  pub order : low ≤ high
  pub within : high ≤ n
  pub below : (k : ℕ) → k < low → test k ≡ false
  pub passes : high < n → T (test high)

pub narrow_none : (test : ℕ → Bool) (n : ℕ) → Narrowed test n 0 n
narrow_none test n = record {
  order = omega arith;
  within = omega arith;
  below = λ k l. absurd (omega arith);
  passes = λ l. absurd (omega arith);
}

module _ {test : ℕ → Bool} {n low high : ℕ} (x : Narrowed test n low high) where
  -- an index between the two that passes is the new end ..
  pub narrow_down : (mid : ℕ) → low ≤ mid → mid < high → T (test mid) → Narrowed test n low mid
  narrow_down mid l m t = record {
    order = l;
    within = omega (arith, x.within);
    below = x.below;
    passes = λ h. t;
  }

  -- .. and one that fails leaves what is behind it
  pub narrow_up : Lasting test → (mid : ℕ) → mid < high → test mid ≡ false → Narrowed test n (mid + 1) high
  narrow_up lasting mid m e = record {
    order = omega arith;
    within = x.within;
    below = λ k l. false_is (test k) (λ t. subst T e (lasting k mid (omega arith) t));
    passes = x.passes;
  }

  -- where the two meet stands the first that passes
  pub narrow_end : high ≤ low → first test n ≡ high
  narrow_end l = is_first (record {
    from = omega arith;
    within = x.within;
    passes = x.passes;
    none = λ k i m t. subst T (x.below k (omega (arith, x.order))) t;
  })

-- ---- how often what is left can be halved, and the power of two that cuts it: less than that is left on either side
unfoldable pub halvings : ℕ → ℕ
halvings n = first (λ k. ltb n (2 ^ k)) (suc n)

abbrev pub half : ℕ → ℕ
half n = 2 ^ (halvings n - 1)

below_power : (n : ℕ) → n < 2 ^ n
below_power zero = lit< tt
below_power (suc n) = let before = below_power n in rw (pow-suc 2 n) (omega arith)

-- the first power above n
enough : (n : ℕ) → n < 2 ^ halvings n
unfolding halvings
enough n =
    let x = first_is (λ k. ltb n (2 ^ k)) (suc n) in
    let within = first_least x n (lt→ltb n (2 ^ n) (below_power n)) in
    ltb→lt n (2 ^ halvings n) (x.passes (omega arith))

least : (n k : ℕ) → n < 2 ^ k → halvings n ≤ k
unfolding halvings
least n k l = first_least (first_is (λ j. ltb n (2 ^ j)) (suc n)) k (lt→ltb n (2 ^ k) l)

pub record Halved (n : ℕ) : Type 0 where
  pub some : 1 ≤ halvings n
  pub within : half n ≤ n
  pub below : n < 2 * half n

pub halved : (n : ℕ) → 0 < n → Halved n
halved n some = go (halvings n) refl
  where
    go : (k : ℕ) → halvings n ≡ k → Halved n
    go zero e = absurd (let l : n < 2 ^ 0 = subst (λ (k : ℕ). n < 2 ^ k) e (enough n) in omega arith)
    go (suc k) e =
        let z : halvings n - 1 ≡ k = omega arith in
        let l : n < 2 ^ suc k = subst (λ (j : ℕ). n < 2 ^ j) e (enough n) in
        let p = pow-suc 2 k in
        record { some = omega arith; within = rw z (go_on (dec_le (2 ^ k) n)); below = rw z (omega arith) }
      where
        go_on : Dec (2 ^ k ≤ n) → 2 ^ k ≤ n
        go_on (yes l) = l
        go_on (no l) = absurd (let m = least n k (omega arith) in omega arith)

-- what is less than the power takes fewer
pub halvings_fall : (m n : ℕ) → 0 < n → m < half n → halvings m < halvings n
halvings_fall m n some l =
    let x = halved n some in
    let h = least m (halvings n - 1) l in
    omega (arith, x.some)

-- a power of two that is at most n, where its double is not
pub half_is : (n k : ℕ) → 2 ^ k ≤ n → n < 2 * 2 ^ k → 2 ^ k ≡ half n
half_is n k within below =
    let p = pow-suc 2 k in
    let most = least n (suc k) (omega arith) in
    let z : k ≡ halvings n - 1 = omega (arith, more (dec_le (halvings n) k)) in
    ap (λ (j : ℕ). 2 ^ j) z
  where
    -- powers grow
    grows : (a d : ℕ) → 2 ^ a ≤ 2 ^ (d + a)
    grows a zero = rw (zero-add a) (le_refl (2 ^ a))
    grows a (suc d) =
        let before = grows a d in
        let e : suc d + a ≡ suc (d + a) = omega arith in
        rw (e, pow-suc 2 (d + a)) (omega arith)

    more : Dec (halvings n ≤ k) → k < halvings n
    more (no l) = omega arith
    more (yes l) =
        let e : k - halvings n + halvings n ≡ k = omega arith in
        let g = subst (λ (j : ℕ). 2 ^ halvings n ≤ 2 ^ j) e (grows (halvings n) (k - halvings n)) in
        absurd (let h = enough n in omega arith)
