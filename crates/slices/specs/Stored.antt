-- A slice of which a run of entries is stored in order: what a loop that counts up leaves. Assumes nothing.
use Rattle.std.specs.Prelude.{List, ◌++◌, ◌⊎◌, ◌≡◌, refl, ℕ, zero, suc, ◌+◌, ◌-◌, ◌*◌, ◌≤◌, ◌<◌, length, get_or, set, drop, replicate}
use Rattle.std.proofs.Common.{append_assoc, inl, inr, ap, ap₂, sym, ◌∙◌, add-suc, add_assoc, add-zero, zero-add, zero-mul, add-one, arith}
use Rattle.std.proofs.Common.{length-set, length-append, length-drop, get_or-set_same, get_or-set_other, get_or-append-add, get_or-drop}
use Rattle.std.proofs.Common.{ext_get_or}
use Rattle.std.proofs.Math.Decide.{dec_le}
use Rattle.std.proofs.lemmas.List.{length-replicate, get_or-replicate}
use Rattle.std.proofs.Math.ListN.{get_or-append}
use Rattle.decision.specs.Index.{tabulate, length_tabulate, get_d_tabulate, tabulate_zeros}

-- l with f 0, f 1, .. f (n - 1) from index `at` on
unfoldable pub stored : List ℕ → ℕ → (ℕ → ℕ) → ℕ → List ℕ
stored l at f zero = l
stored l at f (suc n) = set (stored l at f n) (at + n) (f n)

pub length_stored : (l : List ℕ) (at : ℕ) (f : ℕ → ℕ) (n : ℕ) → length (stored l at f n) ≡ length l
unfolding stored
length_stored l at f zero = refl
length_stored l at f (suc n) = length-set (stored l at f n) (at + n) (f n) ∙ length_stored l at f n

-- one more
pub stored_next : (l : List ℕ) (at : ℕ) (f : ℕ → ℕ) (n : ℕ) → set (stored l at f n) (at + n) (f n) ≡ stored l at f (n + 1)
unfolding stored
stored_next l at f n = rw add-one

-- .. as a loop stores it
pub stored_more : {l' : List ℕ} {v : ℕ} (l : List ℕ) (at : ℕ) (f : ℕ → ℕ) (n : ℕ) → l' ≡ stored l at f n → v ≡ f n
    → set l' (at + n) v ≡ stored l at f (n + 1)
stored_more l at f n e p = (λ i. set (e i) (at + n) (p i)) ∙ stored_next l at f n

-- an entry of the run, and one outside it
pub stored_in : (l : List ℕ) (at : ℕ) (f : ℕ → ℕ) (n k : ℕ) → at + n ≤ length l → k < n → get_or (stored l at f n) (at + k) 0 ≡ f k
unfolding stored
stored_in l at f zero k h l' = absurd (omega arith)
stored_in l at f (suc n) k h l' = go (dec_le (suc k) n) (stored_in l at f n k (omega arith))
  where
    go : Dec (suc k ≤ n) → (k < n → get_or (stored l at f n) (at + k) 0 ≡ f k)
        → get_or (set (stored l at f n) (at + n) (f n)) (at + k) 0 ≡ f k
    go (yes m) before = get_or-set_other (stored l at f n) (at + n) (at + k) (f n) 0
        (λ e. let z : at + k < at + n = omega arith in omega arith) ∙ before m
    go (no m) before =
        let e : k ≡ n = omega arith in
        rw e (get_or-set_same (stored l at f n) (at + n) (f n) 0 (rw (length_stored l at f n) (omega arith)))

pub stored_out : (l : List ℕ) (at : ℕ) (f : ℕ → ℕ) (n j : ℕ) → (j < at) ⊎ (at + n ≤ j) → get_or (stored l at f n) j 0 ≡ get_or l j 0
unfolding stored
stored_out l at f zero j o = refl
stored_out l at f (suc n) j o = get_or-set_other (stored l at f n) (at + n) j (f n) 0 (apart o) ∙ stored_out l at f n j (less o)
  where
    apart : (j < at) ⊎ (at + suc n ≤ j) → j ≡ at + n → ⊥
    apart (inl l) e = omega arith
    apart (inr l) e = omega arith

    less : (j < at) ⊎ (at + suc n ≤ j) → (j < at) ⊎ (at + n ≤ j)
    less (inl l) = inl l
    less (inr l) = inr (omega arith)

-- two runs that meet
pub stored_join : (l : List ℕ) (at : ℕ) (f g : ℕ → ℕ) (n m : ℕ) → ((k : ℕ) → k < m → g k ≡ f (n + k))
    → stored (stored l at f n) (at + n) g m ≡ stored l at f (n + m)
unfolding stored
stored_join l at f g n zero h = ap (stored l at f) (sym (add-zero n))
stored_join l at f g n (suc m) h =
    let before = stored_join l at f g n m (λ k l. h k (omega arith)) in
    let last = h m (omega arith) in
    rw (add-suc n m) (λ i. set (before i) (add_assoc at n m i) (last i))

-- a list is known by its length and its entries
pub is_stored : (l l' : List ℕ) (at : ℕ) (f : ℕ → ℕ) (n : ℕ) → length l' ≡ length l → at + n ≤ length l
    → ((k : ℕ) → k < n → get_or l' (at + k) 0 ≡ f k) → ((j : ℕ) → (j < at) ⊎ (at + n ≤ j) → get_or l' j 0 ≡ get_or l j 0)
    → l' ≡ stored l at f n
is_stored l l' at f n same fits inside outside =
    ext_get_or 0 l' (stored l at f n) (same ∙ sym (length_stored l at f n)) (λ j h. go j (dec_le (suc j) at) (dec_le (at + n) j))
  where
    go : (j : ℕ) → Dec (suc j ≤ at) → Dec (at + n ≤ j) → get_or l' j 0 ≡ get_or (stored l at f n) j 0
    go j (yes h) d = outside j (inl h) ∙ sym (stored_out l at f n j (inl h))
    go j (no h) (yes d) = outside j (inr d) ∙ sym (stored_out l at f n j (inr d))
    go j (no h) (no d) =
        let e : j ≡ at + (j - at) = omega arith in
        rw e (inside (j - at) (omega arith) ∙ sym (stored_in l at f n (j - at) fits (omega arith)))

-- a run from the start
pub stored_front : (l : List ℕ) (f : ℕ → ℕ) (n : ℕ) → n ≤ length l → stored l 0 f n ≡ tabulate n f ++ drop n l
stored_front l f n fits =
    sym (is_stored l (tabulate n f ++ drop n l) 0 f n
    (length-append (tabulate n f) (drop n l) ∙ ap₂ ◌+◌ (length_tabulate n f) (length-drop n l) ∙ omega arith)
    (omega arith)
    (λ k h. rw (zero-add k) (get_d_tabulate n k f (drop n l) h))
    outside)
  where
    outside : (j : ℕ) → (j < 0) ⊎ (0 + n ≤ j) → get_or (tabulate n f ++ drop n l) j 0 ≡ get_or l j 0
    outside j (inl h) = absurd (omega arith)
    outside j (inr h) =
        let e : j ≡ length (tabulate n f) + (j - n) = rw (length_tabulate n f) (omega arith) in
        let d : n + (j - n) ≡ j = omega arith in
        ap (λ (x : ℕ). get_or (tabulate n f ++ drop n l) x 0) e
        ∙ get_or-append-add (tabulate n f) (drop n l) (j - n) 0
        ∙ get_or-drop n l (j - n) 0
        ∙ ap (λ (x : ℕ). get_or l x 0) d

-- an entry of a run from the start
pub stored_first : (l : List ℕ) (f : ℕ → ℕ) (n k : ℕ) → n ≤ length l → k < n → get_or (stored l 0 f n) k 0 ≡ f k
stored_first l f n k fits h = ap (λ (j : ℕ). get_or (stored l 0 f n) j 0) (sym (zero-add k)) ∙ stored_in l 0 f n k (omega arith) h

pub stored_push : (l : List ℕ) (f : ℕ → ℕ) (n : ℕ) → set (stored l 0 f n) n (f n) ≡ stored l 0 f (n + 1)
stored_push l f n = ap (λ (j : ℕ). set (stored l 0 f n) j (f n)) (sym (zero-add n)) ∙ stored_next l 0 f n

-- the same entries, the same list
pub stored_eq : (l : List ℕ) (at : ℕ) (f g : ℕ → ℕ) (n : ℕ) → ((k : ℕ) → k < n → f k ≡ g k) → stored l at f n ≡ stored l at g n
unfolding stored
stored_eq l at f g zero h = refl
stored_eq l at f g (suc n) h =
    let before = stored_eq l at f g n (λ k m. h k (omega arith)) in
    let last = h n (omega arith) in
    λ i. set (before i) (at + n) (last i)

-- nothing yet, of a run of rows
pub stored_none : (l : List ℕ) (at : ℕ) (f : ℕ → ℕ) (stride : ℕ) → l ≡ stored l at f (0 * stride)
unfolding stored
stored_none l at f stride = rw (zero-mul stride)

-- a run from the start with a run of zeros behind it
pub stored_zeros : (l l' : List ℕ) (f : ℕ → ℕ) (n : ℕ) → length l' ≡ length l → n + n ≤ length l
    → ((k : ℕ) → k < n → get_or l' k 0 ≡ f k) → ((j : ℕ) → n + n ≤ j → get_or l' j 0 ≡ get_or l j 0)
    → stored l' n (λ (i : ℕ). 0) n ≡ tabulate n f ++ replicate n 0 ++ drop (2 * n) l
stored_zeros l l' f n same fits run rest =
    ext_get_or 0 _ (tabulate n f ++ (replicate n 0 ++ drop (2 * n) l)) (length_stored l' n (λ (i : ℕ). 0) n ∙ same ∙ sym long)
    (λ j h. go j (dec_le (suc j) n) (dec_le (n + n) j))
    ∙ sym (append_assoc (tabulate n f) (replicate n 0) (drop (2 * n) l))
  where
    long : length (tabulate n f ++ (replicate n 0 ++ drop (2 * n) l)) ≡ length l
    long =
        length-append (tabulate n f) (replicate n 0 ++ drop (2 * n) l)
        ∙ ap₂ ◌+◌ (length_tabulate n f) (length-append (replicate n 0) (drop (2 * n) l)
        ∙ ap₂ ◌+◌ (length-replicate {A = ℕ} n 0) (length-drop (2 * n) l))
        ∙ omega arith

    go : (j : ℕ) → Dec (suc j ≤ n) → Dec (n + n ≤ j)
        → get_or (stored l' n (λ (i : ℕ). 0) n) j 0 ≡ get_or (tabulate n f ++ (replicate n 0 ++ drop (2 * n) l)) j 0
    go j (yes h) d = stored_out l' n (λ (i : ℕ). 0) n j (inl h) ∙ run j h ∙ sym (get_d_tabulate n j f (replicate n 0 ++ drop (2 * n) l) h)
    go j (no h) (no d) =
        let e : j ≡ n + (j - n) = omega arith in
        let t : n + (j - n) ≡ length (tabulate n f) + (j - n) = rw (length_tabulate n f) in
        rw e (stored_in l' n (λ (i : ℕ). 0) n (j - n) (omega arith) (omega arith))
        ∙ sym (ap (λ (x : ℕ). get_or (tabulate n f ++ (replicate n 0 ++ drop (2 * n) l)) x 0) (e ∙ t)
        ∙ get_or-append-add (tabulate n f) (replicate n 0 ++ drop (2 * n) l) (j - n) 0
        ∙ get_or-append (replicate n 0) (drop (2 * n) l) 0 (j - n) (rw (length-replicate {A = ℕ} n 0) (omega arith))
        ∙ get_or-replicate n (j - n) 0 0 (omega arith))
    go j (no h) (yes d) =
        let e : j ≡ length (tabulate n f) + (length {A = ℕ} (replicate n 0) + (j - 2 * n)) =
        rw (length_tabulate n f, length-replicate {A = ℕ} n 0) (omega arith) in
        let back : 2 * n + (j - 2 * n) ≡ j = omega arith in
        stored_out l' n (λ (i : ℕ). 0) n j (inr d)
        ∙ rest j d
        ∙ sym (ap (λ (x : ℕ). get_or (tabulate n f ++ (replicate n 0 ++ drop (2 * n) l)) x 0) e
        ∙ get_or-append-add (tabulate n f) (replicate n 0 ++ drop (2 * n) l) _ 0
        ∙ get_or-append-add (replicate n 0) (drop (2 * n) l) (j - 2 * n) 0
        ∙ get_or-drop (2 * n) l (j - 2 * n) 0
        ∙ ap (λ (x : ℕ). get_or l x 0) back)

-- .. and zeros from the start: what stood there plays no part
pub stored_clear : (l l' : List ℕ) (n : ℕ) → length l' ≡ length l → n ≤ length l → ((j : ℕ) → n ≤ j → get_or l' j 0 ≡ get_or l j 0)
    → stored l' 0 (λ (i : ℕ). 0) n ≡ replicate n 0 ++ drop n l
stored_clear l l' n same fits rest =
    is_stored l (stored l' 0 (λ (i : ℕ). 0) n) 0 (λ (i : ℕ). 0) n (length_stored l' 0 (λ (i : ℕ). 0) n ∙ same) (omega arith)
    (λ k h. stored_in l' 0 (λ (i : ℕ). 0) n k (omega arith) h) outside
    ∙ stored_front l (λ (i : ℕ). 0) n fits
    ∙ ap (λ (xs : List ℕ). xs ++ drop n l) (tabulate_zeros n (λ (i : ℕ). 0) (λ k h. refl))
  where
    outside : (j : ℕ) → (j < 0) ⊎ (0 + n ≤ j) → get_or (stored l' 0 (λ (i : ℕ). 0) n) j 0 ≡ get_or l j 0
    outside j (inl h) = absurd (omega arith)
    outside j (inr h) = stored_out l' 0 (λ (i : ℕ). 0) n j (inr h) ∙ rest j (omega arith)

-- two runs from the start, the second of zeros, as one list
pub stored_two : (l : List ℕ) (f : ℕ → ℕ) (n : ℕ) → n + n ≤ length l
    → stored (stored l 0 f n) n (λ (i : ℕ). 0) n ≡ tabulate n f ++ replicate n 0 ++ drop (2 * n) l
stored_two l f n fits =
    stored_zeros l (stored l 0 f n) f n (length_stored l 0 f n) fits (λ k h. stored_first l f n k (omega arith) h)
    (λ j h. stored_out l 0 f n j (inr (omega arith)))
