-- When one process is what is left of another after `d` dates: from date 1 on it has the values and the amounts of that other from
-- date d + 1 on. Assumes nothing.
use Rattle.std.specs.Prelude.{List, ◌≡◌, get_or, drop}
use Rattle.std.proofs.Math.Path.{ap, ap₂}
use Rattle.std.proofs.Common.{sym, ◌∙◌, add-suc, add-mul, arith}
use Prim.Native.Nat.{ℕ, zero, suc, ◌+◌, ◌-◌, ◌*◌, ◌/◌, ◌%◌, ◌<◌}
use Rattle.std.proofs.Math.Nat.{mul-add-div_right, mul-add-mod_self_right}
use Rattle.decision.specs.Choice.{largest, smallest_best}
use Rattle.decision.specs.Index.{tabulate, drop_tabulate, tabulate_eq, get_d_drop}
use Rattle.decision.specs.Layers.{Layout, entry, lookup, layers}
use Rattle.decision.specs.Process.{Process, Rule, Table, worth, value_over, value, recorded, table_over, table_value}

module _ {S H : Type 0} (P Q : Process S H) (d : ℕ) where
  -- Q on date i is P on date d + i, for i from 1 on
  pub record Continues : Type 0 where
    pub dates : Q.dates ≡ P.dates - d
    pub limit : (s : S) → Q.limit s ≡ P.limit s
    pub cash : (i : ℕ) (s : S) (t : ℕ) → Q.cash (suc i) s t ≡ P.cash (d + suc i) s t
    pub after : (i : ℕ) (s : S) (t : ℕ) → Q.after (suc i) s t ≡ P.after (d + suc i) s t
    pub by_state : (i : ℕ) (h : H) (v : S → ℕ) → Q.by_state (suc i) h v ≡ P.by_state (d + suc i) h v
    pub final : (s : S) → Q.final s ≡ P.final s

  module _ (x : Continues) where
    worth_later : (v w : S → ℕ) → ((s : S) → v s ≡ w s) → (i : ℕ) (s : S) (t : ℕ) → worth Q v (suc i) s t ≡ worth P w (d + suc i) s t
    unfolding worth
    worth_later v w e i s t =
        ap₂ ◌+◌ (x.cash i s t) (x.by_state i _ v ∙ (λ j. P.by_state (d + suc i) (x.after i s t j) (λ y. e y j)))

  module _ (x : Continues) (r : Rule S) where
    over_later : (n i : ℕ) (s : S) → value_over Q r n (suc i) s ≡ value_over P r n (d + suc i) s
    unfolding value_over
    over_later zero i s = x.final s
    over_later (suc n) i s =
        let next : (y : S) → value_over Q r n (suc (suc i)) y ≡ value_over P r n (suc (d + suc i)) y =
        λ y. over_later n (suc i) y ∙ ap (λ (k : ℕ). value_over P r n k y) (add-suc d (suc i)) in
        (λ j. largest (r s) (λ t. worth_later x _ _ next i s t j) (x.limit s j))

    -- values, and recorded amounts
    pub value_later : (i : ℕ) (s : S) → value Q r (suc i) s ≡ value P r (d + suc i) s
    unfolding value
    value_later i s =
        let e : Q.dates - suc i ≡ P.dates - (d + suc i) = omega (arith, x.dates) in
        ap (λ (n : ℕ). value_over Q r n (suc i) s) e ∙ over_later _ i s

    pub recorded_later : (i : ℕ) (s : S) → recorded Q r (suc i) s ≡ recorded P r (d + suc i) s
    unfolding recorded
    recorded_later i s =
        let next : (y : S) → value Q r (suc (suc i)) y ≡ value P r (suc (d + suc i)) y =
        λ y. value_later (suc i) y ∙ ap (λ (k : ℕ). value P r k y) (add-suc d (suc i)) in
        (λ j. smallest_best (r s) (λ t. worth_later x _ _ next i s t j) (x.limit s j))

  -- .. and the values of a table, where its amounts go on too
  module _ (x : Continues) (f g : Table S) (same : (i : ℕ) (s : S) → g (suc i) s ≡ f (d + suc i) s) where
    table_over_later : (n i : ℕ) (s : S) → table_over Q g n (suc i) s ≡ table_over P f n (d + suc i) s
    unfolding table_over
    table_over_later zero i s = x.final s
    table_over_later (suc n) i s =
        let next : (y : S) → table_over Q g n (suc (suc i)) y ≡ table_over P f n (suc (d + suc i)) y =
        λ y. table_over_later n (suc i) y ∙ ap (λ (k : ℕ). table_over P f n k y) (add-suc d (suc i)) in
        ap (worth Q _ (suc i) s) (same i s) ∙ worth_later x _ _ next i s (f (d + suc i) s)

    pub table_value_later : (i : ℕ) (s : S) → table_value Q g (suc i) s ≡ table_value P f (d + suc i) s
    unfolding table_value
    table_value_later i s =
        let e : Q.dates - suc i ≡ P.dates - (d + suc i) = omega (arith, x.dates) in
        ap (λ (n : ℕ). table_over Q g n (suc i) s) e ∙ table_over_later _ i s

-- a list behind its first d layers is a table of the dates left
pub lookup_later : {S : Type 0} (L : Layout S) (d : ℕ) (xs : List ℕ) (i : ℕ) (s : S)
    → lookup L (drop (d * L.size) xs) (suc i) s ≡ lookup L xs (d + suc i) s
unfolding lookup entry
lookup_later L d xs i s =
    let e : suc i - 1 ≡ i = omega arith in
    let f : d + suc i - 1 ≡ d + i = omega arith in
    get_d_drop (d * L.size) _ xs
    ∙ ap (λ (n : ℕ). get_or xs n 0) (rw (e, f) (omega (arith, add-mul d i L.size)))

-- the layers of the dates left are those behind the first d
pub layers_later : {S : Type 0} (L : Layout S) → 0 < L.size → (n d : ℕ) (f g : ℕ → S → ℕ)
    → ((i : ℕ) (s : S) → g (suc i) s ≡ f (d + suc i) s)
    → layers L n g ≡ drop (d * L.size) (layers L (d + n) f)
unfolding layers
layers_later L some n d f g e =
    let size = L.size in
    let F : ℕ → ℕ = λ k. f (suc (k / size)) (L.state_at (k % size)) in
    tabulate_eq (n * size) _ _ (λ k l.
    let q : d + suc (k / size) ≡ suc ((d * size + k) / size) = omega (arith, mul-add-div_right some d k) in
    e (k / size) (L.state_at (k % size)) ∙ ap₂ f q (ap L.state_at (sym (mul-add-mod_self_right d size k))))
    ∙ sym (ap (λ (m : ℕ). drop (d * size) (tabulate m F)) (add-mul d n size) ∙ drop_tabulate (d * size) (n * size) F)
