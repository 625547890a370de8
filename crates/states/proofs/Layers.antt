-- The rows of a layer: what each reads is there when its turn comes. Assumes nothing.
use Rattle.std.specs.Prelude.{◌≢◌}
use mathlib.Core.Bool.{Bool, true}
use mathlib.Core.List.{List}
use mathlib.Core.Logic.{◌⊎◌, inl, inr}
use mathlib.Core.Path.{◌≡◌, ap, sym, ◌∙◌, subst, fun_ext}
use Prim.Native.Nat.{ℕ, ◌+◌, ◌-◌, ◌*◌, ◌≤◌, ◌<◌}
use native.Mathlib.Nat.{le_trans}
use native.Mathlib.Omega.{arith}
use lib.ListN.{length, get_or}
use Rattle.slices.specs.Stored.{stored, length_stored, stored_out}
use Rattle.slices.specs.Rows.{cells, cells_kept, flat, layer_stored, within_rows}
use Rattle.rules.specs.Date.{Behaviour, dynamic}
use Rattle.date.specs.Behaviour.{behaviour_in}
use Rattle.states.specs.declared.States.{States}
use Rattle.keys.specs.declared.Date.{Date}
use Rattle.keys.specs.Sums.{Sums, sums, sums_as, sums_less, sums_moved}
use Rattle.worth.specs.Worth.{best_value, best_amount}
use Rattle.worth.specs.Further.{further_key}
use Rattle.proportion.specs.Share.{Rising}
use Rattle.dynamic.specs.Block.{Row}
use Rattle.states.specs.Decided.{Ready, Prepared, Decided}

-- what stands from base on is kept: so are the sums
second_kept : (work work' : List ℕ) (d : Date) → ((i : ℕ) → d.base ≤ i → get_or work' i 0 ≡ get_or work i 0)
    → cells work' d.base d.stride ≡ cells work d.base d.stride
second_kept work work' d kept = fun_ext (λ x. fun_ext (λ y. kept _ (omega arith)))

pub sums_left : (work work' : List ℕ) (d : Date) → ((i : ℕ) → d.base ≤ i → get_or work' i 0 ≡ get_or work i 0) → sums work' d ≡ sums work d
sums_left work work' d kept = sums_as work work' d (second_kept work work' d kept)

-- ---- what the dynamic behaviour reads
pub prepared_further : {work work' : List ℕ} {d : Date} {n : ℕ} {rising : Bool} → Sums work d n
    → work' ≡ stored work 0 (flat d.stride (further_key (cells work d.base d.stride) (8192 * (10000 - d.rate)))) (n * d.stride)
    → (rising ≡ true → Rising (cells work d.base d.stride) d.stride n)
    × (Rising (cells work d.base d.stride) d.stride n → rising ≡ true) → Prepared work work' d n rising
prepared_further {work = work} {d = d} {n = n} s e told =
    let step = 8192 * (10000 - d.rate) in
    let same = ap (λ (xs : List ℕ). cells xs d.base d.stride) e
    ∙ cells_kept work 0 (n * d.stride) d.base d.stride _ (omega (arith, s.apart)) in record {
      long = ap length e ∙ length_stored work 0 _ _;
      kept = λ i h. ap (λ (xs : List ℕ). get_or xs i 0) e ∙ stored_out work 0 _ _ i (inr (omega arith));
      furthered = record {
        each = λ b a p q.
            ap (λ (xs : List ℕ). cells xs 0 d.stride b a) e
            ∙ (layer_stored work 0 d.stride n (further_key (cells work d.base d.stride) step)
            (omega (arith, s.apart, s.room))).cell b a p q
            ∙ ap (λ (f : ℕ → ℕ → ℕ). further_key f step b a) (sym same);
      };
      rises = told.0;
      tested = told.1;
    }

module _ {work work' : List ℕ} {d : Date} {n : ℕ} {rising : Bool} (s : Sums work d n) (p : Prepared work work' d n rising) where
  same : cells work' d.base d.stride ≡ cells work d.base d.stride
  same = second_kept work work' d (λ i h. p.kept i (le_trans s.apart h))

  prepared_sums : sums work' d ≡ sums work d
  prepared_sums = sums_as work work' d same

  pub prepared_layers : Sums work' d n
  prepared_layers = sums_moved s p.long same

  -- every row is ready
  pub prepared_row : (w : ℕ) → w < n → Row work' d w rising
  prepared_row w h = record {
    furthered = record { each = λ b a i l. p.furthered.each b a (omega arith) l };
    rises = λ z.
        let up = subst (λ (e : ℕ → ℕ → ℕ). Rising e d.stride n) (sym same) (p.rises z) in
        record { step = λ x y i l. up.step x y (omega arith) l };
  }

  -- .. and the layer is decided as the call was given it
  pub decided_all : {b : Behaviour} {table work₁ table₁ : List ℕ} → Decided b (sums work' d) work' table work₁ table₁ d 0 (n * d.stride)
      → Decided b (sums work d) work table work₁ table₁ d 0 (n * d.stride)
  decided_all {b = b} x = record {
    long = x.long ∙ p.long;
    long_table = x.long_table;
    values = λ i h l. x.values i h l ∙ ap (λ (e : ℕ → ℕ → ℕ). flat d.stride (best_value b e d.rate d.level) i) prepared_sums;
    amounts = λ i h l t. x.amounts i h l t
        ∙ ap (λ (e : ℕ → ℕ → ℕ). flat d.stride (best_amount b e d.rate d.level) i) prepared_sums;
    rest = λ i o. x.rest i o ∙ p.kept i (behind i o);
    rest_table = x.rest_table;
  }
    where
      behind : (i : ℕ) → (i < 0) ⊎ (n * d.stride ≤ i) → n * d.stride ≤ i
      behind i (inl h) = absurd (omega arith)
      behind i (inr h) = h

-- .. and stays so while what it reads stays
pub ready_kept : {x : States} {work work' : List ℕ} {w : ℕ} → Ready x work w → length work' ≡ length work
    → ((i : ℕ) → i < w * x.d.stride → get_or work' i 0 ≡ get_or work i 0)
    → ((i : ℕ) → x.d.base ≤ i → get_or work' i 0 ≡ get_or work i 0) → Ready x work' w
ready_kept {x} {work} {work'} {w} r long below behind =
    let d = x.d in
    let same = second_kept work work' d behind in record {
      layers = sums_moved r.layers long same;
      row = λ two.
          let row = r.row two in record {
            furthered = record {
              each = λ b a i l.
                  below _ (let m = within_rows d.stride w b a i l in omega arith)
                  ∙ row.furthered.each b a i l
                  ∙ ap (λ (e : ℕ → ℕ → ℕ). further_key e (8192 * (10000 - d.rate)) b a) (sym same);
            };
            rises = λ z. subst (λ (e : ℕ → ℕ → ℕ). Rising e d.stride (w + 1)) (sym same) (row.rises z);
          };
    }

-- the rows from the last one down, and from the first one up
pub ready_down : {x : States} {work : List ℕ} {n w : ℕ} → Sums work x.d n → w < n → Row work x.d w x.rising → Ready x work w
ready_down {w = w} s h row = record { layers = sums_less s (w + 1) (omega arith); row = λ two. row }

pub ready_up : {x : States} {work work' : List ℕ} {n w : ℕ} → behaviour_in x.behaviour ≢ dynamic → Sums work x.d n → w < n
    → length work' ≡ length work
    → ((i : ℕ) → x.d.base ≤ i → get_or work' i 0 ≡ get_or work i 0) → Ready x work' w
ready_up {x} {work} {work'} {w = w} other s h long behind = record {
  layers = sums_less (sums_moved s long (second_kept work work' x.d behind)) (w + 1) (omega arith);
  row = λ two. absurd (other two);
}
