-- The amounts above m where the account is below the guarantee, for a run of states. Assumes nothing.
use Rattle.std.proofs.Common.{◌≡◌, ℕ, ◌+◌, ◌-◌, ◌*◌, ◌/◌, ◌^◌, ◌<◌, ◌≤◌, max, List, length, get_or, sym, refl, ap, ◌∙◌, ap₂, le_trans}
use Rattle.std.proofs.Common.{sub-le, arith}
use native.Mathlib.Nat.{max-eq_left}
use Rattle.slices.specs.Stored.{is_stored, stored_eq}
use Rattle.slices.specs.Rows.{cells}
use Rattle.rules.specs.Date.{cash}
use Rattle.laws.specs.Date.{free_level}
use Rattle.keys.specs.declared.Block.{Block}
use Rattle.keys.specs.declared.Date.{Date}
use Rattle.keys.specs.Key.{key, key_add}
use Rattle.keys.specs.Sums.{Span, sums, sum_in, sum_small}
use Rattle.worth.specs.Laws.{above_is}
use Rattle.proportion.specs.declared.Run.{Run}
use Rattle.proportion.specs.declared.Way.{Way}
use Rattle.proportion.specs.Held.{raised_to, free_of, key_at, key_most}
use Rattle.proportion.specs.Share.{Leading, Sharing, Running, Bounded, inverse_of, left}
use Rattle.proportion.proofs.Inverse.{share_is, share_le, share_rises, share_small}
use Rattle.proportion.proofs.Rising.{rising_le}

-- a key is above 0, and so is what bounds it
some_bound : (w t v add below : ℕ) {bound : ℕ} → t ≤ w → w ≤ 4000 → add ≡ key v t → below + add ≤ bound → 0 < bound
unfolding key
some_bound w t v add below upto top e h = omega arith

module _ {work : List ℕ} {d : Date} {s : Block} (b : Span work d s) where
  account : s.w ≤ 4000
  account = omega (arith, b.layers.few)

  module _ {to : Way} (way : Leading d s to) where
    abbrev t : ℕ
    t = to.t

    some : 1 ≤ s.w
    some = omega (arith, way.above, way.upto)

    -- the guarantee left to state j, whose guarantee a is above the account
    module _ {a : ℕ} (j : ℕ) (a_is : a ≡ s.from + j) (above : s.w < a) (end : j < s.n) where
      high : a ≤ 4000
      high = omega (arith, b.columns, b.layers.width)

      left_is : left to.step a ≡ a * (s.w - t) / s.w
      left_is =
          ap (λ (z : ℕ). a * z / 1099511627776) way.shared.step_is
          ∙ share_is s.w (inverse_of s.w) some account refl a (s.w - t) (omega (arith, high)) (sub-le _ _)

      inside : a * (s.w - t) / s.w < d.stride
      inside = let k = share_le a (s.w - t) s.w (sub-le _ _) in omega (arith, b.columns)

      place_is : to.at + left to.step a ≡ d.base + ((s.w - t) * d.stride + a * (s.w - t) / s.w)
      place_is = ap₂ (λ (y z : ℕ). y + z) way.shared.at_is left_is ∙ omega arith

      pub way_in : to.at + left to.step a < length work
      way_in = let k = sum_in b.layers (s.w - t) (a * (s.w - t) / s.w) 1 (omega arith) (let i = inside in omega arith) in
          omega (arith, place_is)

      sum_is : get_or work (to.at + left to.step a) 0 ≡ cells work d.base d.stride (s.w - t) (a * (s.w - t) / s.w)
      sum_is = ap (λ (y : ℕ). get_or work y 0) place_is

      pub way_small : get_or work (to.at + left to.step a) 0 < 2 ^ 59
      way_small = let k = sum_small b.layers (s.w - t) _ (omega arith) inside in omega (arith, sum_is)

      way_product : a * to.step < 2 ^ 63
      way_product =
          let k = share_small s.w (inverse_of s.w) some account refl a (s.w - t) (omega (arith, high)) (sub-le _ _) in
          omega (arith, ap (λ (z : ℕ). a * z) way.shared.step_is)

      pub way_key : get_or work (to.at + left to.step a) 0 + to.add ≡ key_at work d s j t
      way_key =
          let m = free_level d.level (s.from + j) (omega (arith, way.above, way.upto)) in
          ap₂ (λ (y z : ℕ). y + z) (sum_is ∙ b.layers.scaled (s.w - t) _ (omega arith) inside) way.shared.add_is
          ∙ sym (key_add (cash d.rate d.level t) (sums work d (s.w - t) (a * (s.w - t) / s.w)) t)
          ∙ ap₂ (λ (y z : ℕ). key (cash d.rate y t + sums work d (s.w - t) (z * (s.w - t) / s.w)) t) (sym m) a_is
          ∙ ap (λ (v : ℕ). key v t) (sym (above_is (sums work d) d.rate (free_of d s j) s.w (s.from + j) t
          (omega (arith, m, way.above)) way.upto (omega arith)))

    -- ---- the states of a run
    module _ {r : Run} (x : Running d s r) (nonempty : r.low < r.end) where
      first_is : (i : ℕ) → s.from + r.low + i ≡ s.from + (r.low + i)
      first_is i = omega arith

      above_is' : (i : ℕ) → s.w < s.from + r.low + i
      above_is' i = omega (arith, x.above)

      -- .. and the last of them
      last_is : s.from + r.end - 1 ≡ s.from + (r.end - 1)
      last_is = omega (arith)

      last_above : s.w < s.from + r.end - 1
      last_above = omega (arith, x.above)

      last_end : r.end - 1 < s.n
      last_end = omega (arith, x.within)

      pub way_last : ((s.from + r.end - 1) * to.step < 18446744073709551616)
          × (to.at + left to.step (s.from + r.end - 1) < length work)
          × (get_or work (to.at + left to.step (s.from + r.end - 1)) 0 + to.add < 18446744073709551616)
      way_last =
          let p = way_product (r.end - 1) last_is last_above last_end in
          let q = way_small (r.end - 1) last_is last_above last_end in
          (omega arith, way_in (r.end - 1) last_is last_above last_end, omega (arith, way.shared.add_small))

      pub way_sharing : Sharing work r.low (r.end - r.low) (s.from + r.low) to
      way_sharing = record {
        within = λ i l. omega (arith, b.short, x.within);
        columns = omega (arith, b.columns, b.layers.width, x.within);
        more = way.shared.add_small;
        product =
            let a : s.from + r.low + (r.end - r.low) ≤ 4001 = omega (arith, b.columns, b.layers.width, x.within) in
            let k = share_small s.w (inverse_of s.w) some account refl _ (s.w - t) a (sub-le _ _) in
            omega (arith, ap (λ (z : ℕ). (s.from + r.low + (r.end - r.low)) * z) way.shared.step_is);
        room = λ i l. way_in (r.low + i) (first_is i) (above_is' i) (omega (arith, x.within));
        small = λ i l. way_small (r.low + i) (first_is i) (above_is' i) (omega (arith, x.within));
      }

      -- what is offered is the key of the amount
      pub way_raised : (best : List ℕ) {best' : List ℕ}
          → best' ≡ raised_to best r.low (λ i. get_or work (to.at + left to.step (s.from + r.low + i)) 0 + to.add) (r.end - r.low)
          → best' ≡ raised_to best r.low (λ i. key_at work d s (r.low + i) t) (r.end - r.low)
      way_raised best e = e ∙ stored_eq best r.low _ _ (r.end - r.low)
          (λ i l. ap (max (get_or best (r.low + i) 0)) (way_key (r.low + i) (first_is i) (above_is' i) (omega (arith, x.within))))

      pub way_few : (i : ℕ) → i < r.end - r.low → key_at work d s (r.low + i) t ≤ key_most
      way_few i l =
          let k = way_small (r.low + i) (first_is i) (above_is' i) (omega (arith, x.within)) in
          let e = way_key (r.low + i) (first_is i) (above_is' i) (omega (arith, x.within)) in
          omega (arith, way.shared.add_small)

      -- the last state of the run has the largest guarantee: where it does not gain, none does
      pub way_passed : {best : List ℕ} → 512 ≤ length best → Bounded work d s (λ j. get_or best j 0) r
          → get_or work (to.at + left to.step (s.from + r.end - 1)) 0 + to.add ≤ r.bound
          → best ≡ raised_to best r.low (λ i. key_at work d s (r.low + i) t) (r.end - r.low)
      way_passed {best} long bounded small =
          is_stored best best r.low _ (r.end - r.low) refl (omega (arith, b.short, x.within))
          (λ i l. sym (max-eq_left (le_trans (no_more i l) (bounded.each (r.low + i) (omega arith) (omega arith)))))
          (λ j o. refl)
        where
          no_more : (i : ℕ) → i < r.end - r.low → key_at work d s (r.low + i) t ≤ r.bound
          no_more i l =
              let a = s.from + r.low + i in
              let last = s.from + r.end - 1 in
              let here = way_key (r.low + i) (first_is i) (above_is' i) (omega (arith, x.within)) in
              let rises = bounded.rises (some_bound s.w t _ to.add _ way.upto account way.shared.add_is small) in
              let up = rising_le rises (s.w - t)
              (a * (s.w - t) / s.w) (last * (s.w - t) / s.w) (omega arith)
              (share_rises a last (s.w - t) s.w some (omega arith)) (inside (r.end - 1) last_is last_above last_end) in
              let low = sum_is (r.low + i) (first_is i) (above_is' i) (omega (arith, x.within)) in
              let high = sum_is (r.end - 1) last_is last_above last_end in
              omega arith
