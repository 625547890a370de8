-- A part of a slice that was handed on and comes back. Assumes nothing.
use Rattle.std.specs.Prelude.{List, ◌++◌, ◌≡◌, ℕ, ◌+◌, ◌-◌, ◌≤◌, ◌<◌, length, get_or, take, drop}
use Rattle.std.proofs.Common.{ap, sym, ◌∙◌, arith, length-take-le, get_or-append-add, get_or-take, get_or-drop}
use Rattle.std.proofs.Math.ListN.{get_or-append}
use borrow.Rule.Slice.PartMut.{mid_of, post_of, put_mid, same_len_mid, mid_len, drop_put}

-- the entries of a part are those of the slice
pub part_at : (a e j : ℕ) (xs : List ℕ) → j < e - a → get_or (mid_of a (e - a) xs) j 0 ≡ get_or xs (a + j) 0
part_at a e j xs h = get_or-take (e - a) (drop a xs) j 0 h ∙ get_or-drop a xs j 0

-- ys in the place of the part from a to e
module _ (a e : ℕ) (xs ys : List ℕ) (h : a ≤ e) (g : e ≤ length xs) (l : length ys ≡ e - a) where
  pub put_long : length (put_mid a (e - a) xs ys) ≡ length xs
  put_long = same_len_mid a (e - a) xs ys (l ∙ sym (mid_len a e xs g))

  pub put_in : (j : ℕ) → j < e - a → get_or (put_mid a (e - a) xs ys) (a + j) 0 ≡ get_or ys j 0
  put_in j k =
      let n = length-take-le a xs (let z : a ≤ length xs = omega arith in z) in
      ap (λ (m : ℕ). get_or (put_mid a (e - a) xs ys) (m + j) 0) (sym n)
      ∙ get_or-append-add (take a xs) (ys ++ post_of a (e - a) xs) j 0
      ∙ get_or-append ys (post_of a (e - a) xs) 0 j (omega arith)

  pub put_below : (j : ℕ) → j < a → get_or (put_mid a (e - a) xs ys) j 0 ≡ get_or xs j 0
  put_below j k =
      let n = length-take-le a xs (let z : a ≤ length xs = omega arith in z) in
      get_or-append (take a xs) (ys ++ post_of a (e - a) xs) 0 j (omega arith) ∙ get_or-take a xs j 0 k

  pub put_above : (j : ℕ) → e ≤ j → get_or (put_mid a (e - a) xs ys) j 0 ≡ get_or xs j 0
  put_above j k =
      let i : e + (j - e) ≡ j = omega arith in
      ap (λ (m : ℕ). get_or (put_mid a (e - a) xs ys) m 0) (sym i)
      ∙ sym (get_or-drop e (put_mid a (e - a) xs ys) (j - e) 0)
      ∙ ap (λ (z : List ℕ). get_or z (j - e) 0) (drop_put a e xs ys h g l)
      ∙ get_or-drop e xs (j - e) 0
      ∙ ap (λ (m : ℕ). get_or xs m 0) i
