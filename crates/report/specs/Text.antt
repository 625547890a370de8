-- Text put into a buffer of bytes. Assumes nothing.
use Rattle.std.specs.Prelude.{List, [], ◌∷◌, ◌++◌, ◌≡◌, refl, ℕ, zero, suc, ◌+◌, ◌-◌, ◌*◌, ◌/◌, ◌%◌, ◌≤◌, ◌<◌, length, take, drop, set}
use Rattle.std.specs.Prelude.{get_or}
use Rattle.std.proofs.Common.{append_assoc, append-nil, ap, sym, ◌∙◌, le_refl, mod-eq_of_lt, add-one, arith, length-take-le, take-suc}
use Rattle.std.proofs.Common.{take-suc-set, drop-set-lt, lt-ltb, le-ltb}
use Rattle.rules.specs.Printed.{digits, decimal, numbered, lines_of}
use Rattle.std.proofs.Math.ListN.{length-set}
use Rattle.report.specs.declared.Text as declared

-- n more bytes fit
abbrev pub Room : ℕ → declared.Text → Type 0
Room n t = t.at + n ≤ length t.bytes.now

-- the text stands behind what stood before it, in at most `most` bytes; the buffer is the same one, and what lies behind is kept
pub record Put (most : ℕ) (t : declared.Text) (text : List ℕ) (t' : declared.Text) : Type 0 where
  pub same : t'.bytes.ghost_name ≡ t.bytes.ghost_name
  pub long : length t'.bytes.now ≡ length t.bytes.now
  pub from : t.at ≤ t'.at
  pub within : t'.at ≤ t.at + most
  pub holds : take t'.at t'.bytes.now ≡ take t.at t.bytes.now ++ text
  pub kept : (n : ℕ) → t'.at ≤ n → drop n t'.bytes.now ≡ drop n t.bytes.now

pub put_none : (t : declared.Text) (most : ℕ) → Put most t [] t
put_none t most = record {
  same = refl;
  long = refl;
  from = le_refl t.at;
  within = omega arith;
  holds = sym (append-nil (take t.at t.bytes.now));
  kept = λ n h. refl;
}

pub put_byte : {t t' : declared.Text} (b : ℕ) → t.at < length t.bytes.now → t'.bytes.ghost_name ≡ t.bytes.ghost_name → t'.at ≡ t.at + 1
    → t'.bytes.now ≡ set t.bytes.now t.at b → Put 1 t (b ∷ []) t'
put_byte {t = t} {t' = t'} b h same next is = let out = t.bytes.now in record {
  same = same;
  long = ap length is ∙ length-set out t.at b;
  from = omega arith;
  within = omega arith;
  holds = rw (is, next) (ap (λ (k : ℕ). take k (set out t.at b)) (add-one t.at) ∙ take-suc-set out t.at b h);
  kept = λ n l. rw is (drop-set-lt n out t.at b (omega arith));
}

-- one text behind the other
pub put_then : {m n : ℕ} {t u v : declared.Text} {a b : List ℕ} → Put m t a u → Put n u b v → Put (m + n) t (a ++ b) v
put_then {t = t} {a = a} {b = b} p q = record {
  same = q.same ∙ p.same;
  long = q.long ∙ p.long;
  from = omega (arith, p.from, q.from);
  within = omega (arith, p.within, q.within);
  holds = q.holds ∙ ap (λ (l : List ℕ). l ++ b) p.holds ∙ append_assoc (take t.at t.bytes.now) a b;
  kept = λ n l. q.kept n l ∙ p.kept n (omega (arith, q.from));
}

pub put_most : {m n : ℕ} {t u : declared.Text} {a : List ℕ} → m ≤ n → Put m t a u → Put n t a u
put_most h p = record { same = p.same; long = p.long; from = p.from; within = omega (arith, p.within); holds = p.holds; kept = p.kept }

pub put_eq : {m : ℕ} {t u : declared.Text} {a b : List ℕ} → a ≡ b → Put m t a u → Put m t b u
put_eq {t = t} e p = record {
  same = p.same;
  long = p.long;
  from = p.from;
  within = p.within;
  holds = p.holds ∙ ap (λ (l : List ℕ). take t.at t.bytes.now ++ l) e;
  kept = p.kept;
}

-- what a buffer shows that was empty
pub put_shown : {most : ℕ} {t u : declared.Text} {text a : List ℕ} → Put most t text u → t.at ≡ 0 → text ≡ a → take u.at u.bytes.now ≡ a
put_shown p start e = p.holds ∙ rw start e

-- n counts bytes at the start of xs; both parts are stated, so that a caller may lend `&xs[..n]` with no proof of its own
abbrev pub Counts : ℕ → List ℕ → Type 0
Counts n xs = (n ≤ length xs) × (n ≡ length (take n xs))

pub put_counts : {most : ℕ} {t u : declared.Text} {text : List ℕ} → Put most t text u → t.at ≡ 0 → most ≤ length t.bytes.now
    → Counts u.at u.bytes.now
put_counts {u = u} p start room =
    let l : u.at ≤ length u.bytes.now = omega (arith, p.within, p.long) in (l, sym (length-take-le u.at u.bytes.now l))

-- ---- digits
pub digits_none : (places x : ℕ) → places ≡ 0 → digits places x ≡ []
unfolding digits
digits_none places x e = rw e

pub digits_one : (places x : ℕ) → 0 < places → x < 10 → digits places x ≡ (48 + x % 10) ∷ []
unfolding digits
digits_one zero x h l = absurd (omega arith)
digits_one (suc places) x h l = rw (lt-ltb x 10 l, mod-eq_of_lt l)

pub digits_more : (places x : ℕ) → 0 < places → 10 ≤ x → digits places x ≡ digits (places - 1) (x / 10) ++ ((48 + x % 10) ∷ [])
unfolding digits
digits_more zero x h l = absurd (omega arith)
digits_more (suc places) x h l = let e : suc places - 1 ≡ places = omega arith in rw (le-ltb x 10 l, e)

-- ---- what loops hold
-- one more byte of a text
pub put_next : {i : ℕ} {t u v : declared.Text} (text : List ℕ) → i < length text → Put i t (take i text) u
    → Put 1 u (get_or text i 0 ∷ []) v
    → Put (i + 1) t (take (i + 1) text) v
put_next {i = i} text h p q = put_eq (sym (ap (λ (k : ℕ). take k text) (add-one i) ∙ take-suc text i 0 h)) (put_then p q)

-- numbers, a space before each
unfoldable pub spaced : List ℕ → List ℕ
spaced [] = []
spaced (x ∷ xs) = (32 ∷ decimal x) ++ spaced xs

pub numbered_lem : (xs : List ℕ) → numbered xs ≡ spaced xs ++ (10 ∷ [])
unfolding numbered spaced
numbered_lem [] = refl
numbered_lem (x ∷ xs) =
    ap (λ (l : List ℕ). (32 ∷ decimal x) ++ l) (numbered_lem xs) ∙ sym (append_assoc (32 ∷ decimal x) (spaced xs) (10 ∷ []))

spaced_end : (xs : List ℕ) (x : ℕ) → spaced (xs ++ (x ∷ [])) ≡ spaced xs ++ (32 ∷ decimal x)
unfolding spaced
spaced_end [] x = append-nil (32 ∷ decimal x)
spaced_end (y ∷ xs) x =
    ap (λ (l : List ℕ). (32 ∷ decimal y) ++ l) (spaced_end xs x) ∙ sym (append_assoc (32 ∷ decimal y) (spaced xs) (32 ∷ decimal x))

-- one more number
pub put_number : {i : ℕ} {t u v : declared.Text} (xs : List ℕ) → i < length xs → Put (21 * i) t (spaced (take i xs)) u
    → Put 21 u (32 ∷ decimal (get_or xs i 0)) v → Put (21 * (i + 1)) t (spaced (take (i + 1) xs)) v
put_number {i = i} xs h p q =
    let e : spaced (take (i + 1) xs) ≡ spaced (take i xs) ++ (32 ∷ decimal (get_or xs i 0)) =
    ap (λ (k : ℕ). spaced (take k xs)) (add-one i) ∙ ap spaced (take-suc xs i 0 h) ∙ spaced_end (take i xs) (get_or xs i 0) in
    put_most (omega arith) (put_eq (sym e) (put_then p q))

-- one more line
pub put_line : {k n : ℕ} {t u v : declared.Text} (f : ℕ → List ℕ) → Put (n * k) t (lines_of f k) u → Put n u (f k) v
    → Put (n * (k + 1)) t (lines_of f (k + 1)) v
unfolding lines_of
put_line {k = k} {n = n} f p q = let h : n * k + n ≤ n * (k + 1) = omega arith in put_most h (rw (add-one k) (put_then p q))
