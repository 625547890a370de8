-- The fixed-term contract is sound: it owes the third demand nothing more. Assumes nothing.
use Rattle.std.specs.Prelude.{ℕ, ◌+◌, ◌-◌, ◌≤◌, ◌<◌}
use Rattle.std.proofs.Common.{le_refl, le_trans, mod-lt, div-lt_iff_lt-mul, mul-le-mul, mul-le-mul_left, mul-pos, arith}
use Rattle.decision.specs.Index.{sum_le}
use Rattle.decision.specs.Process.{Averaging, Open, Closed}
use Rattle.decision.specs.Layers.{Placed, low_digit, high_digit, two_digits}
use Rattle.rules.specs.Contract.{Terms, Returns, Rates}
use Rattle.rules.specs.Date.{Behaviour, largest_amount, discounted}
use Rattle.rules.specs.FixedTerm.{State, Held, InRange, free_in, admissible_in, after_in, reach_by, death_by, mean_by_list, held_by_list}
use Rattle.rules.specs.FixedTerm.{process_of, layer_size, layout_of, fixed_term}
use Rattle.rules.proofs.ByList.{mean_by_list_lem}
use Rattle.laws.specs.Accepted.{Valid}
use Rattle.laws.specs.Date.{static_mixed, mixed_dynamic, admits_free, admits_within, guarantee_le, account_le, share_mono}
use Rattle.laws.specs.Demand.{Sound}
use Rattle.laws.specs.Terms.{start_held, table_size}

discounted_le : (d x y : ℕ) → x ≤ y → discounted d x ≤ discounted d y
unfolding discounted
discounted_le d x y l = let m = mul-le-mul_left d l in omega arith

-- more reached is never a smaller mean
pub mean_mono : (c : Terms) (rs : Returns) {f g : ℕ → ℕ} → ((k : ℕ) → k < rs.count → f k ≤ g k) → mean_by_list c rs f ≤ mean_by_list c rs g
unfolding mean_by_list
mean_mono c rs h = discounted_le c.discount _ _ (sum_le _ _ rs.count (λ k l. mul-le-mul_left (rs.weight k) (h k l)))

pub averages : (c : Terms) (rs : Returns) (ds : Rates) → Averaging (process_of c rs ds)
unfolding process_of held_by_list
averages c rs ds = record {
  rises = λ i h v w g. mean_mono c rs (λ k l. share_mono (ds i) (g k l) (le_refl (death_by c rs h k)));
  listed = mean_by_list_lem c rs ds;
}

pub opened : (c : Terms) (rs : Returns) (ds : Rates) (b : Behaviour) → Open (process_of c rs ds) (admissible_in c b)
unfolding process_of admissible_in largest_amount
opened c rs ds b = record {
  some = free_in c;
  admissible = λ s. admits_free b (free_in c s) s.account;
  within = λ s t p. admits_within b (free_in c s) s.account t p;
}

-- the states that a return leads to are in range
pub reached_in_range : (c : Terms) (rs : Returns) (h : Held) (k : ℕ) → h.guarantee ≤ c.premium → InRange c (reach_by c rs h k)
unfolding reach_by
reached_in_range c rs h k l = record { account = account_le _ _ _ _; guarantee = l }

pub after_falls : (c : Terms) (i : ℕ) (s : State) (t : ℕ) → s.guarantee ≤ c.premium → (after_in c i s t).guarantee ≤ c.premium
unfolding after_in
after_falls c i s t g = le_trans (guarantee_le (free_in c s) s.account s.guarantee t) (omega arith)

-- whatever is withdrawn, the next state has an entry
pub closed : (c : Terms) (rs : Returns) (ds : Rates) (b : Behaviour) → Closed (process_of c rs ds) (admissible_in c b) (InRange c)
unfolding process_of after_in
closed c rs ds b = record {
  starts = λ k l. reached_in_range c rs (start_held c) k (le_refl _);
  stays = λ i s t k g p l. reached_in_range c rs (after_in c i s t) k (after_falls c i s t g.guarantee);
}

-- the states of a layer are in range
pub placed_in_range : (c : Terms) (e : ℕ) → e < layer_size c → InRange c ((layout_of c).state_at e)
unfolding layout_of layer_size
placed_in_range c e l =
    let p : 0 < c.premium + 1 = omega arith in
    let w = (div-lt_iff_lt-mul {k = c.premium + 1} {x = e} {y = c.top + 1} p).1 l in
    let a = mod-lt e p in
    record { account = omega arith; guarantee = omega arith }

pub size_some : (c : Terms) → 0 < layer_size c
unfolding layer_size
size_some c = mul-pos {m = c.top + 1} {n = c.premium + 1} (omega arith) (omega arith)

-- a layer has at most 4,001 × 4,001 entries, and the table 39 layers
abbrev pub layer_most : ℕ
layer_most = 16008001

abbrev pub table_most : ℕ
table_most = 624312039

pub size_most : {c : Terms} → Valid c → layer_size c ≤ layer_most
unfolding layer_size
size_most {c} v =
    let w : c.top + 1 ≤ 4001 = omega (arith, v.top) in
    let a : c.premium + 1 ≤ 4001 = omega (arith, v.premium, v.top) in
    mul-le-mul w a

pub table_most_lem : {c : Terms} → Valid c → table_size c ≤ table_most
unfolding table_size
table_most_lem {c} v = let d : c.dates - 1 ≤ 39 = omega (arith, v.dates) in mul-le-mul d (size_most v)

pub placed : (c : Terms) → Placed (layout_of c)
unfolding layout_of layer_size
placed c = record {
  placed = λ s g.
      two_digits s.account s.guarantee (c.top + 1) (c.premium + 1) (omega (arith, g.account)) (omega (arith, g.guarantee));
  state_place = λ s g.
      let l : s.guarantee < c.premium + 1 = omega (arith, g.guarantee) in
      let p = high_digit s.account s.guarantee (c.premium + 1) l in
      let q = low_digit s.account s.guarantee (c.premium + 1) l in
      λ i. record { account = p i; guarantee = q i };
}

pub sound : (c : Terms) (rs : Returns) (ds : Rates) → Valid c → Sound (fixed_term c rs ds)
unfolding fixed_term process_of admissible_in layout_of
sound c rs ds v = record {
  dates = v.dates_least;
  averages = averages c rs ds;
  opened = opened c rs ds;
  closed = closed c rs ds;
  static_mixed = λ s t p. static_mixed (free_in c s) s.account t p;
  mixed_dynamic = λ s t p. mixed_dynamic (free_in c s) s.account t p;
  placed = placed c;
}
