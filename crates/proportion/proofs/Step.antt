-- From the way of one amount to that of the next: a row less, a step less, and what one more unit pays.
use Rattle.std.proofs.Common.{◌≡◌, ℕ, ◌+◌, ◌-◌, ◌*◌, ◌^◌, ◌<◌, ◌≤◌, List, sym, ap, ◌∙◌, le_trans, mul-le-mul_right, arith}
use Rattle.slices.specs.Rows.{rows_before}
use Rattle.rules.specs.Contract.{top_most}
use Rattle.rules.specs.Date.{cash, penalty}
use Rattle.laws.specs.Date.{cash_le}
use Rattle.keys.specs.declared.Block.{Block}
use Rattle.keys.specs.declared.Date.{Date}
use Rattle.keys.specs.Key.{amount_most, key, key_small}
use Rattle.keys.specs.Sums.{Span, row_in}
use Rattle.proportion.specs.declared.Way.{Way}
use Rattle.proportion.specs.Share.{Shared, Stepped, Leading, inverse_of}

cash_next : (rate level t : ℕ) → rate ≤ 10000 → level ≤ t → cash rate level (t + 1) ≡ cash rate level t + (10000 - rate)
unfolding cash penalty
cash_next rate level t h l =
    let x : t + 1 - level ≡ t - level + 1 = omega arith in
    let up : rate * (t + 1 - level) ≡ rate * (t - level) + rate = ap (λ (z : ℕ). rate * z) x ∙ omega arith in
    let few : rate * (t - level) ≤ 10000 * (t - level) = mul-le-mul_right (t - level) h in
    omega arith

key_next : (v net t : ℕ) → t < amount_most → key (v + net) (t + 1) ≡ key v t + 8192 * net - 1
unfolding key
key_next v net t h = omega arith

row_next : (w t x : ℕ) → t < w → (w - t) * x ≡ (w - (t + 1)) * x + x
row_next w t x h =
    let e : w - t - 1 ≡ w - (t + 1) = omega arith in rows_before x (w - t) (omega arith) ∙ ap (λ (z : ℕ). z * x + x) e

shared_next : {d : Date} {w : ℕ} {to to' : Way} → Shared d w to → d.rate ≤ 10000 → d.level ≤ to.t → to.t < w → w ≤ 4000
    → Stepped d (inverse_of w) to to' → Shared d w to'
shared_next {d} {w} {to} {to'} s rate level more top e =
    let t = to.t in
    let add = e.3 ∙ ap (λ (z : ℕ). z + 8192 * (10000 - d.rate) - 1) s.add_is
    ∙ sym (key_next (cash d.rate d.level t) (10000 - d.rate) t (omega arith))
    ∙ ap (λ (z : ℕ). key z (t + 1)) (sym (cash_next d.rate d.level t rate level)) in
    record {
      at_is = (let x = row_next w t d.stride more in omega (arith, s.at_is, e.1))
          ∙ ap (λ (z : ℕ). d.base + (w - z) * d.stride) (sym e.0);
      step_is = (let x = row_next w t (inverse_of w) more in omega (arith, s.step_is, e.2))
          ∙ ap (λ (z : ℕ). (w - z) * inverse_of w) (sym e.0);
      add_is = add ∙ ap (λ (z : ℕ). key (cash d.rate d.level z) z) (sym e.0);
      add_small =
          let k = key_small (cash d.rate d.level (t + 1)) (t + 1) 40010000
          (le_trans (cash_le d.rate d.level (t + 1)) (omega arith)) in
          omega arith;
    }

pub shared_on : {work : List ℕ} {d : Date} {s : Block} {to to' : Way} → Span work d s → Shared d s.w to → d.level ≤ to.t
    → to.t < s.w → Stepped d (inverse_of s.w) to to' → Leading d s to'
shared_on b x level more e = record {
  above = omega (arith, e.0);
  upto = omega (arith, e.0);
  shared = shared_next x b.layers.rate_is level more (omega (arith, b.layers.few)) e;
}

-- what a step takes is there
pub shared_some : {work : List ℕ} {d : Date} {s : Block} {to : Way} → Span work d s → Shared d s.w to → to.t < s.w
    → (to.t < top_most) × (d.stride ≤ to.at) × (inverse_of s.w ≤ to.step) × (1 ≤ to.add) × (to.add < 2 ^ 59) × (d.rate ≤ 10000)
unfolding key
shared_some {d = d} {s = s} {to = to} b x h =
    let one = row_in b.layers 0 0 d.stride (omega arith) (omega arith) in
    let e = row_next s.w to.t (inverse_of s.w) h in (
      omega (arith, b.layers.few),
      omega (arith, x.at_is),
      omega (arith, x.step_is),
      omega (arith, x.add_is, b.layers.few),
      x.add_small,
      b.layers.rate_is,
    )
