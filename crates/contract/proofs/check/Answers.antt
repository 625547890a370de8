-- `contract::check` meets its contract: each check that passes is found among what is known, and not by the name of its branch.
-- Assumes nothing.
use Rattle.std.proofs.Common.{◌≡◌, ◌||◌, not, true, false, ltb, eqb}
use Rattle.rules.specs.Contract.{word, long, terms_of, terms_under, top_most, rate_most}
use Rattle.rules.specs.Refusals.{outside, verdict, terms_checks}
use Rattle.contract.proofs.check.Goals as goal

pub returns-then-bad_premium : goal.returns-then-bad_premium
unfolding verdict terms_checks terms_of terms_under
returns-then-bad_premium c =
    let b = c.args.bytes.now in
    let fails : (ltb top_most (word b 4) || outside 1 (word b 4) (word b 0)) ≡ true = cc in
    rw fails

pub returns-then-outside : goal.returns-then-outside
unfolding verdict terms_checks terms_of terms_under
returns-then-outside c =
    let b = c.args.bytes.now in
    let p1 : (ltb top_most (word b 4) || outside 1 (word b 4) (word b 0)) ≡ false = cc in
    let fails : outside 1 (word b 0) (word b 2) ≡ true = cc in
    rw (p1, fails)

pub returns-then-outside-2 : goal.returns-then-outside-2
unfolding verdict terms_checks terms_of terms_under
returns-then-outside-2 c =
    let b = c.args.bytes.now in
    let p1 : (ltb top_most (word b 4) || outside 1 (word b 4) (word b 0)) ≡ false = cc in
    let p2 : outside 1 (word b 0) (word b 2) ≡ false = cc in
    let fails : outside 1 40 (word b 6) ≡ true = cc in
    rw (p1, p2, fails)

pub returns-then-bad_rates : goal.returns-then-bad_rates
unfolding verdict terms_checks terms_of terms_under
returns-then-bad_rates c =
    let b = c.args.bytes.now in
    let p1 : (ltb top_most (word b 4) || outside 1 (word b 4) (word b 0)) ≡ false = cc in
    let p2 : outside 1 (word b 0) (word b 2) ≡ false = cc in
    let p3 : outside 1 40 (word b 6) ≡ false = cc in
    let fails : (ltb rate_most (word b 8) || ltb rate_most (word b 10)) ≡ true = cc in
    rw (p1, p2, p3, fails)

pub returns-then-outside-3 : goal.returns-then-outside-3
unfolding verdict terms_checks terms_of terms_under
returns-then-outside-3 c =
    let b = c.args.bytes.now in
    let p1 : (ltb top_most (word b 4) || outside 1 (word b 4) (word b 0)) ≡ false = cc in
    let p2 : outside 1 (word b 0) (word b 2) ≡ false = cc in
    let p3 : outside 1 40 (word b 6) ≡ false = cc in
    let p4 : (ltb rate_most (word b 8) || ltb rate_most (word b 10)) ≡ false = cc in
    let fails : outside 1 1000000 (long b 12) ≡ true = cc in
    rw (p1, p2, p3, p4, fails)

pub returns-then-bad_step : goal.returns-then-bad_step
unfolding verdict terms_checks terms_of terms_under
returns-then-bad_step c =
    let b = c.args.bytes.now in
    let p1 : (ltb top_most (word b 4) || outside 1 (word b 4) (word b 0)) ≡ false = cc in
    let p2 : outside 1 (word b 0) (word b 2) ≡ false = cc in
    let p3 : outside 1 40 (word b 6) ≡ false = cc in
    let p4 : (ltb rate_most (word b 8) || ltb rate_most (word b 10)) ≡ false = cc in
    let p5 : outside 1 1000000 (long b 12) ≡ false = cc in
    let fails : (ltb rate_most (word b 16) || not (eqb (word b 18) 0)) ≡ true = cc in
    rw (p1, p2, p3, p4, p5, fails)

pub returns : goal.returns
unfolding verdict terms_checks terms_of terms_under
returns c =
    let b = c.args.bytes.now in
    let p1 : (ltb top_most (word b 4) || outside 1 (word b 4) (word b 0)) ≡ false = cc in
    let p2 : outside 1 (word b 0) (word b 2) ≡ false = cc in
    let p3 : outside 1 40 (word b 6) ≡ false = cc in
    let p4 : (ltb rate_most (word b 8) || ltb rate_most (word b 10)) ≡ false = cc in
    let p5 : outside 1 1000000 (long b 12) ≡ false = cc in
    let p6 : (ltb rate_most (word b 16) || not (eqb (word b 18) 0)) ≡ false = cc in
    rw (p1, p2, p3, p4, p5, p6)
