-- `death::Death::left` meets its contract. Assumes nothing.
use Rattle.std.proofs.Common.{ℕ, ◌+◌, ◌*◌, ◌/◌, ◌%◌, ◌≡◌, ap, ◌∙◌, arith}
use Rattle.death.proofs.Laws.{left_is, left_small}
use Rattle.death.proofs.Death.left.Goals as goal

pub returns : goal.returns
returns c =
    let pre = c.requires in
    let d = c.args.self in
    -- a value of 32 bits is its low half
    let same : c.args.value % 4294967296 ≡ c.args.value = omega arith in
    let is =
    ap (λ (v : ℕ). (d.high * v + d.low * v / 4294967296) / 4294967296) same ∙ left_is d.halves c.args.value pre in
    (is, rw is (left_small d.rate c.args.value pre))
