-- What a list shows of its returns. Assumes nothing.
use Rattle.std.specs.Prelude.{List, ◌≡◌, ℕ, ◌*◌, ◌≤◌, length}
use Rattle.std.proofs.Common.{div-add-mod', arith}
use Rattle.rules.specs.Contract.{returns_of}
use Rattle.laws.specs.Accepted.{ValidReturns}

pub record Counted (list : List ℕ) (count : ℕ) : Type 0 where
  pub long : 4 * count ≤ length list
  pub valid : ValidReturns (returns_of list)
  pub all : count ≡ (returns_of list).count

pub counted : {list : List ℕ} {n : ℕ} → n ≡ (returns_of list).count → ValidReturns (returns_of list) → Counted list n
unfolding returns_of
counted {list} e valid = record {
  long = rw e (let d = div-add-mod' (length list) 4 in omega arith);
  valid = valid;
  all = e;
}
