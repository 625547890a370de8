-- `input::first_bad` meets its contract. Assumes nothing.
use native.Mathlib.Omega.{arith}
use Rattle.input.proofs.first_bad.Goals as goal

pub first-requires : goal.first-requires
first-requires c = λ k h κs r e1 e2 ranges u l. (omega arith, omega arith)
