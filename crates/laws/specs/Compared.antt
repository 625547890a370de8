-- Two contracts compared: the one in a unit k times as fine, and with no larger fee, is worth at least k times as much. The fee alone
-- is k = 1, which laws/Fee proves by itself; the unit alone is one fee (actuary/Unit). Assumes nothing.
use Rattle.std.specs.Prelude.{◌≡◌, refl, ℕ, ◌*◌, ◌≤◌}
use Rattle.std.proofs.Common.{le_of_eq}
use Rattle.std.proofs.Math.Nat.{le_refl}
use Rattle.rules.specs.Contract.{Terms}
use Rattle.rules.specs.Date.{Behaviour, static, mixed, dynamic}
use Rattle.rules.specs.FixedTerm.{State, Held}

-- the guarantees that are compared: under static and mixed withdrawals one and the same, under dynamic ones also a larger one. A
-- static holder of more guarantee has to withdraw more, and may be worth less.
unfoldable pub Covered : Behaviour → ℕ → ℕ → Type 0
Covered static a b = a ≡ b
Covered mixed a b = a ≡ b
Covered dynamic a b = a ≤ b

pub record Below (b : Behaviour) (s u : State) : Type 0 where
  pub account : s.account ≤ u.account
  pub guarantee : Covered b s.guarantee u.guarantee

pub record Less (b : Behaviour) (h g : Held) : Type 0 where
  pub balance : h.balance ≤ g.balance
  pub guarantee : Covered b h.guarantee g.guarantee

pub covered_le : (b : Behaviour) {x y : ℕ} → Covered b x y → x ≤ y
unfolding Covered
covered_le static e = le_of_eq e
covered_le mixed e = le_of_eq e
covered_le dynamic l = l

pub covered_same : (b : Behaviour) (x : ℕ) → Covered b x x
unfolding Covered
covered_same static x = refl
covered_same mixed x = refl
covered_same dynamic x = le_refl x

-- the contract with k units for each one: premium, level and top times k, and all else as it is
abbrev pub in_units : ℕ → Terms → Terms
in_units k c = record {
  premium = k * c.premium;
  level = k * c.level;
  top = k * c.top;
  dates = c.dates;
  fee = c.fee;
  penalty = c.penalty;
  discount = c.discount;
  step = c.step;
  spare = c.spare;
}

-- .. and its states
abbrev pub state_in : ℕ → State → State
state_in k s = record { account = k * s.account; guarantee = k * s.guarantee }

abbrev pub held_in : ℕ → Held → Held
held_in k h = record { balance = k * h.balance; guarantee = k * h.guarantee }
