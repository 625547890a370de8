-- `supplied::bad_entry` meets its contract. Assumes nothing.
use Prim.Native.Nat.{ℕ, ◌+◌, ◌/◌}
use mathlib.Core.Bool.{not}
use mathlib.Core.Path.{sym, ap, ap₂, ◌∙◌}
use Rattle.std.proofs.Common.{le-leb, le_trans}
use Rattle.std.proofs.Math.Nat.{le-max_left}
use Rattle.rules.specs.Date.{dynamic, admits, largest_amount}
use Rattle.rules.specs.FixedTerm.{admissible_in, layout_of, free_in}
use Rattle.laws.specs.Terms.{bad_at}
use Rattle.supplied.proofs.bad_entry.Goals as goal

pub returns : goal.returns
unfolding bad_at admissible_in layout_of free_in
returns c =
    let admitted = rw c.stride-stride.ensures at c.admits_dynamic.ensures in
    let free = rw c.stride-stride.ensures at c.free_amount-m.ensures in
    ap not (admitted ∙ ap₂ (λ (m t : ℕ). admits dynamic m (c.args.e / (c.args.c.premium + 1)) t)
    free c.from-t.ensures)

-- an amount within the account is admitted, whatever m is
pub returns-then-t-w : goal.returns-then-t-w
unfolding bad_at admissible_in layout_of free_in admits largest_amount
returns-then-t-w c =
    let within = rw (c.stride-stride.ensures, c.from-t.ensures) at c.if-t-w.true in
    sym (ap not (le-leb _ _ (le_trans within (le-max_left _ _))))
