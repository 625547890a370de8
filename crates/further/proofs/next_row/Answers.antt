-- `further::next_row` meets its contract. Assumes nothing.
use Prim.Native.Nat.{◌+◌, ◌-◌}
use mathlib.Core.Path.{◌≡◌, ap, ◌∙◌}
use native.Mathlib.Omega.{arith}
use Rattle.slices.specs.Stored.{stored}
use Rattle.further.proofs.Run.{run_none}
use Rattle.further.proofs.Laws.{first_part, rest_part, run_room, run_joins}
use Rattle.further.proofs.next_row.Goals as goal

pub better_run-requires : goal.better_run-requires
better_run-requires c =
    let pre = c.requires in
    run_room pre.0 pre.1 pre.2 pre.3 (first_part _ pre.0 pre.2) run_none.is

pub better_run-requires-2 : goal.better_run-requires-2
better_run-requires-2 c =
    let pre = c.requires in
    let first = run_joins pre.0 pre.1 pre.2 pre.3 (first_part _ pre.0 pre.2) run_none.is c.better_run.ensures in
    run_room pre.0 pre.1 pre.2 pre.3 (rest_part _ pre.0 pre.2) first

pub returns : goal.returns
returns c =
    let pre = c.requires in
    let first = run_joins pre.0 pre.1 pre.2 pre.3 (first_part _ pre.0 pre.2) run_none.is c.better_run.ensures in
    let all : 1 + (c.args.d.stride - 1) ≡ c.args.d.stride = omega arith in
    run_joins pre.0 pre.1 pre.2 pre.3 (rest_part _ pre.0 pre.2)
    first c.better_run-2.ensures
    ∙ ap (stored _ _ _) all
