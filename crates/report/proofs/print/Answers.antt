-- `report::print` meets its contract. Assumes nothing.
use Rattle.std.proofs.Common.{sym, refl, le_refl, arith}
use Rattle.report.specs.Text.{put_then, put_shown, put_counts}
use Rattle.report.proofs.Laws.{all_filled, accepted_printed, refused_printed}
use Rattle.report.proofs.print.Goals as goal
use Rattle.report.proofs.print.Goals.{in-Ok, in-Err}

pub all_lines-requires-clause-filled : goal.all_lines-requires-clause-filled
all_lines-requires-clause-filled c =
    all_filled _ _ (sym c.in-Ok.ensures.verdict) c.value_all.array_long2 c.value_all.array_long3 c.value_all.array_long4

pub returns : goal.returns
returns c =
    let bytes₀ = c.args.bytes.now in
    let list₀ = c.args.list.now in
    let left = c.value_all.ensures in
    elim c.match-value_all.branch [
      | in-Ok w ↦
          let p = put_then w.values.ensures w.all_lines.ensures in
          rw w.text-is (record {
            text = put_shown p refl
                (accepted_printed bytes₀ list₀ (sym w.in-Ok.ensures.verdict) _ _ _ left.statics_after left.mixeds_after left.dynamics_after
                w.in-Ok.ensures.values);
            counts = put_counts p refl (omega (arith, c.told-out));
            rest = p.kept _ (le_refl _);
            work_after = left.work_after;
            statics_after = left.statics_after;
            mixeds_after = left.mixeds_after;
            dynamics_after = left.dynamics_after;
          })
      | in-Err w ↦
          let p = w.refusal.ensures in
          rw w.text-is (record {
            text = put_shown p refl (refused_printed bytes₀ list₀ w.in-Err.ensures.verdict);
            counts = put_counts p refl (omega (arith, c.told-out));
            rest = p.kept _ (le_refl _);
            work_after = left.work_after;
            statics_after = left.statics_after;
            mixeds_after = left.mixeds_after;
            dynamics_after = left.dynamics_after;
          })
    ]
