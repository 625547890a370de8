-- `report::value_all` meets its contract. Assumes nothing.
use Rattle.std.proofs.Common.{◌≡◌, ap, sym, ◌∙◌, arith}
use Rattle.std.proofs.lemmas.Result.{err_from_is_err_and}
use Rattle.contract.specs.Refusal.{number_in, place_in, verdict_in}
use Rattle.rules.specs.Date.{static, mixed, dynamic}
use Rattle.rules.specs.Operations.{behaviour_of}
use Rattle.rules.specs.Printed.{program_verdict}
use Rattle.rules.specs.Refusals.{refused}
use Rattle.report.specs.Tables.{work_left}
use Rattle.report.proofs.Laws.{called, Called, not_both, zeros_lent, table_kept, work_kept, work_again}
use Rattle.report.proofs.value_all.Goals as goal
use Rattle.report.proofs.value_all.Goals.{After-value, After-value-2, After-value-3}

-- what the three calls answer and leave
first : (c : After-value)
    → Called c.args.bytes.now c.args.list.now static c.args.work.now c.args.statics.now c.value.result c.value.new.work c.value.new.table
unfolding behaviour_of
first c = called _ _ 0 (omega arith) (zeros_lent _ c.rates_length-n.ensures) c.told-work c.told-statics c.value.ensures

second : (c : After-value-2)
    → Called c.args.bytes.now c.args.list.now mixed c.value.new.work c.args.mixeds.now c.value-2.result c.value-2.new.work
    c.value-2.new.table
unfolding behaviour_of
second c =
    called _ _ 1 (omega arith) (zeros_lent _ c.rates_length-n.ensures) (c.value.auto.work ∙ c.told-work) c.told-mixeds c.value-2.ensures

third : (c : After-value-3)
    → Called c.args.bytes.now c.args.list.now dynamic c.value-2.new.work c.args.dynamics.now c.value-3.result c.value-3.new.work
    c.value-3.new.table
unfolding behaviour_of
third c =
    called _ _ 2 (omega arith) (zeros_lent _ c.rates_length-n.ensures) (c.value-2.auto.work ∙ c.value.auto.work ∙ c.told-work)
    c.told-dynamics c.value-3.ensures

pub returns-in_err-statics : goal.returns-in_err-statics
returns-in_err-statics c =
    let x = first (goal.at.returns-in_err-statics c).After-value in
    let p = err_from_is_err_and c.from_residual.result c.from_residual.ensures.1 in
    let e : refused (number_in c.in_err-statics.field-0.0) (place_in c.in_err-statics.field-0.0)
    ≡ program_verdict c.args.bytes.now c.args.list.now = sym (ap verdict_in c.in_err-statics.was) ∙ x.verdict_of in
    record {
      verdict = rw (p.1, p.2) e;
      values = rw p.1 tt;
      work_after = x.work_of ∙ work_kept _ _ e static dynamic _;
      statics_after = x.table_of;
      mixeds_after = table_kept _ _ e mixed _;
      dynamics_after = table_kept _ _ e dynamic _;
    }

pub returns-in_err-mixeds : goal.returns-in_err-mixeds
returns-in_err-mixeds c =
    let w = goal.at.returns-in_err-mixeds c in
    absurd (not_both (sym (ap verdict_in c.in_ok-statics.was) ∙ (first w.After-value).verdict_of)
    (sym (ap verdict_in c.in_err-mixeds.was) ∙ (second w.After-value-2).verdict_of))

pub returns-in_err-dynamics : goal.returns-in_err-dynamics
returns-in_err-dynamics c =
    let w = goal.at.returns-in_err-dynamics c in
    absurd (not_both (sym (ap verdict_in c.in_ok-statics.was) ∙ (first w.After-value).verdict_of)
    (sym (ap verdict_in c.in_err-dynamics.was) ∙ (third w.After-value-3).verdict_of))

pub returns : goal.returns
returns c =
    let w = goal.at.returns c in
    let x = first w.After-value in
    let y = second w.After-value-2 in
    let z = third w.After-value-3 in
    record {
      verdict = sym (ap verdict_in c.in_ok-statics.was) ∙ x.verdict_of;
      values = record {
        static_is = x.value_of _ c.in_ok-statics.was;
        mixed_is = y.value_of _ c.in_ok-mixeds.was;
        dynamic_is = z.value_of _ c.in_ok-dynamics.was;
      };
      work_after =
          z.work_of
          ∙ ap (work_left c.args.bytes.now c.args.list.now dynamic)
          (y.work_of ∙ ap (work_left c.args.bytes.now c.args.list.now mixed) x.work_of ∙ work_again _ _ static mixed _)
          ∙ work_again _ _ mixed dynamic _;
      statics_after = x.table_of;
      mixeds_after = y.table_of;
      dynamics_after = z.table_of;
    }
