-- `sched::plan_at` meets its contract.
use mathlib.Core.Path.{refl, ap, ◌∙◌}
use lib.ListN.{length}
use Rattle.std.proofs.Common.{rules}
use Rattle.number.specs.Exits.{handed_on}
use Rattle.order.specs.Plan.{plan_in}
use Rattle.sched.specs.CallLaws.{zeros, ended_with}
use Rattle.sched.proofs.CallLaws.{planned_checked, names_kept}
use Rattle.sched.proofs.plan_at.Goals as goal

pub returns-in_err-counts : goal.returns-in_err-counts
returns-in_err-counts c =
    let x = c.args in
    let h = c.in_err-counts.ensures.0 in
    rw (handed_on _ _ c.from_residual.ensures.1)
    (planned_checked (record { results = x.results.now; names = x.names.now; work = x.work.now }) (plan_in x.plan.now.sheet) _ c.check_plan.new.names _ h.number_is h.id_is h.named
    (search rules ∙ h.cleared ∙ ap zeros c.of-tables.ensures.4))

pub returns : goal.returns
returns c =
    let x = c.args in
    let h = c.in_ok-counts.ensures.0 in
    ap (ended_with c.run_plan.result c.run_plan.new.results c.run_plan.new.names) (search rules)
    ∙ c.run_plan.ensures.0 (record { results = x.results.now; names = x.names.now; work = x.work.now })
    (record {
      results_is = refl;
      names_is = h.named;
      names_length = names_kept x.plan.now.sheet.bytes.now x.plan.now.sheet.contents x.names.now c.check_plan.new.names c.requires.2 h.named;
      work_length = c.in_ok-counts.ensures.1.cells ∙ ap length c.of-tables.ensures.4;
    })
