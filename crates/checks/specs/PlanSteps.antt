-- All checks: what the parts answer is what the call says.
use Rattle.std.specs.Prelude.{List, ℕ, length, Result, Ok, Err}
use Rattle.std.proofs.Common.{subst}
use Rattle.memory.specs.declared.Tables.{Tables}
use Rattle.order.specs.Plan.{plan_of, plan_in}
use Rattle.order.specs.Checks.{Verdict, or_else, checked}
use Rattle.ids.specs.Lent.{Lent}
use Rattle.order.specs.declared.PlanError.{PlanError}
use Rattle.checks.specs.declared.PlanCounts.{PlanCounts}
use Rattle.checks.specs.Stages.{ids_verdict, summaries_verdict, Judged, PlanChecked}
use Rattle.checks.specs.StageLaws.{checked_is}
use Rattle.calendars.specs.declared.plan_sheet.PlanSheet.{PlanSheet}

module _ (plan : PlanSheet) (names : List ℕ) (tables : Tables) (names' : List ℕ) (tables' : Tables) (lent : Lent plan.sheet tables') where
  whole : (r : Result PlanCounts PlanError) → Judged (plan_in plan.sheet) (checked (plan_in plan.sheet)) (length names) (length tables.cells.now) names' tables' r → PlanChecked plan names tables names' tables' r
  unfolding plan_of
  whole (Ok counts) h = record {
    fine = h.fine;
    ready = record {
      activities = lent.activities;
      links = lent.links;
      fine = h.fine;
      standing = h.standing;
    };
    elsewhere = h.elsewhere;
    named = h.named;
    counted = h.counted;
  }
  whole (Err e) h = record { number_is = h.number_is; id_is = h.id_is; named = h.named; cleared = h.cleared }

  pub plan_checked_lem : (r : Result PlanCounts PlanError) → Judged (plan_in plan.sheet) (or_else (ids_verdict (plan_in plan.sheet)) (summaries_verdict (plan_in plan.sheet))) (length names) (length tables.cells.now) names' tables' r
      → PlanChecked plan names tables names' tables' r
  plan_checked_lem r h =
      whole r (subst (λ (v : Verdict). Judged (plan_in plan.sheet) v (length names) (length tables.cells.now) names' tables' r) (checked_is (plan_in plan.sheet)) h)
