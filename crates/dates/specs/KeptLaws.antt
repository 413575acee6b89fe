-- What a pass leaves of what stands: under its frame the plan is ready, recorded work is recorded, and the dates of other fields are the same.
use Rattle.std.specs.Prelude.{◌≡◌, true, ℕ, ◌≤◌, Ok}
use Rattle.std.proofs.Common.{sym, subst, ◌∙◌}
use Rattle.memory.specs.State.{State}
use Rattle.memory.specs.declared.Tables.{Tables}
use Rattle.memory.specs.Seen.{state, SameSlice}
use Rattle.memory.specs.Fields.{late_start, late_finish, early_start, early_finish, work_left, free_float, recorded_as, recorded_start, recorded_finish}
use Rattle.topology.specs.Frame.{outside, Frame}
use Rattle.order.specs.Plan.{Plan, plan_in}
use Rattle.passes.specs.Plan.{origin}
use Rattle.dates.specs.Columns.{early_in, late_in, free_in}
use Rattle.dates.specs.ColumnLaws.{column_same}
use Rattle.dates.specs.Standing.{actual_of, Standing, Ready, Recorded}
use Rattle.dates.specs.StandingLaws.{standing_kept}
use Rattle.calendars.specs.declared.plan_sheet.PlanSheet.{PlanSheet}

pub ready_kept : {lo hi : ℕ} {plan : PlanSheet} {tables tables' : Tables} → Ready plan tables
    → Frame lo hi 0 0 (state tables) (state tables') → SameSlice tables tables' → 10 ≤ lo
    → Ready plan tables'
ready_kept {lo} {hi} {plan} {tables} R F e l = record {
  activities = e.activities ∙ R.activities;
  links = e.links ∙ R.links;
  fine = R.fine;
  standing = standing_kept F (plan_in plan.sheet) l (subst (λ (n : ℕ). Standing (plan_in plan.sheet) n (state tables)) (sym e.kept) R.standing);
}

-- by the fields that are read; of literals each is `refl`
module _ {lo hi : ℕ} {S T : State} (F : Frame lo hi 0 0 S T) (p : Plan) where
  pub recorded_kept : outside lo hi recorded_as ≡ true → outside lo hi recorded_start ≡ true → outside lo hi recorded_finish ≡ true → Recorded p S → Recorded p T
  recorded_kept a b c R = λ i l. (λ z. Ok (actual_of (F.acts recorded_as a z i) (F.acts recorded_start b z i) (F.acts recorded_finish c z i))) ∙ R i l

  pub early_kept : outside lo hi early_start ≡ true → outside lo hi early_finish ≡ true → outside lo hi work_left ≡ true → early_in p T ≡ early_in p S
  early_kept a b c = λ z. record {
    es = column_same p.activities (λ i. origin p) early_start S T (F.acts early_start a) z;
    ef = column_same p.activities (λ i. origin p) early_finish S T (F.acts early_finish b) z;
    left = column_same p.activities (λ i. 0) work_left S T (F.acts work_left c) z;
  }

  pub late_kept : outside lo hi late_start ≡ true → outside lo hi late_finish ≡ true → (e : ℕ) → late_in p T e ≡ late_in p S e
  late_kept a b e = λ z. record {
    ls = column_same p.activities (λ i. e) late_start S T (F.acts late_start a) z;
    lf = column_same p.activities (λ i. e) late_finish S T (F.acts late_finish b) z;
  }

  pub free_kept : outside lo hi free_float ≡ true → free_in p T ≡ free_in p S
  free_kept a = column_same p.activities (λ i. 0) free_float S T (F.acts free_float a)
