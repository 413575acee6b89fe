-- The sheet's records as values: what stands at a place of the sheet, code by code. "Codes follow the enums' order in 002."
use Rattle.std.specs.Prelude.{Bool, true, false, List, ℕ, ◌+◌, eqb, ℤ, Option, Some, None}
use Rattle.number.specs.Bytes.{byte_at, u16_at, u32_at, i32_at, biased_at}
use Rattle.date.specs.declared.Date.{Date}
use Rattle.project.specs.declared.ActivityKind.{ActivityKind}
use Rattle.project.specs.declared.ActivityKind.TheVariants.{Task, StartMilestone, FinishMilestone}
use Rattle.project.specs.declared.Constraint.{Constraint}
use Rattle.project.specs.declared.Constraint.TheVariants.{StartOnOrAfter, StartOnOrBefore, FinishOnOrAfter, FinishOnOrBefore, StartOn, FinishOn, MandatoryStart, MandatoryFinish, AsLateAsPossible}
use Rattle.project.specs.declared.Activity.{Activity}
use Rattle.project.specs.declared.RelationshipType.{RelationshipType}
use Rattle.project.specs.declared.RelationshipType.TheVariants.{FinishToStart, StartToStart, FinishToFinish, StartToFinish}
use Rattle.project.specs.declared.LagKind.{LagKind}
use Rattle.project.specs.declared.LagKind.TheVariants.{WorkingDays, WorkingMinutes, ElapsedDays, ElapsedMinutes, Percent}
use Rattle.project.specs.declared.Relationship.{Relationship}
use Rattle.project.specs.declared.LagCalendar.{LagCalendar}
use Rattle.project.specs.declared.LagCalendar.TheVariants.{Predecessor, Successor, TwentyFourHour}
use Rattle.project.specs.declared.FloatKind.{FloatKind}
use Rattle.project.specs.declared.FloatKind.TheVariants.{Finish, Start, Smallest}
use Rattle.project.specs.declared.ProgressMode.{ProgressMode}
use Rattle.project.specs.declared.ProgressMode.TheVariants.{RetainedLogic, ProgressOverride}
use Rattle.project.specs.declared.CriticalBy.{CriticalBy}
use Rattle.project.specs.declared.CriticalBy.TheVariants.{TotalFloat, LongestPath}
use Rattle.project.specs.declared.Project.{Project}

-- the code's value, where 0 and up name the first and up, and any code past the last the last
abbrev pub pick : {A : Type 0} → Bool → A → A → A
pick true x y = x
pick false x y = y

abbrev pub date_at : List ℕ → ℕ → Date
date_at s at = record { 0 = i32_at s at }

-- "−2,147,483,648 means absent"
unfoldable pub optional_date_at : List ℕ → ℕ → Option Date
optional_date_at s at = pick (eqb (biased_at s at) 0) None (Some (date_at s at))

unfoldable pub remaining_at : List ℕ → ℕ → Option ℤ
remaining_at s at = pick (eqb (biased_at s at) 0) None (Some (i32_at s at))

unfoldable pub activity_kind_of : ℕ → ActivityKind
activity_kind_of n = pick (eqb n 0) Task (pick (eqb n 1) StartMilestone FinishMilestone)

-- "u8: 0 none, 1 to 9 in 002's order; then its day"
unfoldable pub constraint_of : ℕ → Date → Option Constraint
constraint_of n d =
    pick (eqb n 0) None
    (pick (eqb n 1) (Some (StartOnOrAfter d))
    (pick (eqb n 2) (Some (StartOnOrBefore d))
    (pick (eqb n 3) (Some (FinishOnOrAfter d))
    (pick (eqb n 4) (Some (FinishOnOrBefore d))
    (pick (eqb n 5) (Some (StartOn d))
    (pick (eqb n 6) (Some (FinishOn d)) (pick (eqb n 7) (Some (MandatoryStart d)) (pick (eqb n 8) (Some (MandatoryFinish d)) (Some AsLateAsPossible)))))))))

-- "A: id, kind, calendar, parent, minutes, actual start?, actual finish?, remaining, expected finish?, twice a constraint, levelled start?"
unfoldable pub activity_at : List ℕ → ℕ → Activity
activity_at s at = record {
  id = u32_at s (at + 1);
  kind = activity_kind_of (byte_at s (at + 5));
  calendar = byte_at s (at + 6);
  parent = u32_at s (at + 7);
  minutes = i32_at s (at + 11);
  actual_start = optional_date_at s (at + 15);
  actual_finish = optional_date_at s (at + 19);
  remaining = remaining_at s (at + 23);
  expected_finish = optional_date_at s (at + 27);
  constraint = constraint_of (byte_at s (at + 31)) (date_at s (at + 32));
  secondary_constraint = constraint_of (byte_at s (at + 36)) (date_at s (at + 37));
  levelled = optional_date_at s (at + 41);
}

unfoldable pub relationship_type_of : ℕ → RelationshipType
relationship_type_of n = pick (eqb n 0) FinishToStart (pick (eqb n 1) StartToStart (pick (eqb n 2) FinishToFinish StartToFinish))

-- "basis 0 working, 1 elapsed, 2 percent, unit 0 days, 1 minutes (unread for percent), lag i32"
unfoldable pub lag_of : ℕ → ℕ → ℤ → LagKind
lag_of basis unit lag =
    pick (eqb basis 0) (pick (eqb unit 0) (WorkingDays lag) (WorkingMinutes lag))
    (pick (eqb basis 1) (pick (eqb unit 0) (ElapsedDays lag) (ElapsedMinutes lag)) (Percent lag))

-- "L: predecessor, successor, type, basis, unit, lag"
unfoldable pub relationship_at : List ℕ → ℕ → Relationship
relationship_at s at = record {
  predecessor = u32_at s (at + 1);
  successor = u32_at s (at + 5);
  kind = relationship_type_of (byte_at s (at + 9));
  lag = lag_of (byte_at s (at + 10)) (byte_at s (at + 11)) (i32_at s (at + 12));
}

unfoldable pub lag_calendar_of : ℕ → LagCalendar
lag_calendar_of n = pick (eqb n 0) Predecessor (pick (eqb n 1) Successor (pick (eqb n 2) TwentyFourHour LagCalendar.Project))

unfoldable pub float_kind_of : ℕ → FloatKind
float_kind_of n = pick (eqb n 0) Finish (pick (eqb n 1) Start Smallest)

unfoldable pub progress_mode_of : ℕ → ProgressMode
progress_mode_of n = pick (eqb n 0) RetainedLogic ProgressOverride

-- "critical by 0 (total float) or 1 (longest path), threshold i32 in days, unread for 1"
unfoldable pub critical_by_of : ℕ → ℤ → CriticalBy
critical_by_of n threshold = pick (eqb n 0) (TotalFloat threshold) LongestPath

-- "P: start day, data day?, must-finish day?, lag calendar, float kind, progress mode, critical by, threshold"
unfoldable pub project_at : List ℕ → ℕ → Project
project_at s at = record {
  start = date_at s (at + 1);
  data_date = optional_date_at s (at + 5);
  must_finish_by = optional_date_at s (at + 9);
  lag_calendar = lag_calendar_of (byte_at s (at + 13));
  float_kind = float_kind_of (byte_at s (at + 14));
  progress_mode = progress_mode_of (byte_at s (at + 15));
  critical_by = critical_by_of (byte_at s (at + 16)) (i32_at s (at + 17));
}

-- "C: day length in minutes, u16"
abbrev pub day_length_at : List ℕ → ℕ → ℕ
day_length_at s at = u16_at s (at + 1)
