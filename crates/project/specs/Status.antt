-- What the run asks of an activity's kind, of a constraint and of the recorded days.
use Rattle.std.specs.Prelude.{Bool, true, false, Option, Some, None}
use Rattle.date.specs.declared.Date.{Date}
use Rattle.project.specs.declared.ActivityKind.{ActivityKind}
use Rattle.project.specs.declared.ActivityKind.TheVariants.{Task, StartMilestone, FinishMilestone}
use Rattle.project.specs.declared.Constraint.{Constraint}
use Rattle.project.specs.declared.Constraint.TheVariants.{StartOnOrAfter, StartOnOrBefore, FinishOnOrAfter, FinishOnOrBefore, StartOn, FinishOn, MandatoryStart, MandatoryFinish, AsLateAsPossible}
use Rattle.project.specs.declared.End.{End}
use Rattle.project.specs.declared.End.TheVariants.{Start, Finish}
use Rattle.project.specs.declared.Status.{Status}
use Rattle.project.specs.declared.Status.TheVariants.{NotStarted, InProgress, Completed}

unfoldable pub is_milestone : ActivityKind → Bool
is_milestone Task = false
is_milestone StartMilestone = true
is_milestone FinishMilestone = true

-- 002's `on_start`, with the day: "Whether it bounds the start [..] or the finish [..]; none for as late as possible"
unfoldable pub on_start : Option Constraint → Option End
on_start None = None
on_start (Some (StartOnOrAfter d)) = Some (Start d)
on_start (Some (StartOnOrBefore d)) = Some (Start d)
on_start (Some (FinishOnOrAfter d)) = Some (Finish d)
on_start (Some (FinishOnOrBefore d)) = Some (Finish d)
on_start (Some (StartOn d)) = Some (Start d)
on_start (Some (FinishOn d)) = Some (Finish d)
on_start (Some (MandatoryStart d)) = Some (Start d)
on_start (Some (MandatoryFinish d)) = Some (Finish d)
on_start (Some AsLateAsPossible) = None

-- `on_start() == Some(true)`
abbrev pub is_start : Option End → Bool
is_start (Some (Start d)) = true
is_start (Some (Finish d)) = false
is_start None = false

unfoldable pub bounds_start : Option Constraint → Bool
bounds_start c = is_start (on_start c)

-- 000's `status` of an activity that is no summary: completed once a finish is recorded, else in progress once a start is
unfoldable pub status_of : Option Date → Option Date → Status
status_of start (Some d) = Completed
status_of (Some d) None = InProgress
status_of None None = NotStarted
