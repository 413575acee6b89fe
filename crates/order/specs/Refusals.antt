-- The refusals of rows 5 to 15 in 01's numbers.
use Rattle.std.specs.Prelude.{ℕ}
use Rattle.order.specs.Checks.{Verdict, refuse}
use Rattle.order.specs.declared.PlanError.{PlanError}
use Rattle.order.specs.declared.PlanError.TheVariants.{NoHours, SameId, NegativeMinutes, TooLong, UnknownCalendar, UnknownParent, MilestoneParent, ParentLoop, UnknownActivity, SelfLink, LinkLoop}

-- the row's number
abbrev pub plan_number : PlanError → ℕ
plan_number NoHours = 5
plan_number (SameId id) = 6
plan_number (NegativeMinutes id) = 7
plan_number TooLong = 8
plan_number (UnknownCalendar id) = 9
plan_number (UnknownParent id) = 10
plan_number (MilestoneParent id) = 11
plan_number (ParentLoop id) = 12
plan_number (UnknownActivity id) = 13
plan_number (SelfLink id) = 14
plan_number (LinkLoop id) = 15

-- its id, 0 where it has none
abbrev pub plan_id : PlanError → ℕ
plan_id NoHours = 0
plan_id (SameId id) = id
plan_id (NegativeMinutes id) = id
plan_id TooLong = 0
plan_id (UnknownCalendar id) = id
plan_id (UnknownParent id) = id
plan_id (MilestoneParent id) = id
plan_id (ParentLoop id) = id
plan_id (UnknownActivity id) = id
plan_id (SelfLink id) = id
plan_id (LinkLoop id) = id

-- a refusal that names no loop
abbrev pub refused : PlanError → Verdict
refused e = refuse (plan_number e) (plan_id e)
