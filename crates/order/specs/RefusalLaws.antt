-- A refusal has a row's number, so it is none where the checks are fine.
use Rattle.std.specs.Prelude.{◌<◌}
use Rattle.std.proofs.Common.{arith}
use Rattle.order.specs.declared.PlanError.{PlanError}
use Rattle.order.specs.declared.PlanError.TheVariants.{NoHours, SameId, NegativeMinutes, TooLong, UnknownCalendar, UnknownParent, MilestoneParent, ParentLoop, UnknownActivity, SelfLink, LinkLoop}
use Rattle.order.specs.Refusals.{plan_number}

pub number_some : (e : PlanError) → 0 < plan_number e
number_some NoHours = omega arith
number_some (SameId id) = omega arith
number_some (NegativeMinutes id) = omega arith
number_some TooLong = omega arith
number_some (UnknownCalendar id) = omega arith
number_some (UnknownParent id) = omega arith
number_some (MilestoneParent id) = omega arith
number_some (ParentLoop id) = omega arith
number_some (UnknownActivity id) = omega arith
number_some (SelfLink id) = omega arith
number_some (LinkLoop id) = omega arith
