-- `PlanSheet::new` meets its contract: the table has the sheet's calendars, as the caller says.
use Rattle.calendars.proofs.plan_sheet.PlanSheet.new.Goals as goal

pub invariant_of-result : goal.invariant_of-result
invariant_of-result c = record { located = c.requires }
