-- `CalendarRecord::new` meets its contract: the record lies within the sheet, as the caller says.
use Rattle.project.proofs.calendar_record.CalendarRecord.new.Goals as goal

pub invariant_of-result : goal.invariant_of-result
invariant_of-result c = record { within = c.requires }
