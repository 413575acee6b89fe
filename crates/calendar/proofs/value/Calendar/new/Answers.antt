-- `calendar::Calendar::new` meets its contract: the E records are those that the calendar is valid with.
use Rattle.calendar.proofs.value.Calendar.new.Goals as goal

pub invariant_of-result-2 : goal.invariant_of-result-2
invariant_of-result-2 c = record { valid = c.requires }
