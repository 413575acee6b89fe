-- `calendar::Exceptions::day` meets its contract, as the record's.
use Rattle.calendar.proofs.exceptions.Exceptions.day.Goals as goal

pub returns : goal.returns
returns c = c.exception_day.ensures
