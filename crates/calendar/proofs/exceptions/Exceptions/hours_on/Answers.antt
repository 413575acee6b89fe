-- `calendar::Exceptions::hours_on` meets its contract, as `hours_from` from the day's first record.
use Rattle.calendar.proofs.exceptions.Exceptions.hours_on.Goals as goal

pub returns : goal.returns
returns c = c.hours_from.ensures.0
