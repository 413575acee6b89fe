-- `calendar::Exceptions::period` meets its contract, as the record's.
use Rattle.calendar.proofs.exceptions.Exceptions.period.Goals as goal

pub returns : goal.returns
returns c = c.exception_period.ensures
