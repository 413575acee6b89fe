-- `calendar::Exceptions::work` meets its contract, as the record's.
use Rattle.calendar.proofs.exceptions.Exceptions.work.Goals as goal

pub returns : goal.returns
returns c = c.exception_work.ensures
