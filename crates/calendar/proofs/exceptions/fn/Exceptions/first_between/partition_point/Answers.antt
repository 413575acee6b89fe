-- The test of `calendar::Exceptions::first_between` meets its contract: the record's day is before `d`.
use Rattle.std.proofs.Common.{refl}
use Rattle.calendar.proofs.exceptions.fn.Exceptions.first_between.partition_point.Goals as goal

pub returns : goal.returns
returns c = rw c.exception_day.ensures.0 refl
