-- `calendar::Hours::select` meets its contract: a day that has E records is worked by them.
use Rattle.std.proofs.Common.{arith}
use Rattle.calendar.specs.DayLaws.{of_records}
use Rattle.calendar.proofs.hours.Hours.select.Goals as goal

pub returns : goal.returns
returns c = rw (of_records c.args.self.now (omega arith)) c.select_in-2.ensures
