-- `calendar::Calendar::hours_on` meets its contract: hours in hand by the row of the day's weekday are the day's.
use Rattle.std.proofs.Common.{sym}
use Rattle.calendar.proofs.value.Calendar.hours_on.Goals as goal

pub returns : goal.returns
returns c =
    let e = c.hours_on.ensures.is c.args.self.now.week.now (sym c.row.ensures) in
    (e, rw e (c.args.self.now.valid.ordered c.args.d))
