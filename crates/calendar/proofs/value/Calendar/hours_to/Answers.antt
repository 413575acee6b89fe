-- `calendar::Calendar::hours_to` meets its contract: hours in hand by the row of the day's weekday are the day's.
use Rattle.std.proofs.Common.{sym}
use Rattle.calendar.proofs.value.Calendar.hours_to.Goals as goal

pub returns : goal.returns
returns c =
    let h = c.hours_to.ensures in
    let e = h.0.is c.args.self.now.week.now (sym c.row.ensures) in
    (e, rw e (c.args.self.now.valid.ordered c.args.d), h.1, h.2)
