-- `dates::work_of` meets its contract: the calendar is the one that the activity names, the minutes left are its cell.
use native.Mathlib.Omega.{arith}
use Rattle.memory.specs.Seen.{state}
use Rattle.calendars.specs.CalendarLaws.{own_is}
use Rattle.dates.specs.HandLaws.{hand_is}
use Rattle.dates.proofs.work_of.Goals as goal

pub act-requires : goal.act-requires
act-requires g c = (omega (arith, c.requires.0, c.requires.1), omega arith)

pub returns : goal.returns
returns g c =
    let own = own_is c.activity_of-activity.ensures c.calendar.ensures in
    (own, hand_is (state (g.R.Reads.tables c.args.tables.now)) c.requires.1 own c.act.ensures.0, c.act.ensures.1)
