-- `PlanSheet::calendar` meets its contract: row `k` has the plan's calendar, the week that is lent from here is that of every later one, and both are valid.
use Rattle.std.specs.Prelude.{List, ℕ, ◌≤◌}
use Rattle.calendar.specs.Records.{round_the_clock}
use Rattle.sheet.specs.declared.Contents.{Contents}
use Rattle.calendars.specs.Calendars.{IsCalendar}
use Rattle.calendars.specs.CalendarLaws.{calendar_valid, is_last}
use Rattle.calendars.specs.declared.plan_sheet.TheConstants.{ROUND_THE_CLOCK}
use Rattle.calendars.proofs.plan_sheet.PlanSheet.calendar.Goals as goal

-- the calendar whose week is lent
lent : (s : List ℕ) (c : Contents) (k : ℕ) → c.calendars ≤ k → IsCalendar s c k ROUND_THE_CLOCK 0 0
unfolding round_the_clock
lent s c k l = is_last s c k l

pub new-requires : goal.new-requires
new-requires c =
    let x = c.args.self.now.sheet in
    calendar_valid (lent x.bytes.now x.contents c.args.k c.if-k-self.true) x.read

pub returns-then-k-self : goal.returns-then-k-self
returns-then-k-self c =
    let x = c.args.self.now.sheet in
    let e = c.new.ensures in
    record { is = rw (e.0, e.2, e.3) (lent x.bytes.now x.contents c.args.k c.if-k-self.true); sheet_is = e.1 }

pub new-requires-2 : goal.new-requires-2
new-requires-2 c = calendar_valid (c.args.self.now.located.row c.args.k c.if-k-self.false) c.args.self.now.sheet.read

pub returns : goal.returns
returns c =
    let e = c.new-2.ensures in
    record { is = rw (e.0, e.2, e.3) (c.args.self.now.located.row c.args.k c.if-k-self.false); sheet_is = e.1 }
