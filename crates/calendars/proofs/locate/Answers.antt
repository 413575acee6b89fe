-- `calendars::locate` meets its contract: the calendars before k stand in the table, the round-the-clock one in the other rows, and calendar k stands at `at`.
use mathlib.Core.Path.{◌≡◌, refl, ◌∙◌}
use native.Mathlib.Omega.{arith}
use Prim.Native.Nat.{◌<◌}
use lib.ListN.{length, length-set}
use Rattle.calendars.specs.declared.plan_calendar.PlanCalendar.{PlanCalendar}
use Rattle.calendars.specs.TableLaws.{calendar_first, calendar_next, place_weeks, located_none, located_more, located_all, clocks_more, clocks_first, measured_more, measured_all, read_calendar}
use Rattle.calendars.proofs.locate.Goals as goal

pub loop-k-init : goal.loop-k-init
loop-k-init c =
    let x = c.args.sheet.now in
    let r = c.round_the_clock-calendars in
    let e = r.ensures in
    (omega arith, calendar_first x.bytes.now, refl, located_none x.bytes.now x.contents _, λ k l. absurd (omega arith), clocks_first 16 r.result e.0 e.1 e.2 e.3)

pub read_week-requires : goal.read_week-requires
read_week-requires c =
    let l = c.loop-k-test.true in
    let C = c.args.sheet.now.read.calendar c.loop-k.k l in
    let e = place_weeks c.args.sheet.now.bytes.now c.loop-k.at c.calendar-place.result c.calendar-place.ensures in
    rw (e, c.loop-k.invariant.1) (C.weeks_within, λ d m. C.weeks_few d)

pub loop-k-preserved : goal.loop-k-preserved
loop-k-preserved c =
    let l = c.loop-k-test.true in
    let x = c.args.sheet.now in
    let s = x.bytes.now in
    let v = c.loop-k.invariant in
    let q = c.calendar-place in
    let e = place_weeks s c.loop-k.at q.result q.ensures in
    let fits : c.loop-k.k < length c.loop-k.calendars = omega (arith, c.args.sheet.now.read.calendars_few, v.2, l) in
    let row : PlanCalendar = record { week = c.read_week.result; at = q.result.at; n = q.result.exceptions; day_length = c.day_length.result } in (
      omega (arith, l),
      calendar_next s c.loop-k.k c.loop-k.at q.result v.1 q.ensures,
      length-set c.loop-k.calendars c.loop-k.k row ∙ v.2,
      located_more v.3 fits row (read_calendar s x.contents x.read c.loop-k.k c.loop-k.at q.result l v.1 q.ensures row (rw e at c.read_week.ensures) refl refl),
      measured_more s c.loop-k.k c.loop-k.calendars v.4 fits c.loop-k.at v.1 row (rw (c.new.ensures.0, c.new.ensures.1) at c.day_length.ensures.0),
      clocks_more c.loop-k.k c.loop-k.calendars row v.5,
    )

pub returns : goal.returns
returns c =
    let x = c.args.sheet.now in
    let v = c.loop-k.invariant in
    let e : c.loop-k.k ≡ x.contents.calendars = omega (arith, v.0, c.loop-k-test.false) in
    let fits : x.contents.calendars < length c.loop-k.calendars = omega (arith, c.args.sheet.now.read.calendars_few, v.2) in (
      rw e at v.3,
      measured_all x.bytes.now x.contents x.read c.loop-k.calendars (rw e at v.4) fits (rw e at v.5),
      located_all x.bytes.now x.contents x.read c.loop-k.calendars (rw e at v.3) fits (rw e at v.5),
    )
