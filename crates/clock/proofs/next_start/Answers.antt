-- `clock::next_start` meets its contract. The loop has passed no worked minute: as many stand before its day and minute as before `t`.
use mathlib.Core.Bool.{true}
use mathlib.Core.Path.{◌≡◌, sym, ◌∙◌}
use Prim.Native.Nat.{◌≤◌, ◌<◌, ◌+◌, ◌*◌}
use native.Mathlib.Omega.{arith}
use Rattle.calendar.specs.Hours.{worked}
use Rattle.calendar.specs.Value.{hours_of}
use Rattle.date.specs.Years.{years_before}
use Rattle.worktime.specs.Worked.{count}
use Rattle.worktime.specs.Count.{count_mono}
use Rattle.worktime.specs.Walks.{end_minute}
use Rattle.worktime.proofs.Answers.{next_start_out, next_start_at, next_start_none}
use Rattle.clock.specs.On.{worked_by}
use Rattle.clock.specs.Days.{day_next_at, day_next_none, hand_next, count_next_day}
use Rattle.clock.proofs.next_start.Goals as goal

pub returns-then-first-lt-FIRST_DAY : goal.returns-then-first-lt-FIRST_DAY
returns-then-first-lt-FIRST_DAY c = sym (next_start_out _ _ (years_before _ (omega arith)))

-- what the day's answer says of the calendar
found : (c : goal.In-Some) →
    let a = c.args in
    let w = worked_by a.calendar.now in
    let d = c.loop-d.d in
    let x = c.in-Some.x in
    (c.loop-d.m ≤ x) × (x < 1440) × (w (d * 1440 + x) ≡ true) × (count w (d * 1440 + x) ≡ count w (d * 1440 + c.loop-d.m))
found c =
    let a = c.args in
    let h = hours_of a.calendar.now in
    let d = c.loop-d.d in
    let o = c.args.calendar.now.valid.ordered d in
    day_next_at h d o c.loop-d.m _
    (hand_next h d o _ c.hours_from-hours.ensures.0 c.loop-d.m _ _ c.next_minute.ensures c.in-Some.is)

pub overflow_add-result : goal.overflow_add-result
overflow_add-result c = omega (arith, (found c).1)

pub returns-in-Some : goal.returns-in-Some
returns-in-Some c = let f = found c in sym (next_start_at _ (omega arith) (omega arith) f.2 (omega arith))

pub loop-d-preserved : goal.loop-d-preserved
loop-d-preserved c =
    let a = c.args in
    let h = hours_of a.calendar.now in
    let d = c.loop-d.d in
    let o = c.args.calendar.now.valid.ordered d in
    let f = c.hours_from-hours.ensures in
    let none =
    day_next_none h d o c.loop-d.m (omega arith)
    (hand_next h d o _ f.0 c.loop-d.m _ _ c.next_minute.ensures c.in-None.is) in
    (omega arith, omega arith, omega arith, sym (count_next_day (worked h) d) ∙ none ∙ c.loop-d.invariant.3, f.2)

pub returns : goal.returns
returns c =
    let a = c.args in
    let w = worked_by a.calendar.now in
    sym (next_start_none w a.t (omega (arith, count_mono w {s = end_minute} {t = c.loop-d.d * 1440 + c.loop-d.m} (omega arith))))
