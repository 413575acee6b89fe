-- `clock::previous_finish` meets its contract. The loop has passed no worked minute: as many stand before its day and minute as before `t`.
use mathlib.Core.Path.{◌≡◌, sym}
use Prim.Native.Nat.{◌+◌, ◌*◌, ◌-◌}
use native.Mathlib.Omega.{arith}
use Rattle.calendar.specs.Hours.{worked}
use Rattle.calendar.specs.HoursLaws.{rank_mono}
use Rattle.calendar.specs.Records.{periods_of}
use Rattle.date.specs.Years.{years_after}
use Rattle.worktime.specs.Count.{count_mono}
use Rattle.worktime.specs.Walks.{first_minute}
use Rattle.worktime.proofs.Answers.{previous_finish_out, previous_finish_at, previous_finish_none}
use Rattle.clock.specs.On.{worked_by}
use Rattle.clock.specs.Days.{hand_rank, hand_select, count_day_before}
use Rattle.calendar.specs.Value.{hours_of}
use Rattle.clock.proofs.previous_finish.Goals as goal

pub returns-then-last-gt-LAST_DAY : goal.returns-then-last-gt-LAST_DAY
returns-then-last-gt-LAST_DAY c = sym (previous_finish_out _ _ (years_after _ (omega arith)))

pub select-requires : goal.select-requires
select-requires c =
    (c.hours_to-hours.ensures.1, c.if-done-gt0.true, omega (arith, c.rank-done.ensures.0, rank_mono (periods_of c.hours_to-hours.result) c.loop-d.m 1440 (omega arith)))

pub returns-then-done-gt0 : goal.returns-then-done-gt0
returns-then-done-gt0 c =
    let a = c.args in
    let h = hours_of a.calendar.now in
    let d = c.loop-d.d in
    let o = c.args.calendar.now.valid.ordered d in
    let p = c.hours_to-hours.ensures.0 in
    let ps = periods_of c.hours_to-hours.result in
    let r = c.rank-done.ensures.0 in
    let f = hand_select h d o ps p _ _ c.if-done-gt0.true (omega (arith, r, rank_mono ps c.loop-d.m 1440 (omega arith))) c.select.ensures.0 in
    sym
    (previous_finish_at _ (omega (arith, f.low)) (omega arith) f.closes
    (omega (arith, f.full, hand_rank h d o ps p c.loop-d.m _ (omega arith) r, c.loop-d.invariant.3)))

pub loop-d-preserved : goal.loop-d-preserved
loop-d-preserved c =
    let a = c.args in
    let h = hours_of a.calendar.now in
    let d = c.loop-d.d in
    let o = c.args.calendar.now.valid.ordered d in
    let f = c.hours_to-hours.ensures in
    let r = hand_rank h d o _ f.0 c.loop-d.m _ (omega arith) c.rank-done.ensures.0 in
    let e : d - 1 + 1 ≡ d = omega arith in
    (omega arith, omega arith, omega arith, omega (arith, r, count_day_before (worked h) d (omega arith), c.loop-d.invariant.3), rw e f.3)

pub returns : goal.returns
returns c =
    let a = c.args in
    let w = worked_by a.calendar.now in
    sym (previous_finish_none w a.t (omega (arith, c.loop-d.invariant.3, count_mono w {s = c.loop-d.d * 1440 + c.loop-d.m} {t = first_minute} (omega arith))))
