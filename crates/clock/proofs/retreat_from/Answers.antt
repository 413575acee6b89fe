-- `clock::retreat_from` meets its contract: the walk ends within the last E record that it does not pass, or on a day after that record, which goes by its weekday.
use mathlib.Core.Path.{◌≡◌, ap, ◌∙◌}
use mathlib.Core.List.{[]}
use Prim.Native.Nat.{◌+◌, ◌-◌, ◌%◌, ◌≤◌, ◌<◌}
use lib.ListN.{get_or}
use Rattle.calendar.specs.Hours.{select}
use native.Mathlib.Omega.{arith}
use Rattle.calendar.specs.declared.Period.{Period}
use Rattle.clock.specs.Weeks.{row_ordered}
use Rattle.clock.specs.RegularOrder.{regular_some}
use Rattle.clock.specs.WeekdayLaws.{day_some, day_low}
use Rattle.clock.specs.RetreatLaws.{record_refuses, record_answers, over_refuses, day_refuses, day_answers}
use Rattle.clock.proofs.retreat_from.Goals as goal
use Rattle.clock.proofs.retreat_from.Goals.{then-j-gt0+else-stand-work, else-j-gt0}

pub of-sums-requires : goal.of-sums-requires
of-sums-requires c = row_ordered c.args.calendar.now.valid

pub returns-then-day-lt-FIRST_DAY : goal.returns-then-day-lt-FIRST_DAY
returns-then-day-lt-FIRST_DAY c =
    let r = c.back-stand.result in
    let j = c.if-j-gt0.true in
    let f = c.back-stand.ensures.2 j in
    let v = c.back-stand.ensures.0 c.args.calendar.now.week.now c.args.calendar.now.valid c.of-sums.ensures in
    record_refuses c.args.calendar.now.valid c.of-sums.ensures c.args.d r.at r.passed r.over c.args.work v.0 c.back-stand.ensures.1 (omega (arith, c.requires.2)) v.1 j r.start f.0 c.if-stand-work.true f.1 _ c.day-day.ensures.0 (omega (arith, c.if-day-lt-FIRST_DAY.true))

pub returns-then-stand-work : goal.returns-then-stand-work
returns-then-stand-work c =
    let r = c.back-stand.result in
    let j = c.if-j-gt0.true in
    let f = c.back-stand.ensures.2 j in
    let v = c.back-stand.ensures.0 c.args.calendar.now.week.now c.args.calendar.now.valid c.of-sums.ensures in
    record_answers c.args.calendar.now.valid c.of-sums.ensures c.args.d r.at r.passed r.over c.args.work v.0 c.back-stand.ensures.1 (omega (arith, c.requires.2)) v.1 j r.start f.0 c.if-stand-work.true f.1 _ c.day-day.ensures.0
    _ _ (ap (λ (p : Period). p.from) c.period-period.ensures) c.work.ensures.0 (omega (arith, c.if-day-lt-FIRST_DAY.false))

pub returns-then-stand-rest : goal.returns-then-stand-rest
returns-then-stand-rest c =
    let r = c.back-stand.result in
    let v = c.back-stand.ensures.0 c.args.calendar.now.week.now c.args.calendar.now.valid c.of-sums.ensures in
    let late : 0 < r.at → c.args.work ≤ r.start =
    λ j. elim c.if-j-gt0.branch [ then-j-gt0+else-stand-work w ↦ omega (arith, w.if-stand-work.false) | else-j-gt0 w ↦ absurd (omega (arith, w.if-j-gt0.false, j)) ] in
    over_refuses c.args.calendar.now.valid c.of-sums.ensures c.args.d r.at r.passed r.over c.args.work v.0 c.back-stand.ensures.1 (omega (arith, c.requires.2)) v.1 r.start (λ j. (c.back-stand.ensures.2 j).0) late c.if-stand-rest.true

pub day_after-next-requires : goal.day_after-next-requires
day_after-next-requires c =
    let u = c.of-sums.ensures in
    let v = c.back-stand.ensures.0 c.args.calendar.now.week.now c.args.calendar.now.valid c.of-sums.ensures in
    (regular_some c.of-sums.result.entries u.rising v.1.next (omega (arith, v.1.is, c.if-stand-rest.false, c.back-stand.ensures.1)), omega (arith, c.back-stand.ensures.4))

pub returns-then-next-le-FIRST_DAY : goal.returns-then-next-le-FIRST_DAY
returns-then-next-le-FIRST_DAY c =
    let r = c.back-stand.result in
    let v = c.back-stand.ensures.0 c.args.calendar.now.week.now c.args.calendar.now.valid c.of-sums.ensures in
    let late : 0 < r.at → c.args.work ≤ r.start =
    λ j. elim c.if-j-gt0.branch [ then-j-gt0+else-stand-work w ↦ omega (arith, w.if-stand-work.false) | else-j-gt0 w ↦ absurd (omega (arith, w.if-j-gt0.false, j)) ] in
    let y = c.day_after-next in
    day_refuses c.args.calendar.now.valid c.of-sums.ensures c.args.d r.at r.passed r.over c.args.work v.0 c.back-stand.ensures.1 (omega (arith, c.requires.2)) v.1 r.start (λ j. (c.back-stand.ensures.2 j).0) late
    y.result (omega (arith, c.if-stand-rest.false)) y.ensures.0 y.ensures.1 (omega (arith, c.if-next-le-FIRST_DAY.true))

pub overflow_sub-k : goal.overflow_sub-k
overflow_sub-k c =
    let y = c.day_after-next in
    omega (arith, y.ensures.0, day_low c.of-sums.ensures y.result (omega arith), c.minutes_before.ensures.0)

-- the row of that day
row-is : (c : goal.After-row) → c.row.result ≡ get_or c.args.calendar.now.week.now (c.day_after-next.result % 7) []
row-is c = c.row.ensures ∙ ap (λ k. get_or c.args.calendar.now.week.now k []) (omega arith)

pub row_select-requires : goal.row_select-requires
row_select-requires c =
    let y = c.day_after-next in
    let low = day_low c.of-sums.ensures y.result (omega arith) in
    rw (row-is c) (row_ordered c.args.calendar.now.valid (y.result % 7) (omega arith), omega arith, omega (arith, y.ensures.0, y.ensures.1, low, c.minutes_before.ensures.0, day_some c.of-sums.ensures y.result))

pub returns : goal.returns
returns c =
    let r = c.back-stand.result in
    let v = c.back-stand.ensures.0 c.args.calendar.now.week.now c.args.calendar.now.valid c.of-sums.ensures in
    let late : 0 < r.at → c.args.work ≤ r.start =
    λ j. elim c.if-j-gt0.branch [ then-j-gt0+else-stand-work w ↦ omega (arith, w.if-stand-work.false) | else-j-gt0 w ↦ absurd (omega (arith, w.if-j-gt0.false, j)) ] in
    let y = c.day_after-next in
    let k = r.over - (c.args.work - r.passed) - c.minutes_before.result + 1 in
    day_answers c.args.calendar.now.valid c.of-sums.ensures c.args.d r.at r.passed r.over c.args.work v.0 c.back-stand.ensures.1 (omega (arith, c.requires.2)) v.1 r.start (λ j. (c.back-stand.ensures.2 j).0) late
    y.result (omega (arith, c.if-stand-rest.false)) y.ensures.0 y.ensures.1 (omega (arith, c.if-next-le-FIRST_DAY.false)) k _ (omega (arith, day_low c.of-sums.ensures y.result (omega arith), c.minutes_before.ensures.0)) (c.row_select.ensures.0 ∙ ap (λ ps. select ps k) (row-is c.before))
