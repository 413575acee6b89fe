-- `clock::advance_from` meets its contract: the answer is a minute of the E record before which the walk stands, or of a day that goes by its weekday before that record.
use Rattle.std.specs.Prelude.{Ok}
use mathlib.Core.Path.{◌≡◌, sym, ap, ◌∙◌}
use mathlib.Core.Logic.{⊎_elim}
use mathlib.Core.List.{List, []}
use Prim.Native.Nat.{ℕ, ◌+◌, ◌-◌, ◌*◌, ◌%◌, ◌≤◌, ◌<◌}
use native.Mathlib.Omega.{arith}
use lib.ListN.{get_or}
use Rattle.std.proofs.Math.Nat.{eq-zero-or-pos}
use Rattle.calendar.specs.declared.Period.{Period}
use Rattle.calendar.specs.Records.{exception_day}
use Rattle.date.specs.Years.{end_day}
use Rattle.worktime.specs.Worked.{count}
use Rattle.worktime.specs.Count.{count_mono}
use Rattle.worktime.specs.Walks.{end_minute}
use Rattle.worktime.proofs.Shift.{advance_at, advance_none}
use Rattle.clock.specs.On.{worked_by}
use Rattle.clock.specs.Days.{hand_select}
use Rattle.clock.specs.Weeks.{row_ordered}
use Rattle.clock.specs.Regular.{Sums, regular}
use Rattle.clock.specs.Stands.{Ahead}
use Rattle.clock.specs.StandLaws.{record_minute}
use Rattle.clock.specs.RegularOrder.{regular_some}
use Rattle.clock.specs.WeekdayLaws.{OnWeekday, sums_before, sums_with, day_low, ahead_weekday}
use Rattle.calendar.specs.Value.{hours_of}
use Rattle.clock.proofs.advance_from.Goals as goal
use Rattle.clock.proofs.advance_from.Goals.{then-j-calendar+else-stand-work, else-j-calendar}

pub of-sums-requires : goal.of-sums-requires
of-sums-requires c = row_ordered c.args.calendar.now.valid

pub returns-then-day-gt-LAST_DAY : goal.returns-then-day-gt-LAST_DAY
returns-then-day-gt-LAST_DAY c =
    let a = c.args in
    let w = worked_by a.calendar.now in
    let day = exception_day a.calendar.now.exceptions.sheet.now a.calendar.now.exceptions.at c.ahead-stand.result.at in
    let stand = c.ahead-stand.ensures.0 a.calendar.now.week.now c.args.calendar.now.valid c.of-sums.ensures in
    sym
    (advance_none w (a.d * 1440) a.work (omega arith)
    (omega (arith, stand.record_next (omega arith), (c.ahead-stand.ensures.2 (omega arith)).0, c.day-day.ensures.0, count_mono w {s = end_minute} {t = day * 1440} (omega (arith, c.day-day.ensures.0)))))

pub returns-then-stand-work : goal.returns-then-stand-work
returns-then-stand-work c =
    let a = c.args in
    let w = worked_by a.calendar.now in
    let j = c.ahead-stand.result.at in
    let x = a.work - c.ahead-stand.result.start in
    let f = c.ahead-stand.ensures.2 (omega arith) in
    let m = record_minute c.args.calendar.now.valid j x (omega arith) (omega arith) (omega (arith, f.1)) in
    let day = c.day-day.ensures.0 in
    let from = ap (λ q. q.from) c.period-period.ensures in
    let stand = c.ahead-stand.ensures.0 a.calendar.now.week.now c.args.calendar.now.valid c.of-sums.ensures in
    ap Ok (omega (arith, day, from))
    ∙ sym (advance_at w (omega arith) (omega (arith, c.requires.1)) (omega (arith, m.high, day)) m.closes (omega (arith, m.full, stand.record_next (omega arith), f.0)))

pub returns-then-sums-eq0 : goal.returns-then-sums-eq0
returns-then-sums-eq0 c =
    let a = c.args in
    let r = c.ahead-stand.result in
    let w = worked_by a.calendar.now in
    let ss = c.of-sums.result.entries in
    let zero : (x : ℕ) → regular ss x ≡ 0 =
    λ x. ⊎_elim (λ z. z) (λ l. absurd (omega (arith, c.if-sums-eq0.true, regular_some ss c.of-sums.ensures.rising x l))) (eq-zero-or-pos (regular ss x)) in
    let stand = c.ahead-stand.ensures.0 a.calendar.now.week.now c.args.calendar.now.valid c.of-sums.ensures in
    let before : r.at < a.calendar.now.exceptions.n → a.work ≤ r.start =
    λ l. elim c.if-j-calendar.branch [ then-j-calendar+else-stand-work w ↦ omega (arith, w.if-stand-work.false) | else-j-calendar w ↦ absurd (omega (arith, w.if-j-calendar.false)) ] in
    let last : r.at < a.calendar.now.exceptions.n → ⊥ = λ l. omega (arith, before l, (c.ahead-stand.ensures.2 l).0, c.ahead-stand.ensures.1, zero (exception_day a.calendar.now.exceptions.sheet.now a.calendar.now.exceptions.at r.at)) in
    let x = stand.next + end_day in
    sym
    (advance_none w (a.d * 1440) a.work (omega arith)
    (omega (arith, c.ahead-stand.ensures.1, stand.days x (omega arith) (λ l. absurd (last l)), zero x, stand.is, zero stand.next, count_mono w {s = end_minute} {t = x * 1440} (omega arith))))

-- the day that has the last of the minutes
on-weekday : {week : List (List Period)} {s : List ℕ} {at n : ℕ} {ss : List ℕ} → Sums week ss → (j counted passed over start work r : ℕ)
    → Ahead week s at n ss j (counted + passed) over → passed < work → (j < n → start ≡ passed + (regular ss (exception_day s at j) - over)) → (j < n → work ≤ start)
    → sums_before ss r ≤ over + (work - passed) - 1 → over + (work - passed) - 1 < sums_with ss r → OnWeekday week s at n ss (counted + passed) over r
on-weekday sums j counted passed over start work r stand less is enough low high =
    ahead_weekday sums j _ over (over + (work - passed) - 1) r low high stand (omega (arith, less)) (λ l. omega (arith, enough l, is l, less))

pub returns-then-next : goal.returns-then-next
returns-then-next c =
    let a = c.args in
    let r = c.ahead-stand.result in
    let w = worked_by a.calendar.now in
    let before : r.at < a.calendar.now.exceptions.n → a.work ≤ r.start =
    λ l. elim c.if-j-calendar.branch [ then-j-calendar+else-stand-work w ↦ omega (arith, w.if-stand-work.false) | else-j-calendar w ↦ absurd (omega (arith, w.if-j-calendar.false)) ] in
    let f = c.day_after-next.ensures in
    let o =
    on-weekday c.of-sums.ensures r.at _ r.passed r.over r.start a.work c.day_after-next.result (c.ahead-stand.ensures.0 a.calendar.now.week.now c.args.calendar.now.valid c.of-sums.ensures) c.ahead-stand.ensures.1
    (λ l. (c.ahead-stand.ensures.2 l).0) before f.0 f.1 in
    sym
    (advance_none w (a.d * 1440) a.work (omega arith)
    (omega (arith, c.ahead-stand.ensures.1, o.counted, f.0, count_mono w {s = end_minute} {t = (c.day_after-next.result - 1) * 1440} (omega arith))))

-- the day that has the last of the minutes, by where the walk stands
found : (c : goal.Else-next) → let stand = c.ahead-stand.result in
    OnWeekday c.args.calendar.now.week.now c.args.calendar.now.exceptions.sheet.now c.args.calendar.now.exceptions.at c.args.calendar.now.exceptions.n c.of-sums.result.entries
    (count (worked_by c.args.calendar.now) (c.args.d * 1440) + stand.passed) stand.over c.day_after-next.result
found c =
    let a = c.args in
    let r = c.ahead-stand.result in
    let before : r.at < a.calendar.now.exceptions.n → a.work ≤ r.start =
    λ l. elim c.if-j-calendar.branch [ then-j-calendar+else-stand-work w ↦ omega (arith, w.if-stand-work.false) | else-j-calendar w ↦ absurd (omega (arith, w.if-j-calendar.false)) ] in
    let f = c.day_after-next.ensures in
    on-weekday c.of-sums.ensures r.at _ r.passed r.over r.start a.work c.day_after-next.result (c.ahead-stand.ensures.0 a.calendar.now.week.now a.calendar.now.valid c.of-sums.ensures) c.ahead-stand.ensures.1
    (λ l. (c.ahead-stand.ensures.2 l).0) before f.0 f.1

pub overflow_sub-day : goal.overflow_sub-day
overflow_sub-day c = (found c).low

pub overflow_sub-k : goal.overflow_sub-k
overflow_sub-k c =
    let low = day_low c.of-sums.ensures c.day_after-next.result (found c.before.before).low in
    omega (arith, c.day_after-next.ensures.0, low, c.minutes_before.ensures.0)

-- the row of that day
row-is : (c : goal.After-row) → c.row.result ≡ get_or c.args.calendar.now.week.now (c.day_after-next.result % 7) []
row-is c =
    let o = found c.before.before.before in
    c.row.ensures ∙ ap (λ k. get_or c.args.calendar.now.week.now k []) (omega (arith, o.low))

pub row_select-requires : goal.row_select-requires
row_select-requires c =
    let k = c.day_after-next.result % 7 in
    let f = c.day_after-next.ensures in
    let low = day_low c.of-sums.ensures c.day_after-next.result (found c.before.before.before).low in
    rw (row-is c) (row_ordered c.args.calendar.now.valid k (omega arith), omega arith, omega (arith, f.0, f.1, low, c.minutes_before.ensures.0, c.of-sums.ensures.each k (omega arith)))

pub returns : goal.returns
returns c =
    let a = c.args in
    let w = worked_by a.calendar.now in
    let x = c.day_after-next.result in
    let f = c.day_after-next.ensures in
    let o = found c.before.before.before.before in
    let low = day_low c.of-sums.ensures x o.low in
    let m = hand_select (hours_of a.calendar.now) (x - 1) (a.calendar.now.valid.ordered (x - 1)) c.row.result (row-is c.before ∙ sym o.hours) _ _ (omega arith)
    (rw (row-is c.before) (omega (arith, f.0, f.1, low, c.minutes_before.ensures.0, c.of-sums.ensures.each (x % 7) (omega arith)))) c.row_select.ensures.0 in
    sym (advance_at w (omega arith) (omega (arith, c.requires.1)) (omega (arith, m.high)) m.closes (omega (arith, m.full, o.counted, f.0, low, c.minutes_before.ensures.0, c.ahead-stand.ensures.1)))
