-- `calendar::read_week` meets its contract. The loop keeps the rows of the records passed, and how many periods each has.
use mathlib.Core.Path.{◌≡◌, refl, ap, ◌∙◌}
use mathlib.Core.List.{[]}
use Prim.Native.Nat.{ℕ, ◌<◌}
use native.Mathlib.Omega.{arith}
use lib.ListN.{length, get_or}
use Rattle.calendar.specs.Records.{weekday_at, week_periods, pad}
use Rattle.calendar.specs.WeekLaws.{rows_start, rows_room, rows_push, rows_skip, week_rows}
use Rattle.calendar.proofs.read_week.Goals as goal
use Rattle.calendar.proofs.read_week.Goals.{then-k-lt7, else-k-lt7}

pub loop-i-init : goal.loop-i-init
loop-i-init c = rows_start _ _

-- where another period comes, its row has room
room : (c : goal.After-week_period) →
    let l = c.before.before.before in
    let a = l.args in
    let k = weekday_at a.sheet.now a.at l.loop-i.i in
    (get_or l.loop-i.counts k 0 < 8) × (length (get_or l.loop-i.week k []) ≡ 8)
room c =
    let l = c.before.before.before in
    let a = l.args in
    let k = weekday_at a.sheet.now a.at l.loop-i.i in
    rows_room _ _ _ _ _ l.loop-i.invariant k a.n c.if-k-lt7.true (omega arith) refl (l.requires.1 k c.if-k-lt7.true)

pub offset_bounds-week-c : goal.offset_bounds-week-c
offset_bounds-week-c c = omega (arith, (room c).0)

pub bounds-week-c : goal.bounds-week-c
bounds-week-c c = (room c).0

pub overflow_add-counts : goal.overflow_add-counts
overflow_add-counts c = omega (arith, (room c).0)

pub loop-i-preserved : goal.loop-i-preserved
loop-i-preserved c =
    elim c.if-k-lt7.branch [
      | then-k-lt7 w ↦
          let k = weekday_at c.args.sheet.now c.args.at c.loop-i.i in
          let room = rows_room _ _ _ _ _ c.loop-i.invariant k c.args.n w.if-k-lt7.true (omega arith) refl (c.requires.1 k w.if-k-lt7.true) in
          rw (w.week-is, w.counts-is) (rows_push _ _ _ _ _ c.loop-i.invariant _ _ w.if-k-lt7.true refl room.0 w.week_period.ensures)
      | else-k-lt7 w ↦ rw (w.week-is, w.counts-is) (rows_skip _ _ _ _ _ c.loop-i.invariant w.if-k-lt7.false)
    ]

pub returns : goal.returns
returns c =
    let l = c.before in
    let a = l.args in
    let e : l.loop-i.i ≡ a.n = omega arith in
    let r = l.loop-i.invariant in
    week_rows _ _ _ _ r.seven (λ k h. (r.kept k h).1 ∙ ap (λ (i : ℕ). pad (week_periods a.sheet.now a.at k i)) e)
