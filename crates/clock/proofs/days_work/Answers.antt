-- `clock::days_work` meets its contract. The sum is what the days have with the E records before record `j` alone; those stand before day `next`, and the last of them, if any, on the day before it.
use mathlib.Core.Path.{◌≡◌, refl, sym, ap}
use mathlib.Core.Logic.{inl, inr, ⊎_elim}
use mathlib.Core.List.{List}
use native.Mathlib.Omega.{arith}
use borrow.Author.Count.{below_more}
use Prim.Native.Nat.{ℕ, ◌+◌, ◌-◌, ◌*◌, ◌≤◌, ◌<◌}
use lib.ListN.{get_or}
use Rattle.date.specs.Days.{weekday}
use Rattle.calendar.specs.declared.Period.{Period}
use Rattle.calendar.specs.Records.{exception_day, hours_on, Valid, FirstFrom}
use Rattle.calendar.specs.DayLaws.{hours_week}
use Rattle.worktime.specs.Worked.{count}
use Rattle.clock.specs.On.{worked_on}
use Rattle.clock.specs.Weeks.{row_ordered}
use Rattle.clock.specs.Regular.{Sums, days_work}
use Rattle.clock.specs.RegularLaws.{days_regular, regular_step}
use Rattle.clock.specs.OwnDayLaws.{days_small, days_end, none_first, first_own, further_own, some_own, part_small}
use Rattle.clock.proofs.days_work.Goals as goal
use Rattle.clock.proofs.days_work.Goals.{then-next-day, else-next-day}

pub of-sums-requires : goal.of-sums-requires
of-sums-requires c = row_ordered c.args.calendar.now.valid

pub loop-j-init : goal.loop-j-init
loop-j-init c =
    let a = c.args in
    let p = c.requires in
    let f = p.2 in
    let g : a.d + (a.e - a.d) ≡ a.e = omega (arith, p.0) in (
      omega arith,
      f.within,
      omega arith,
      p.0,
      λ week sums.
          omega (
            arith,
            c.regular_work-sum.ensures,
            rw g at
                (days_regular sums (hours_on week a.calendar.now.exceptions.sheet.now a.calendar.now.exceptions.at a.from) a.d (a.e - a.d)
                (λ x l k. hours_week week a.calendar.now.exceptions.sheet.now a.calendar.now.exceptions.at a.from x (none_first week a.calendar.now.exceptions.sheet.now a.calendar.now.exceptions.at x a.from (λ i h z. omega (arith, f.below i h))))),
          ),
      f.below,
      inl refl,
    )

-- the records before record j are those of the days before e
ended : (week : List (List Period)) (s : List ℕ) (at n d e j sum next : ℕ) → Valid week s at n → d ≤ e → e < 4294967296 → j ≤ n → next ≤ e
    → ((i : ℕ) → i < j → exception_day s at i < next)
    → ((i : ℕ) → j ≤ i → i < n → e ≤ exception_day s at i)
    → sum ≡ days_work (hours_on week s at j) d (e - d)
    → (count (worked_on week s at n) (d * 1440) + sum ≡ count (worked_on week s at n) (e * 1440)) × (sum ≤ 6184752906240) × FirstFrom s at n e j
ended week s at n d e j sum next valid l m within up below later is =
    let q = days_end week s at valid d e j sum l within later is in
    (q.0, omega (arith, q.1, m), record { within = within; below = λ k h. omega (arith, below k h, up); above = later })

pub returns-then-e-day : goal.returns-then-e-day
returns-then-e-day c =
    let p = c.requires in
    let i = c.loop-j.invariant in
    ended _ _ _ _ _ _ _ _ _ c.args.calendar.now.valid p.0 p.1 i.1 i.3 i.5 (λ k h l. omega (arith, c.if-e-day.true, c.day-day.ensures.0, c.args.calendar.now.valid.sorted c.loop-j.j k h l)) (i.4 c.args.calendar.now.week.now c.of-sums.ensures)

-- record j comes from day d on, before day e
within : (c : goal.After-row_known-1) → (c.args.d ≤ c.day-day.result) × (c.day-day.result < c.args.e)
within c = (omega (arith, c.requires.2.above c.loop-j.j c.loop-j.invariant.0 (omega arith), c.day-day.ensures.0), omega (arith, c.if-e-day.false))

-- one record more: its day's minutes by the weekday are taken out with the first of its records
stepped : (c : goal.After-row_known-1) →
    let a = c.args in
    let x = c.day-day.result in
    (week : List (List Period)) → Sums week c.of-sums.result.entries
    → days_work (hours_on week a.calendar.now.exceptions.sheet.now a.calendar.now.exceptions.at (c.loop-j.j + 1)) a.d (a.e - a.d) + c.minutes_on-regular.result ≡ c.loop-j.sum + c.work.result + c.if-next-day.out
stepped c week sums =
    let a = c.args in
    let i = c.loop-j.invariant in
    let j = c.loop-j.j in
    let day = c.day-day in
    let x = day.result in
    let r = within c in
    let is : exception_day a.calendar.now.exceptions.sheet.now a.calendar.now.exceptions.at j ≡ x = sym day.ensures.0 in
    let k : x < a.d + (a.e - a.d) = omega (arith, r) in
    elim c.if-next-day.branch [
      | then-next-day w ↦
          let none = none_first week a.calendar.now.exceptions.sheet.now a.calendar.now.exceptions.at x j (λ y h z. omega (arith, i.5 y h, w.if-next-day.true)) in
          let own : get_or c.of-sums.result.entries (weekday x) 0 + c.minutes_on-regular.result ≡ get_or c.of-sums.result.entries (weekday x + 1) 0 =
          omega (arith, c.minutes_on-regular.ensures.0, regular_step c.of-sums.ensures x, c.of-sums.ensures.each (weekday x) (omega arith)) in
          omega (
            arith,
            i.4 week sums,
            first_own week a.calendar.now.exceptions.sheet.now a.calendar.now.exceptions.at j x is _ c.work.ensures.0 a.d (a.e - a.d) r.0 k sums none c.minutes_on-regular.result own,
            w.out-is,
          )
      | else-next-day w ↦
          let some = ⊎_elim (λ v. absurd (omega (arith, v, r, w.if-next-day.false)))
          (λ v. some_own week a.calendar.now.exceptions.sheet.now a.calendar.now.exceptions.at j x v.0 (omega (arith, v, w.if-next-day.false, is, c.args.calendar.now.valid.sorted (j - 1) j (omega arith) (omega arith)))) i.6 in
          omega (arith, w.out-is, i.4 week sums, further_own week a.calendar.now.exceptions.sheet.now a.calendar.now.exceptions.at j x is _ c.work.ensures.0 a.d (a.e - a.d) r.0 k some)
    ]

-- the sum stays small
small : (week : List (List Period)) (s : List ℕ) (at n d e j sum work : ℕ) → Valid week s at n → d ≤ e → e < 4294967296 → j ≤ n → sum ≡ days_work (hours_on week s at j) d (e - d) → work ≤ 1440 → sum + work ≤ 6184752907680
small week s at n d e j sum work valid l m within is few = omega (arith, days_small (hours_on week s at j) d (part_small week s at valid j within) (e - d))

pub overflow_add-sum : goal.overflow_add-sum
overflow_add-sum c =
    let p = c.requires in
    let i = c.loop-j.invariant in
    omega (arith, small _ _ _ _ _ _ _ _ _ c.args.calendar.now.valid p.0 p.1 i.1 (i.4 c.args.calendar.now.week.now c.of-sums.ensures) c.work.ensures.1)

pub overflow_add-sum-in-loop-j : goal.overflow_add-sum-in-loop-j
overflow_add-sum-in-loop-j c =
    let p = c.requires in
    let i = c.loop-j.invariant in
    let f = small _ _ _ _ _ _ _ _ _ c.args.calendar.now.valid p.0 p.1 i.1 (i.4 c.args.calendar.now.week.now c.of-sums.ensures) c.work.ensures.1 in
    elim c.if-next-day.branch [
      | then-next-day w ↦ omega (arith, w.out-is, f)
      | else-next-day w ↦ omega (arith, w.out-is, f, c.minutes_on-regular.ensures.1)
    ]

pub overflow_sub-sum : goal.overflow_sub-sum
overflow_sub-sum c = omega (arith, stepped c c.args.calendar.now.week.now c.of-sums.ensures)

pub loop-j-preserved : goal.loop-j-preserved
loop-j-preserved c =
    let i = c.loop-j.invariant in
    let r = within c in
    let day = c.day-day.ensures.0 in
    let sorted = c.args.calendar.now.valid.sorted in
    let same : c.loop-j.j + 1 - 1 ≡ c.loop-j.j = omega arith in (
      omega (arith, i.0),
      omega arith,
      omega (arith, r),
      omega (arith, r),
      λ week sums. omega (arith, stepped c week sums),
      below_more _ c.loop-j.j (λ y h. omega (arith, day, sorted y c.loop-j.j (omega arith) (omega arith))) (omega (arith, day)),
      inr (omega arith, omega (arith, day, ap (exception_day c.args.calendar.now.exceptions.sheet.now c.args.calendar.now.exceptions.at) same)),
    )

pub returns : goal.returns
returns c =
    let p = c.requires in
    let i = c.loop-j.invariant in
    let e : c.loop-j.j ≡ c.args.calendar.now.exceptions.n = omega (arith, i.1, c.loop-j-test.false) in
    rw e at (ended _ _ _ _ _ _ _ _ _ c.args.calendar.now.valid p.0 p.1 i.1 i.3 i.5 (λ k h l. absurd (omega arith)) (i.4 c.args.calendar.now.week.now c.of-sums.ensures))
