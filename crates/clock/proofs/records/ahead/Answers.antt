-- `clock::records::ahead` meets its contract. The loop keeps where the walk stands, with less passed than it has to work.
use mathlib.Core.Path.{◌≡◌, sym, ap, ◌∙◌}
use mathlib.Core.Logic.{◌⊎◌, ⊎_elim, inl, inr}
use mathlib.Core.List.{List}
use Prim.Native.Nat.{ℕ, ◌+◌, ◌-◌, ◌*◌, ◌≤◌, ◌<◌}
use native.Mathlib.Omega.{arith}
use Rattle.date.specs.Days.{weekday}
use Rattle.worktime.specs.Worked.{count}
use Rattle.clock.specs.On.{worked_on}
use Rattle.clock.specs.Regular.{Rising, regular}
use Rattle.clock.specs.RegularOrder.{sum_small, regular_end, put_back}
use Rattle.clock.specs.Stands.{record_work, record_count}
use Rattle.clock.specs.StandLaws.{ahead_day, ahead_record}
use Rattle.clock.proofs.records.ahead.Goals as goal
use Rattle.clock.proofs.records.ahead.Goals.{then-next-day, else-next-day}

pub loop-j-init : goal.loop-j-init
loop-j-init c =
    let a = c.args in
    let p = c.requires in
    let e = c.minutes_before-over.ensures in (
      p.0.within,
      p.2,
      e.1 p.1,
      e.0,
      λ i l m. omega (arith, p.0.above i l m),
      λ week valid sums.
          let z : count (worked_on week a.exceptions.now.sheet.now a.exceptions.now.at a.exceptions.now.n) (a.d * 1440) + 0 ≡ count (worked_on week a.exceptions.now.sheet.now a.exceptions.now.at a.exceptions.now.n) (a.d * 1440) = omega arith in
          rw (z, e.0) (ahead_day valid sums p.0),
    )

-- what the days up to day x have by their weekdays
started : (ss : List ℕ) (over next x out before own : ℕ) → Rising ss → next ≤ x + 1 → over ≡ regular ss next → before ≡ regular ss x → regular ss x + own ≡ regular ss (x + 1)
    → ((next ≤ x) × (out ≡ 0)) ⊎ ((x < next) × (out ≡ own))
    → (over ≤ before + out) × (before + out - over ≡ regular ss x - over) × (out ≤ own)
started ss over next x out before own up m from is more way =
    let few : out ≤ own = ⊎_elim (λ w. omega (arith, w.1)) (λ w. omega (arith, w.1)) way in
    let r = put_back ss up next x out m (⊎_elim (λ w. inl w) (λ w. inr (w.0, omega (arith, w.1, more))) way) in
    (omega (arith, r.0, is, from), omega (arith, r.1, is, from), few)

pub overflow_sub-start : goal.overflow_sub-start
overflow_sub-start c =
    let day = c.day-day in
    let f =
    started c.args.sums.now.entries c.loop-j.over c.loop-j.next day.result c.if-next-day.out _ _ c.args.sums.now.rising
    (omega (arith, day.ensures.0, c.loop-j.invariant.4 c.loop-j.j (omega arith) (omega arith))) c.loop-j.invariant.3 c.minutes_before-before.ensures.0 c.minutes_on-regular.ensures.0
    (elim c.if-next-day.branch [ then-next-day w ↦ inl (w.if-next-day.true, w.out-is) | else-next-day w ↦ inr (w.if-next-day.false, w.out-is) ]) in
    omega (arith, f.0)

pub returns-then-work-done : goal.returns-then-work-done
returns-then-work-done c =
    let i = c.loop-j.invariant in
    let day = c.day-day in
    let f =
    started c.args.sums.now.entries c.loop-j.over c.loop-j.next day.result c.if-next-day.out _ _ c.args.sums.now.rising
    (omega (arith, day.ensures.0, c.loop-j.invariant.4 c.loop-j.j (omega arith) (omega arith))) c.loop-j.invariant.3 c.minutes_before-before.ensures.0 c.minutes_on-regular.ensures.0
    (elim c.if-next-day.branch [ then-next-day w ↦ inl (w.if-next-day.true, w.out-is) | else-next-day w ↦ inr (w.if-next-day.false, w.out-is) ]) in
    let own = ap (regular c.args.sums.now.entries) day.ensures.0 in
    (i.5, i.1, λ _. (omega (arith, f.0, f.1, own), omega (arith, c.if-work-done.true, c.work.ensures.0)), i.2)

pub loop-j-preserved : goal.loop-j-preserved
loop-j-preserved c =
    let a = c.args in
    let p = c.requires in
    let i = c.loop-j.invariant in
    let day = c.day-day in
    let f =
    started c.args.sums.now.entries c.loop-j.over c.loop-j.next day.result c.if-next-day.out _ _ c.args.sums.now.rising
    (omega (arith, day.ensures.0, c.loop-j.invariant.4 c.loop-j.j (omega arith) (omega arith))) c.loop-j.invariant.3 c.minutes_before-before.ensures.0 c.minutes_on-regular.ensures.0
    (elim c.if-next-day.branch [ then-next-day w ↦ inl (w.if-next-day.true, w.out-is) | else-next-day w ↦ inr (w.if-next-day.false, w.out-is) ]) in
    let x = day.result in
    let own = ap (regular a.sums.now.entries) day.ensures.0 in
    let g : c.minutes_before-before.result + c.minutes_on-regular.result ≡ regular a.sums.now.entries (x + 1) = omega (arith, c.minutes_before-before.ensures.0, c.minutes_on-regular.ensures.0) in (
      omega arith,
      omega (arith, c.if-work-done.false),
      omega (arith, g, regular_end a.sums.now.entries a.sums.now.rising a.sums.now.none x, sum_small a.sums.now.entries a.sums.now.rising x (weekday x + 1) day.ensures.1 (omega arith)),
      g,
      λ k m q. omega (arith, day.ensures.0, c.args.exceptions.now.listed.1 c.loop-j.j k (omega arith) q),
      λ week valid sums.
          let r = ahead_record valid sums c.loop-j.j (omega arith) in
          let h : record_count week a.exceptions.now.sheet.now a.exceptions.now.at a.exceptions.now.n c.loop-j.j + record_work a.exceptions.now.sheet.now a.exceptions.now.at c.loop-j.j
          ≡ count (worked_on week a.exceptions.now.sheet.now a.exceptions.now.at a.exceptions.now.n) (a.d * 1440)
          + (c.loop-j.passed + c.minutes_before-before.result + c.if-next-day.out - c.loop-j.over + c.work.result) =
          omega (arith, (i.5 week valid sums).record_next (omega arith), f.0, f.1, own, c.work.ensures.0) in
          rw (h, ap (λ y. regular a.sums.now.entries (y + 1)) (sym day.ensures.0) ∙ sym g) at r,
    )
