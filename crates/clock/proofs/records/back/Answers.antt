-- `clock::records::back` meets its contract. The loop's invariant: before E record `j` less than `work` is passed, and what is counted up to there is what is counted up to day `d` less what is passed.
use mathlib.Core.Path.{◌≡◌, sym, ap}
use mathlib.Core.Logic.{◌⊎◌, ⊎_elim, inl, inr}
use mathlib.Core.List.{List}
use native.Mathlib.Omega.{arith}
use Prim.Native.Nat.{ℕ, ◌+◌, ◌-◌, ◌*◌, ◌≤◌, ◌<◌}
use Rattle.worktime.specs.Worked.{count}
use Rattle.clock.specs.On.{worked_on}
use Rattle.clock.specs.Regular.{Rising, regular}
use Rattle.clock.specs.RegularOrder.{put_back_after}
use Rattle.clock.specs.StandLaws.{behind_day, behind_step}
use Rattle.clock.proofs.records.back.Goals as goal
use Rattle.clock.proofs.records.back.Goals.{then-day-next, else-day-next}

pub loop-j-init : goal.loop-j-init
loop-j-init c =
    let a = c.args in
    let p = c.requires in
    let o = c.minutes_before-over.ensures in (
      omega arith,
      p.2,
      o.1 p.1,
      o.0,
      λ i l. omega (arith, p.0.below i l),
      λ week valid sums.
          let z = count (worked_on week a.exceptions.now.sheet.now a.exceptions.now.at a.exceptions.now.n) (a.d * 1440) in
          let e : z ≡ z - 0 = omega arith in
          (omega arith, rw (e, sym o.0) at (behind_day valid sums c.requires.0)),
    )

-- what the days after day x have by their weekdays
started : (ss : List ℕ) (over next x out before own : ℕ) → Rising ss → x ≤ next → over ≡ regular ss next → before ≡ regular ss x → regular ss x + own ≡ regular ss (x + 1)
    → ((x < next) × (out ≡ 0)) ⊎ ((next ≤ x) × (out ≡ own))
    → (before + own ≤ over + out) × (over + out - (before + own) ≡ over - regular ss (x + 1)) × (out ≤ own)
started ss over next x out before own up m from is more way =
    let few : out ≤ own = ⊎_elim (λ w. omega (arith, w.1)) (λ w. omega (arith, w.1)) way in
    let r = put_back_after ss up next x out m (⊎_elim (λ w. inl w) (λ w. inr (w.0, omega (arith, w.1, more))) way) in
    (omega (arith, r.0, is, from, more), omega (arith, r.1, is, from, more), few)

pub overflow_sub-start : goal.overflow_sub-start
overflow_sub-start c =
    let day = c.day-day in
    let f =
    started c.args.sums.now.entries c.loop-j.over c.loop-j.next day.result c.if-day-next.out _ _ c.args.sums.now.rising
    (omega (arith, day.ensures.0, c.loop-j.invariant.4 (c.loop-j.j - 1) (omega arith))) c.loop-j.invariant.3 c.minutes_before-before.ensures.0 c.minutes_on-regular.ensures.0
    (elim c.if-day-next.branch [ then-day-next w ↦ inl (w.if-day-next.true, w.out-is) | else-day-next w ↦ inr (w.if-day-next.false, w.out-is) ]) in
    omega (arith, f.0)

pub returns-then-work-done : goal.returns-then-work-done
returns-then-work-done c =
    let i = c.loop-j.invariant in
    let day = c.day-day in
    let f =
    started c.args.sums.now.entries c.loop-j.over c.loop-j.next day.result c.if-day-next.out _ _ c.args.sums.now.rising
    (omega (arith, day.ensures.0, c.loop-j.invariant.4 (c.loop-j.j - 1) (omega arith))) c.loop-j.invariant.3 c.minutes_before-before.ensures.0 c.minutes_on-regular.ensures.0
    (elim c.if-day-next.branch [ then-day-next w ↦ inl (w.if-day-next.true, w.out-is) | else-day-next w ↦ inr (w.if-day-next.false, w.out-is) ]) in
    let own = ap (λ z. regular c.args.sums.now.entries (z + 1)) day.ensures.0 in
    let e : c.loop-j.j ≡ c.loop-j.j - 1 + 1 = omega arith in
    let last : c.loop-j.j - 1 + 1 - 1 ≡ c.loop-j.j - 1 = omega arith in
    (rw e at i.5, i.1, λ p. rw last (omega (arith, f.0, f.1, own), omega (arith, c.if-work-done.true, c.work.ensures.0)), omega (arith, i.0, c.requires.0.within), i.2)

pub loop-j-preserved : goal.loop-j-preserved
loop-j-preserved c =
    let i = c.loop-j.invariant in
    let a = c.args in
    let day = c.day-day in
    let f =
    started c.args.sums.now.entries c.loop-j.over c.loop-j.next day.result c.if-day-next.out _ _ c.args.sums.now.rising
    (omega (arith, day.ensures.0, c.loop-j.invariant.4 (c.loop-j.j - 1) (omega arith))) c.loop-j.invariant.3 c.minutes_before-before.ensures.0 c.minutes_on-regular.ensures.0
    (elim c.if-day-next.branch [ then-day-next w ↦ inl (w.if-day-next.true, w.out-is) | else-day-next w ↦ inr (w.if-day-next.false, w.out-is) ]) in
    let x = day.result in
    let y = c.minutes_before-before.result + c.minutes_on-regular.result in
    let g = c.loop-j.over + c.if-day-next.out - y in (
      omega (arith, i.0),
      omega (arith, c.if-work-done.false),
      c.minutes_before-before.ensures.1 c.day-day.ensures.1,
      c.minutes_before-before.ensures.0,
      λ k m. omega (arith, day.ensures.0, c.args.exceptions.now.listed.1 k (c.loop-j.j - 1) (omega arith) (omega (arith, i.0, c.requires.0.within))),
      λ week valid sums.
          let b = i.5 week valid sums in
          let r = behind_step valid sums c.loop-j.j _ c.loop-j.passed c.loop-j.over x c.work.result g _ (omega arith) b.0 b.1 day.ensures.0 c.work.ensures.0 f.1 c.minutes_before-before.ensures.0 in
          let same : c.loop-j.passed + g + c.work.result ≡ c.loop-j.passed + c.loop-j.over + c.if-day-next.out - y + c.work.result = omega (arith, f.0) in
          rw same at r,
    )
