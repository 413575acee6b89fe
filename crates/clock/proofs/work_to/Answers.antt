-- `clock::work_to` meets its contract: `b`'s part of its day less `a`'s, with the whole days from `a`'s up to `b`'s more.
use mathlib.Core.Path.{◌≡◌, ap, ◌∙◌}
use native.Mathlib.Omega.{arith}
use Prim.Native.Nat.{◌+◌, ◌*◌, ◌/◌, ◌≤◌}
use Rattle.calendar.specs.Hours.{worked}
use Rattle.calendar.specs.Value.{hours_of}
use Rattle.worktime.specs.Worked.{count}
use Rattle.worktime.specs.Count.{count_mono}
use Rattle.clock.specs.On.{worked_by}
use Rattle.clock.specs.Days.{hand_time}
use Rattle.clock.proofs.work_to.Goals as goal

-- both on one day
one-day : (c : goal.After-rank) →
    let a = c.args in
    let w = worked_by a.calendar.now in
    (count w a.a + c.rank.result ≡ count w a.b + c.rank-before.result) × (c.rank-before.result ≤ c.rank.result)
one-day c =
    let a = c.args in
    let h = hours_of a.calendar.now in
    let g : a.a / 1440 ≡ a.b / 1440 = omega (arith, c.if-d-e.true) in
    let p = hand_time h a.a (c.args.calendar.now.valid.ordered (a.a / 1440)) _ c.hours_from-first.ensures.0 _ c.rank-before.ensures.0 in
    let q = hand_time h a.b (c.args.calendar.now.valid.ordered (a.b / 1440)) _ (c.hours_from-first.ensures.0 ∙ ap h g) _ c.rank.ensures.0 in
    let e : count (worked h) (a.a / 1440 * 1440) ≡ count (worked h) (a.b / 1440 * 1440) = ap (λ k. count (worked h) (k * 1440)) g in
    (omega (arith, p, q, e), omega (arith, p, q, e, count_mono (worked h) {s = a.a} {t = a.b} c.requires.0))

pub overflow_sub-result : goal.overflow_sub-result
overflow_sub-result c = (one-day c).1

pub returns-then-d-e : goal.returns-then-d-e
returns-then-d-e c = let f = one-day c in (omega (arith, f.0, f.1), omega (arith, c.rank.ensures.1))

-- the sum without `a`'s part is the count up to `b`, which is not below the count up to `a`
summed : (c : goal.After-struct_known-1) →
    let a = c.args in
    let w = worked_by a.calendar.now in
    (count w a.a + (c.days_work-days.result.minutes + c.rank-2.result) ≡ count w a.b + c.rank-before.result)
    × (c.rank-before.result ≤ c.days_work-days.result.minutes + c.rank-2.result)
summed c =
    let a = c.args in
    let h = hours_of a.calendar.now in
    let p = hand_time h a.a (c.args.calendar.now.valid.ordered (a.a / 1440)) _ c.hours_from-first.ensures.0 _ c.rank-before.ensures.0 in
    let q = hand_time h a.b (c.args.calendar.now.valid.ordered (a.b / 1440)) _ c.hours_from-last.ensures.0 _ c.rank-2.ensures.0 in
    let g = c.days_work-days.ensures.0 in
    (omega (arith, p, q, g), omega (arith, p, q, g, count_mono (worked h) {s = a.a} {t = a.b} c.requires.0))

pub overflow_sub-result-2 : goal.overflow_sub-result-2
overflow_sub-result-2 c = (summed c).1

pub returns : goal.returns
returns c = let f = summed c in (omega (arith, f.0, f.1), omega (arith, c.days_work-days.ensures.1, c.rank-2.ensures.1))
