-- `clock::retreat` meets its contract: on `t`'s day itself, or from that day's beginning with what the day leaves.
use mathlib.Core.Path.{◌≡◌, sym, ap, ◌∙◌}
use Prim.Native.Nat.{◌*◌, ◌%◌}
use native.Mathlib.Omega.{arith}
use Rattle.std.specs.Prelude.{Err}
use Rattle.std.proofs.lemmas.Result.{IfOk-at_ok}
use Rattle.number.specs.Exits.{handed_on}
use Rattle.worktime.specs.Reads.{day_refused}
use Rattle.calendar.specs.HoursLaws.{rank_mono}
use Rattle.calendar.specs.Records.{periods_of}
use Rattle.worktime.proofs.Shift.{retreat_zero, retreat_out, retreat_at}
use Rattle.clock.specs.On.{worked_by}
use Rattle.clock.specs.Days.{hand_select, day_time}
use Rattle.clock.specs.SameLaws.{retreat_same, retreat_many}
use Rattle.calendar.specs.Value.{hours_of}
use Rattle.clock.proofs.retreat.Goals as goal

pub returns-then-work-eq0 : goal.returns-then-work-eq0
returns-then-work-eq0 c =
    let a = c.args in
    let z : a.work ≡ 0 = c.if-work-eq0.true in
    rw z (sym (retreat_zero _ a.t))

pub returns-in_err-d : goal.returns-in_err-d
returns-in_err-d c =
    let r = day_refused _ _ c.read_day.ensures.0 c.in_err-d.was in
    rw (handed_on _ _ c.from_residual.ensures.1) (ap Err r.0 ∙ sym (retreat_out _ _ _ (omega arith) r.1))

pub returns-then-work-gt-MANY : goal.returns-then-work-gt-MANY
returns-then-work-gt-MANY c =
    let y = IfOk-at_ok _ c.in_ok-d.was c.read_day.ensures.1 in
    sym (retreat_many _ (omega (arith, c.if-work-gt-MANY.true, y)))

pub select-requires : goal.select-requires
select-requires c =
    let ps = periods_of c.hours_from-hours.result in
    (c.hours_from-hours.ensures.1, omega arith, omega (arith, c.rank-done.ensures.0, rank_mono ps (c.args.t % 1440) 1440 (omega arith)))

pub returns-then-work-done : goal.returns-then-work-done
returns-then-work-done c =
    let a = c.args in
    let h = hours_of a.calendar.now in
    let d = c.in_ok-d.d in
    let y = IfOk-at_ok _ c.in_ok-d.was c.read_day.ensures.1 in
    let ps = periods_of c.hours_from-hours.result in
    let q = c.rank-done.ensures.0 in
    let some = c.if-work-eq0.false in
    let f = hand_select h d (a.calendar.now.valid.ordered d) ps c.hours_from-hours.ensures.0 _ _ (omega arith) (omega (arith, q, some, c.if-work-done.true, rank_mono ps (a.t % 1440) 1440 (omega arith))) c.select.ensures.0 in
    sym (retreat_at _ (omega (arith, some)) (omega (arith, f.low, y)) (omega (arith, y)) f.opens (omega (arith, f.less, day_time h a.t d y.0 (a.calendar.now.valid.ordered d) _ c.hours_from-hours.ensures.0 _ c.rank-done.ensures.0, c.if-work-done.true)))

pub returns : goal.returns
returns c =
    let a = c.args in
    let h = hours_of a.calendar.now in
    let d = c.in_ok-d.d in
    let y = IfOk-at_ok _ c.in_ok-d.was c.read_day.ensures.1 in
    let counted = day_time h a.t d y.0 (a.calendar.now.valid.ordered d) _ c.hours_from-hours.ensures.0 _ c.rank-done.ensures.0 in
    c.retreat_from.ensures
    ∙ sym (retreat_same (worked_by a.calendar.now) {u = d * 1440} (omega arith) (omega (arith, c.if-work-done.false)) (omega (arith, y)) (omega (arith, y)) (omega (arith, counted, c.if-work-done.false)))
