-- `clock::advance` meets its contract: what is worked on the day before `t` is walked over again from the day's beginning on.
use mathlib.Core.Path.{◌≡◌, sym, ap, ◌∙◌}
use Prim.Native.Nat.{◌*◌}
use native.Mathlib.Omega.{arith}
use Rattle.calendar.specs.Value.{hours_of}
use Rattle.std.specs.Prelude.{Err}
use Rattle.std.proofs.lemmas.Result.{IfOk-at_ok}
use Rattle.number.specs.Exits.{handed_on}
use Rattle.worktime.specs.Reads.{day_refused}
use Rattle.worktime.proofs.Shift.{advance_zero, advance_out}
use Rattle.clock.specs.On.{worked_by}
use Rattle.clock.specs.Days.{day_time}
use Rattle.clock.specs.SameLaws.{advance_same, advance_many}
use Rattle.clock.proofs.advance.Goals as goal

pub returns-then-work-eq0 : goal.returns-then-work-eq0
returns-then-work-eq0 c =
    let a = c.args in
    let z : a.work ≡ 0 = c.if-work-eq0.true in
    rw z (sym (advance_zero _ a.t))

pub returns-in_err-d : goal.returns-in_err-d
returns-in_err-d c =
    let r = day_refused _ _ c.read_day.ensures.0 c.in_err-d.was in
    rw (handed_on _ _ c.from_residual.ensures.1) (ap Err r.0 ∙ sym (advance_out _ _ _ (omega arith) r.1))

pub returns-then-work-gt-MANY : goal.returns-then-work-gt-MANY
returns-then-work-gt-MANY c = sym (advance_many _ _ (omega arith))

pub returns : goal.returns
returns c =
    let a = c.args in
    let h = hours_of a.calendar.now in
    let d = c.in_ok-d.d in
    let y = IfOk-at_ok _ c.in_ok-d.was c.read_day.ensures.1 in
    let counted = day_time h a.t d y.0 (a.calendar.now.valid.ordered d) _ c.hours_from-hours.ensures.0 _ c.rank-done.ensures.0 in
    c.advance_from.ensures
    ∙ sym (advance_same (worked_by a.calendar.now) {u = d * 1440} (omega arith) (omega arith) (omega (arith, y)) (omega (arith, y)) (omega (arith, counted)))
