-- `clock::worked_before` meets its contract. The rank of `t`'s minute in its day.
use Rattle.std.specs.Prelude.{Ok, Err}
use mathlib.Core.Path.{sym, ap, ◌∙◌}
use native.Mathlib.Omega.{arith}
use Prim.Native.Nat.{◌/◌}
use Rattle.calendar.specs.Hours.{worked}
use mir.Syntax.{w64}
use mir.Facts.{to_z_pos}
use Rattle.number.specs.Exits.{handed_on}
use Rattle.std.proofs.lemmas.Result.{IfOk-at_ok}
use Rattle.worktime.specs.Reads.{day_read, day_refused}
use Rattle.worktime.proofs.Between.{worked_before_out, worked_before_at}
use Rattle.clock.specs.Days.{hand_time}
use Rattle.calendar.specs.Value.{hours_of}
use Rattle.clock.proofs.worked_before.Goals as goal

pub returns-in_err-d : goal.returns-in_err-d
returns-in_err-d c =
    let r = day_refused _ _ c.read_day.ensures.0 c.in_err-d.was in
    rw (handed_on _ _ c.from_residual.ensures.1) (ap Err r.0 ∙ sym (worked_before_out _ _ r.1))

pub returns : goal.returns
returns c =
    let a = c.args in
    let h = hours_of a.calendar.now in
    let y = IfOk-at_ok _ c.in_ok-d.was c.read_day.ensures.1 in
    let r = hand_time h a.t (a.calendar.now.valid.ordered (a.t / 1440)) _ (c.hours_on-hours.ensures.0 ∙ ap h y.0) _ c.rank.ensures.0 in
    ap Ok (to_z_pos w64 {n = c.rank.result} (omega (arith, c.rank.ensures.1)))
    ∙ sym (worked_before_at (worked h) a.t _ (day_read _ _ c.read_day.ensures.0 c.in_ok-d.was) (omega (arith, r)))
