-- `clock::working_at` meets its contract. The minute is worked if the next one of its day is it.
use Rattle.std.specs.Prelude.{Ok, Err}
use mathlib.Core.Path.{◌≡◌, refl, sym, ap, ◌∙◌}
use native.Mathlib.Omega.{arith}
use Prim.Native.Nat.{◌+◌, ◌*◌, ◌%◌}
use Rattle.calendar.specs.Hours.{worked}
use Rattle.number.specs.Exits.{handed_on}
use Rattle.std.proofs.lemmas.Result.{IfOk-at_ok}
use Rattle.worktime.specs.Reads.{day_read, day_refused}
use Rattle.worktime.proofs.Answers.{working_at_out, working_at_in}
use Rattle.clock.specs.Days.{hand_next, day_next_tells}
use Rattle.calendar.specs.Value.{hours_of}
use Rattle.clock.proofs.working_at.Goals as goal

pub returns-in_err-d : goal.returns-in_err-d
returns-in_err-d c =
    let r = day_refused _ _ c.read_day.ensures.0 c.in_err-d.was in
    rw (handed_on _ _ c.from_residual.ensures.1) (ap Err r.0 ∙ sym (working_at_out _ _ r.1))

pub returns : goal.returns
returns c =
    let h = hours_of c.args.calendar.now in
    let d = c.in_ok-d.d in
    let m = c.args.t % 1440 in
    let y = IfOk-at_ok _ c.in_ok-d.was c.read_day.ensures.1 in
    let o = c.args.calendar.now.valid.ordered d in
    let e = hand_next h d o _ c.hours_on-hours.ensures.0 m _ _ c.next_minute.ensures refl in
    let q : d * 1440 + m ≡ c.args.t = omega (arith, y.0) in
    let t = day_next_tells h d o m (omega arith) _ e in
    sym (working_at_in (worked h) c.args.t (day_read _ _ c.read_day.ensures.0 c.in_ok-d.was) ∙ ap Ok (rw q at t) ∙ ap Ok (sym c.eq.ensures))
