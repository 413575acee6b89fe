-- `clock::day_work` meets its contract. The day's rank at its end.
use Rattle.std.specs.Prelude.{Ok, Err}
use mathlib.Core.Path.{sym, ap, ◌∙◌}
use native.Mathlib.Omega.{arith}
use Rattle.calendar.specs.Hours.{worked}
use mir.Syntax.{w64}
use mir.Facts.{to_z_pos}
use Rattle.number.specs.Exits.{handed_on}
use Rattle.worktime.specs.Reads.{day_read, day_refused}
use Rattle.worktime.proofs.Between.{day_work_out, day_work_at}
use Rattle.clock.specs.Days.{hand_rank}
use Rattle.calendar.specs.Value.{hours_of}
use Rattle.clock.proofs.day_work.Goals as goal

pub returns-in_err-read_day : goal.returns-in_err-read_day
returns-in_err-read_day c =
    let r = day_refused _ _ c.read_day.ensures.0 c.in_err-read_day.was in
    rw (handed_on _ _ c.from_residual.ensures.1) (ap Err r.0 ∙ sym (day_work_out _ _ r.1))

pub returns : goal.returns
returns c =
    let a = c.args in
    let h = hours_of a.calendar.now in
    let r = hand_rank h a.d (a.calendar.now.valid.ordered a.d) _ c.hours_on-hours.ensures.0 1440 _ (omega arith) c.rank.ensures.0 in
    ap Ok (to_z_pos w64 {n = c.rank.result} (omega (arith, c.rank.ensures.1)))
    ∙ sym (day_work_at (worked h) a.d _ (day_read _ _ c.read_day.ensures.0 c.in_ok-read_day.was) (omega (arith, r)))
