-- `clock::between` meets its contract: each way out cites its law, by the order of the two times.
use Rattle.std.specs.Prelude.{Ok, Err}
use mathlib.Core.Path.{sym, ap, ◌∙◌}
use native.Mathlib.Omega.{arith}
use lib.IntN.{pos}
use mir.Syntax.{w64}
use mir.Facts.{to_z_pos, to_z-of_z}
use Rattle.number.specs.ZedLaws.{zero_minus}
use Rattle.number.specs.Exits.{handed_on}
use Rattle.worktime.specs.Reads.{day_read, day_refused, minute_range}
use Rattle.worktime.proofs.Between.{between_out_first, between_out_second, between_up, between_down}
use Rattle.clock.specs.On.{worked_by}
use Rattle.clock.proofs.between.Goals as goal

pub returns-in_err-read_day : goal.returns-in_err-read_day
returns-in_err-read_day c =
    let r = day_refused _ _ c.read_day.ensures.0 c.in_err-read_day.was in
    rw (handed_on _ _ c.from_residual.ensures.1) (ap Err r.0 ∙ sym (between_out_first _ _ _ r.1))

pub returns-in_err-read_day-2 : goal.returns-in_err-read_day-2
returns-in_err-read_day-2 c =
    let r = day_refused _ _ c.read_day-2.ensures.0 c.in_err-read_day-2.was in
    rw (handed_on _ _ c.from_residual-in_err-read_day-2.ensures.1) (ap Err r.0 ∙ sym (between_out_second _ _ _ r.1))

pub work_to-requires : goal.work_to-requires
work_to-requires c = (omega arith, (minute_range c.args.b (day_read _ _ c.read_day-2.ensures.0 c.in_ok-read_day-2.was)).1)

pub returns-then-a-b : goal.returns-then-a-b
returns-then-a-b c =
    let w = worked_by c.args.calendar.now in
    ap Ok (to_z_pos w64 {n = c.work_to.result} (omega (arith, c.work_to.ensures.1)))
    ∙ sym
    (between_up w c.args.a c.args.b _ (day_read _ _ c.read_day.ensures.0 c.in_ok-read_day.was)
    (day_read _ _ c.read_day-2.ensures.0 c.in_ok-read_day-2.was) c.work_to.ensures.0)

pub work_to-requires-2 : goal.work_to-requires-2
work_to-requires-2 c = (omega arith, (minute_range c.args.a (day_read _ _ c.read_day.ensures.0 c.in_ok-read_day.was)).1)

pub returns : goal.returns
returns c =
    let w = worked_by c.args.calendar.now in
    ap Ok (to_z-of_z {w = w64} (record { sfits = c.difference.type_inv }) ∙ c.difference.ensures.0 ∙ zero_minus (pos c.work_to-2.result))
    ∙ sym
    (between_down w c.args.a c.args.b _ (day_read _ _ c.read_day.ensures.0 c.in_ok-read_day.was)
    (day_read _ _ c.read_day-2.ensures.0 c.in_ok-read_day-2.was) c.work_to-2.ensures.0)
