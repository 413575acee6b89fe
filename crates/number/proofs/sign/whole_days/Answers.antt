-- `number::sign::whole_days` meets its contract.
use mathlib.Core.Path.{sym}
use mir.Facts.{to_z-of_z, to_z_pos}
use mir.Syntax.{w64}
use Rattle.number.specs.QuotLaws.{quot_fits}
use Rattle.number.specs.SignLaws.{days_of_zero, days_of_some}
use Rattle.number.proofs.sign.whole_days.Goals as goal

pub returns-then-day_length-eq0 : goal.returns-then-day_length-eq0
returns-then-day_length-eq0 c = rw (to_z-of_z c.ranges.minutes) (sym (days_of_zero c.args.minutes c.args.day_length c.if-day_length-eq0.true))

pub returns : goal.returns
returns c =
    let s = c.before in
    rw (to_z-of_z s.ranges.minutes, to_z_pos w64 s.requires, to_z-of_z (quot_fits w64 s.args.minutes s.args.day_length s.ranges.minutes))
    (sym (days_of_some s.args.minutes s.args.day_length c.if-day_length-eq0.false))
