-- `clock::shift` meets its contract. Forward where the lag is not negative, else back.
use mathlib.Core.Path.{sym, ap, ◌∙◌}
use native.Mathlib.Omega.{arith}
use mir.Facts.{to_z-of_z}
use Rattle.worktime.specs.Walks.{advance, retreat}
use Rattle.clock.specs.On.{worked_by}
use Rattle.clock.specs.Ways.{shift_up, shift_down}
use Rattle.clock.proofs.shift.Goals as goal

pub returns-then-back-eq0 : goal.returns-then-back-eq0
returns-then-back-eq0 c =
    let s = c.before.before.before.before in
    let w = worked_by s.args.calendar.now in
    let u = rw (to_z-of_z s.ranges.lag) at c.upward.ensures.0 in
    let d = rw (to_z-of_z s.ranges.lag) at c.downward-back.ensures.0 in
    c.advance.ensures ∙ ap (advance w s.args.t) u ∙ shift_up w s.args.t _ (sym d ∙ c.if-back-eq0.true)

pub returns : goal.returns
returns c =
    let s = c.before.before.before in
    let w = worked_by s.args.calendar.now in
    let d = rw (to_z-of_z s.ranges.lag) at c.downward-back.ensures.0 in
    c.retreat.ensures ∙ ap (retreat w s.args.t) d ∙ shift_down w s.args.t _ (omega (arith, d, c.if-back-eq0.false))
