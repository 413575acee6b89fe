-- `clock::next_finish` meets its contract. It is closing if the minute before is worked.
use mathlib.Core.Path.{sym, ap, ◌∙◌}
use native.Mathlib.Omega.{arith}
use Rattle.std.specs.Prelude.{Err}
use Rattle.std.proofs.lemmas.Result.{IfOk-at_ok}
use Rattle.worktime.specs.Reads.{day_refused}
use Rattle.worktime.proofs.Answers.{next_finish_out}
use Rattle.number.specs.Exits.{handed_on}
use Rattle.clock.specs.Ways.{next_finish_here, next_finish_start, next_finish_refuses}
use Rattle.clock.proofs.next_finish.Goals as goal

pub returns-in_err-read_day : goal.returns-in_err-read_day
returns-in_err-read_day c =
    let r = day_refused _ _ c.read_day.ensures.0 c.in_err-read_day.was in
    rw (handed_on _ _ c.from_residual.ensures.1) (ap Err r.0 ∙ sym (next_finish_out _ _ r.1))

pub returns-then-closing : goal.returns-then-closing
returns-then-closing c =
    let y = IfOk-at_ok _ c.in_ok-read_day.was c.read_day.ensures.1 in
    next_finish_here _ _ _ c.working_at.ensures (omega (arith, y)) (omega (arith, y)) _ c.in_ok-closing.was c.if-closing.true

pub returns : goal.returns
returns c =
    let y = IfOk-at_ok _ c.in_ok-read_day.was c.read_day.ensures.1 in
    c.next_start.ensures ∙ next_finish_start _ _ _ c.working_at.ensures (omega (arith, y)) (omega (arith, y)) _ c.in_ok-closing.was c.if-closing.false

pub returns-in_err-closing : goal.returns-in_err-closing
returns-in_err-closing c =
    let y = IfOk-at_ok _ c.in_ok-read_day.was c.read_day.ensures.1 in
    rw (handed_on _ _ c.from_residual-in_err-closing.ensures.1) (next_finish_refuses _ _ _ c.working_at.ensures (omega (arith, y)) (omega (arith, y)) _ c.in_err-closing.was)
