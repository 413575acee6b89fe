-- `late::links::over_lag` meets its contract.
use mathlib.Core.Path.{sym, ap, ◌∙◌}
use Prim.Native.Nat.{ℕ}
use native.Mathlib.Omega.{arith}
use lib.IntN.{neg_ℤ}
use mir.Facts.{to_z-of_z}
use mir.Syntax.{w64}
use mir.Val.{to_z, of_z}
use Rattle.number.specs.CastLaws.{minus_back}
use Rattle.calendars.specs.CalendarLaws.{in_plan_worked}
use Rattle.order.specs.Plan.{plan_in}
use Rattle.worktime.specs.Walks.{next_start, shift}
use Rattle.calendar.specs.Hours.{worked}
use Rattle.number.specs.Exits.{handed_on}
use Rattle.late.specs.LinkLaws.{none_is, over_none, over_refused, over_at}
use Rattle.late.proofs.links.over_lag.Goals as goal

pub returns-then-lag-eq0 : goal.returns-then-lag-eq0
returns-then-lag-eq0 c = λ d l t e f. sym (over_none _ d l t _ (f ∙ sym (to_z-of_z c.ranges.lag) ∙ ap (to_z w64) c.if-lag-eq0.true))

pub returns : goal.returns
returns c =
    λ d l t e f.
    let p = plan_in c.args.plan.now.sheet in
    let w = in_plan_worked c.calendar-calendar.ensures ∙ ap (λ (j : ℕ). worked (p.hours j)) (sym e) in
    let m = ap neg_ℤ f ∙ sym (minus_back c.args.lag c.ranges.lag (omega (arith, c.requires))) in
    c.next_start.ensures ∙ (λ z. next_start (w z) c.in_ok-v.v)
    ∙ sym
    (over_at p d l t c.args.x _ ((λ z. shift (sym w z) c.args.x (m z)) ∙ sym c.shift.ensures ∙ c.in_ok-v.was)
    (λ h. c.if-lag-eq0.false (ap (of_z w64) (sym f ∙ none_is t.lag h))))

pub returns-in_err-v : goal.returns-in_err-v
returns-in_err-v c = rw (handed_on _ _ c.from_residual.ensures.1) (λ d l t e f.
    let p = plan_in c.args.plan.now.sheet in
    let w = in_plan_worked c.calendar-calendar.ensures ∙ ap (λ (j : ℕ). worked (p.hours j)) (sym e) in
    let m = ap neg_ℤ f ∙ sym (minus_back c.args.lag c.ranges.lag (omega (arith, c.requires))) in
    sym (over_refused p d l t c.args.x _ ((λ z. shift (sym w z) c.args.x (m z)) ∙ sym c.shift.ensures ∙ c.in_err-v.was)))
