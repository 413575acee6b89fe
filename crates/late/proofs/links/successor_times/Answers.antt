-- `late::links::successor_times` meets its contract.
use mathlib.Core.Path.{sym, ◌∙◌}
use Rattle.calendars.specs.CalendarLaws.{in_plan_worked}
use Rattle.passes.specs.Plan.{own}
use Rattle.order.specs.Plan.{plan_in}
use Rattle.worktime.specs.Walks.{next_start}
use Rattle.number.specs.Exits.{handed_on}
use Rattle.late.specs.LinkLaws.{times_start_refused, times_finish_refused, times_at}
use Rattle.late.proofs.links.successor_times.Goals as goal

pub returns : goal.returns
returns g c =
    let p = plan_in c.args.plan.now.sheet in
    let w = in_plan_worked c.own_calendar-calendar.ensures in
    sym (times_at (own p c.args.j) _ _ _ _ ((λ z. next_start (sym w z) (sym c.act-start.ensures.0 z)) ∙ sym c.latest_same.ensures ∙ c.in_ok-s.was) ((λ z. next_start (sym w z) (sym c.act-finish.ensures.0 z)) ∙ sym c.latest_same-2.ensures ∙ c.in_ok-f.was))

pub returns-in_err-f : goal.returns-in_err-f
returns-in_err-f g c = rw (handed_on _ _ c.from_residual-in_err-f.ensures.1) (let p = plan_in c.args.plan.now.sheet in
    let w = in_plan_worked c.own_calendar-calendar.ensures in
    sym (times_finish_refused (own p c.args.j) _ _ _ _ ((λ z. next_start (sym w z) (sym c.act-start.ensures.0 z)) ∙ sym c.latest_same.ensures ∙ c.in_ok-s.was) ((λ z. next_start (sym w z) (sym c.act-finish.ensures.0 z)) ∙ sym c.latest_same-2.ensures ∙ c.in_err-f.was)))

pub returns-in_err-s : goal.returns-in_err-s
returns-in_err-s g c = rw (handed_on _ _ c.from_residual.ensures.1) (let p = plan_in c.args.plan.now.sheet in
    let w = in_plan_worked c.own_calendar-calendar.ensures in
    sym (times_start_refused (own p c.args.j) _ _ _ ((λ z. next_start (sym w z) (sym c.act-start.ensures.0 z)) ∙ sym c.latest_same.ensures ∙ c.in_err-s.was)))
