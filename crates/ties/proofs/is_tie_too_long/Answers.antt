-- `ties::is_tie_too_long` meets its contract.
use mathlib.Core.Path.{ap, ◌∙◌}
use Rattle.order.specs.Plan.{plan_of, plan_in}
use Rattle.ties.specs.TieSteps.{long_is}
use Rattle.ties.proofs.is_tie_too_long.Goals as goal

pub returns : goal.returns
unfolding plan_of
returns c =
    let x = c.args in
    let p = plan_in x.sheet.now in
    let t = c.tie_calendar-calendar in
    let l = c.lag_of.ensures in
    c.is_too_long.ensures ∙ long_is p x.k x.ends.from x.ends.to c.requires.2 _ _ _ l.0 (l.1 ∙ ap p.day_length t.ensures.0) l.2
