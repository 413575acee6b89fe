-- `placing::dates::finish_by_day` meets its contract: the day's end is a day's minutes after its midnight.
use mathlib.Core.Path.{ap, ◌∙◌}
use Rattle.std.specs.Prelude.{ℕ, ◌+◌}
use Rattle.clock.specs.On.{worked_by}
use Rattle.worktime.specs.Walks.{previous_finish}
use Rattle.placing.proofs.dates.finish_by_day.Goals as goal

pub returns : goal.returns
returns c = c.previous_finish.ensures ∙ ap (λ (t : ℕ). previous_finish (worked_by c.args.calendar.now) (t + 1440)) c.midnight.ensures.0
