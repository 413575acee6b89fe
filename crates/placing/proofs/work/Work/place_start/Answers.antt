-- `placing::Work::place_start` meets its contract, by the three kinds.
use mathlib.Core.Path.{sym, ◌∙◌}
use Rattle.placing.proofs.PlacingLaws.{place_start_at_start, place_start_finish}
use Rattle.placing.proofs.work.Work.place_start.Goals as goal

pub returns-in-Task : goal.returns-in-Task
returns-in-Task c = c.next_start.ensures ∙ sym (place_start_at_start _ _ _ c.in-Task.is)

pub returns-in-FinishMilestone : goal.returns-in-FinishMilestone
returns-in-FinishMilestone c = c.next_finish.ensures ∙ sym (place_start_finish _ _ _ c.in-FinishMilestone.is)
