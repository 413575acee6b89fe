-- `early::minutes_from` meets its contract. Each way out has its law.
use mathlib.Core.Path.{sym, ◌∙◌}
use Rattle.early.specs.EarlyLaws.{minutes_summary, minutes_task, minutes_milestone, at_below}
use Rattle.early.proofs.minutes_from.Goals as goal

pub returns-then-unplaced : goal.returns-then-unplaced
returns-then-unplaced c = (λ p d i U. sym (minutes_summary U.hand _ U.summary_is c.if-unplaced.true), at_below _ c.args.unplaced.now.storable)

pub returns-in-Task : goal.returns-in-Task
returns-in-Task c = (λ p d i U. c.work_to.ensures.0 p d i U ∙ sym (minutes_task U.hand _ U.summary_is c.if-unplaced.false c.in-Task.is), c.work_to.ensures.1)

pub returns-in-StartMilestone : goal.returns-in-StartMilestone
returns-in-StartMilestone c = (λ p d i U. sym (minutes_milestone U.hand _ U.summary_is c.if-unplaced.false c.in-StartMilestone.is), at_below _ c.args.unplaced.now.storable)
