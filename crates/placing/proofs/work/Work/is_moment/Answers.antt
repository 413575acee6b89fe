-- `placing::Work::is_moment` meets its contract, by the three kinds.
use Rattle.placing.specs.Placing.{is_moment}
use Rattle.placing.proofs.work.Work.is_moment.Goals as goal

pub returns-in-Task : goal.returns-in-Task
unfolding is_moment
returns-in-Task c = rw c.in-Task.is

pub returns-in-StartMilestone : goal.returns-in-StartMilestone
unfolding is_moment
returns-in-StartMilestone c = rw c.in-StartMilestone.is

pub returns-in-FinishMilestone : goal.returns-in-FinishMilestone
unfolding is_moment
returns-in-FinishMilestone c = rw c.in-FinishMilestone.is
