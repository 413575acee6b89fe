-- `judges::judge_activity` meets its contract: the record's limit is the definition's.
use Rattle.judges.specs.Judging.{judge_activity}
use Rattle.judges.proofs.judge_activity.Goals as goal

pub returns : goal.returns
unfolding judge_activity
returns c = rw (c.activity_ok.ensures, c.new-activity.ensures.0, c.new-activity.ensures.1) at c.verdict.ensures
