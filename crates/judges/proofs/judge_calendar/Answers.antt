-- `judges::judge_calendar` meets its contract: the record's limit is the definition's.
use Rattle.judges.specs.Judging.{judge_calendar}
use Rattle.judges.proofs.judge_calendar.Goals as goal

pub returns : goal.returns
unfolding judge_calendar
returns c = rw c.calendar_ok.ensures at c.verdict.ensures
