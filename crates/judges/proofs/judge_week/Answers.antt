-- `judges::judge_week` meets its contract: the record's limit is the definition's.
use Rattle.judges.specs.Judging.{judge_week}
use Rattle.judges.proofs.judge_week.Goals as goal

pub returns : goal.returns
unfolding judge_week
returns c = rw (c.period_ok.ensures, c.week_after.ensures, c.weekday_count-count.ensures, c.week_period-p.ensures, c.byte-day.ensures.0) at c.verdict.ensures
