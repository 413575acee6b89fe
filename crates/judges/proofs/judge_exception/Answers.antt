-- `judges::judge_exception` meets its contract: the record's limit is the definition's.
use Rattle.judges.specs.Judging.{judge_exception}
use Rattle.judges.proofs.judge_exception.Goals as goal

pub returns : goal.returns
unfolding judge_exception
returns c = rw (c.day_ok.ensures, c.no_work.ensures, c.period_ok.ensures, c.exception_after.ensures, c.exception_day-day.ensures.0, c.exception_period-p.ensures) at c.verdict.ensures
