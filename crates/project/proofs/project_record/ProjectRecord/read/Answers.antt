-- `ProjectRecord::read` meets its contract, field by field.
use Rattle.project.specs.Records.{project_at}
use Rattle.project.proofs.project_record.ProjectRecord.read.Goals as goal

pub returns : goal.returns
unfolding project_at
returns c = λ z. record {
  start = c.start.ensures z;
  data_date = c.data_date.ensures z;
  must_finish_by = c.must_finish_by.ensures z;
  lag_calendar = c.lag_calendar.ensures z;
  float_kind = c.float_kind.ensures z;
  progress_mode = c.progress_mode.ensures z;
  critical_by = c.critical_by.ensures z;
}
