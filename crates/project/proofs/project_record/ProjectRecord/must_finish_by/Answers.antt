-- `ProjectRecord::must_finish_by` meets its contract: the field's place is the definition's.
use Rattle.project.specs.Records.{project_at}
use Rattle.project.proofs.project_record.ProjectRecord.must_finish_by.Goals as goal

pub returns : goal.returns
unfolding project_at
returns c = c.read_optional_date.ensures
