-- `ProjectRecord::progress_mode` meets its contract: the code's place is the definition's.
use Rattle.project.specs.Records.{project_at}
use Rattle.project.proofs.project_record.ProjectRecord.progress_mode.Goals as goal

pub returns : goal.returns
unfolding project_at
returns c = rw c.byte.ensures.0 at c.from.ensures
