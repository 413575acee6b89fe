-- `Sheet::start` meets its contract: the start that is read is of the sheet's record.
use mathlib.Core.Path.{◌∙◌}
use Rattle.project.specs.Records.{project_at}
use Rattle.sheet.proofs.value.Sheet.start.Goals as goal

pub returns : goal.returns
returns c = c.start.ensures ∙ (λ z. (project_at (c.project_record.ensures.0 z) (c.project_record.ensures.1 z)).start)
