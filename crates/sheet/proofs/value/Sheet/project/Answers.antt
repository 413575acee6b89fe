-- `Sheet::project` meets its contract: the record that is read is the sheet's.
use mathlib.Core.Path.{◌∙◌}
use Rattle.project.specs.Records.{project_at}
use Rattle.sheet.proofs.value.Sheet.project.Goals as goal

pub returns : goal.returns
returns c = c.read.ensures ∙ (λ z. project_at (c.project_record.ensures.0 z) (c.project_record.ensures.1 z))
