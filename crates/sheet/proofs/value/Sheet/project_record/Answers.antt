-- `Sheet::project_record` meets its contract: the record is of the sheet's bytes, at 0.
use Rattle.sheet.proofs.value.Sheet.project_record.Goals as goal

pub returns : goal.returns
returns c = c.new.ensures
