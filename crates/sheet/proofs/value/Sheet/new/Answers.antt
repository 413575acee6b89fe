-- `Sheet::new` meets its contract: what the sheet holds is what the caller read of the same bytes.
use Rattle.sheet.proofs.value.Sheet.new.Goals as goal

pub invariant_of-result : goal.invariant_of-result
invariant_of-result c = record { read = c.requires }
