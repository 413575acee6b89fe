-- `memory::Tables::put_row` meets its contract: the cell is one more than the row.
use Rattle.memory.proofs.Tables.put_row.Goals as goal

pub returns-in-Some : goal.returns-in-Some
returns-in-Some c = rw (c.in-Some.is) c.put_act.ensures
