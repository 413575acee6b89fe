-- The tables that rows lent to be read are those of.
use Rattle.memory.specs.declared.Tables.{Tables}
use Rattle.memory.specs.declared.reads.Rows.{Rows}

-- no one writes through them: their reference's name is any
abbrev pub tables_of : Rows → Tables
tables_of r = record {
  cells = record { ref_ptr = r.cells.ref_ptr; ghost_name = 0; now = r.cells.now };
  activities = r.activities;
  links = r.links;
  kept = r.kept;
  room = r.room;
  within = r.within;
}
