-- `cells::put` meets its contract.
use mir.Facts.{to_z_pos}
use mir.Syntax.{w64}
use Rattle.cells.specs.Cell.{store}
use Rattle.cells.proofs.put.Goals as goal

pub returns : goal.returns
unfolding store
returns c = rw (to_z_pos w64 c.requires.1)
