-- `cells::put_signed` meets its contract.
use mir.Facts.{to_z-of_z}
use Rattle.cells.specs.Cell.{store_z}
use Rattle.cells.proofs.put_signed.Goals as goal

pub returns : goal.returns
unfolding store_z
returns c = rw (to_z-of_z c.ranges.z)
