-- `number::read_u16` meets its contract.
use Rattle.std.proofs.Common.{arith}
use Rattle.number.specs.Bytes.{u16_at}
use Rattle.number.proofs.read_u16.Goals as goal

pub returns : goal.returns
unfolding u16_at
returns c = omega (arith, c.from_le_bytes.ensures)
