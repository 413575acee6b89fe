-- `number::read_u32` meets its contract.
use Rattle.std.proofs.Common.{arith}
use Rattle.number.specs.Bytes.{u32_at}
use Rattle.number.proofs.read_u32.Goals as goal

pub returns : goal.returns
unfolding u32_at
returns c = (omega (arith, c.from_le_bytes.ensures), omega arith)
