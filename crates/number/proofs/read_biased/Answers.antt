-- `number::read_biased` meets its contract.
use native.Mathlib.Omega.{arith}
use Rattle.number.specs.Bytes.{biased_at}
use Rattle.number.proofs.read_biased.Goals as goal

pub returns : goal.returns
unfolding biased_at
returns c = omega arith
