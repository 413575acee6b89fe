-- `memory::Tables::of` meets its contract: the slice has room for the sizes that it is taken with.
use Rattle.std.proofs.Common.{arith}
use Rattle.memory.proofs.Tables.of.Goals as goal

pub invariant_of-result : goal.invariant_of-result
invariant_of-result c = record { room = c.requires; within = omega arith }
