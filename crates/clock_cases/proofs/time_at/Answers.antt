-- `clock_cases::time_at` meets its contract: a day is below 2 ^ 32, and a minute below 2 ^ 16.
use Rattle.std.proofs.Common.{arith}
use Rattle.clock_cases.proofs.time_at.Goals as goal

pub returns : goal.returns
returns c = omega (arith, c.read_biased.ensures, c.read_u16.ensures)
