-- `memory::Reads::is_summary` meets its contract: any mark above 0 is a summary's.
use Rattle.std.proofs.Common.{ap, ltb}
use Rattle.memory.proofs.reads.Reads.is_summary.Goals as goal

pub returns : goal.returns
returns g c = ap (ltb 0) c.act.ensures.0
