-- `memory::Tables::is_summary` meets its contract: any mark above 0 is a summary's.
use Rattle.std.proofs.Common.{ap, ltb}
use Rattle.memory.proofs.Tables.is_summary.Goals as goal

pub returns : goal.returns
returns c = ap (ltb 0) c.act.ensures.0
