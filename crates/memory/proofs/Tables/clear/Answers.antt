-- `memory::Tables::clear` meets its contract: what is cleared is the whole slice.
use Rattle.std.proofs.Common.{rules}
use Rattle.memory.proofs.Tables.clear.Goals as goal

pub returns : goal.returns
returns c = (c.fill.ensures.after (λ y e. e), search rules)
