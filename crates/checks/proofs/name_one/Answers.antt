-- `checks::name_one` meets its contract.
use mathlib.Core.Path.{ap}
use lib.ListN.{set}
use Rattle.order.specs.InSheet.{activity_is}
use Rattle.checks.proofs.name_one.Goals as goal

pub returns : goal.returns
returns c = let x = c.args in ap (set x.names.now x.k) (rw (activity_is x.sheet.now x.i c.activity.ensures) at c.id.ensures.0)
