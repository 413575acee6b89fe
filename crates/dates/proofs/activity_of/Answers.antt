-- `dates::activity_of` meets its contract.
use mathlib.Core.Path.{◌∙◌}
use Rattle.order.specs.InSheet.{activity_is}
use Rattle.dates.proofs.activity_of.Goals as goal

pub returns : goal.returns
returns c = c.read.ensures ∙ activity_is c.args.sheet.now c.args.i c.activity.ensures
