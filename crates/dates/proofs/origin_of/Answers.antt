-- `dates::origin_of` meets its contract.
use mathlib.Core.Path.{◌∙◌, ap}
use Rattle.placing.specs.Placing.{midnight_of}
use Rattle.dates.specs.ReadLaws.{plan_start}
use Rattle.project.specs.Records.{project_at}
use Rattle.dates.proofs.origin_of.Goals as goal

pub returns : goal.returns
unfolding project_at
returns c = (c.midnight.ensures.0 ∙ ap midnight_of (c.start.ensures ∙ plan_start _ _), c.midnight.ensures.1)
