-- `early::times_of` meets its contract. The header is read as the plan has it.
use mathlib.Core.Path.{ap}
use Rattle.order.specs.Plan.{plan_of}
use Rattle.project.specs.declared.Project.{Project}
use Rattle.early.proofs.times_of.Goals as goal

pub returns : goal.returns
unfolding plan_of
returns c = (record { origin_is = c.origin_of.ensures.0; floor_is = c.floor_of.ensures.0; data_is = ap (λ (x : Project). x.data_date) c.project-project.ensures; mode_is = ap (λ (x : Project). x.progress_mode) c.project-project.ensures }, c.floor_of.ensures.1)
