-- The step's turn reads no late date but by what is seen.
use Rattle.std.specs.Prelude.{◌≡◌, refl, ℕ}
use Rattle.std.proofs.Common.{ap}
use Rattle.memory.specs.State.{State}
use Rattle.topology.specs.Frame.{Frame}
use Rattle.order.specs.Plan.{Plan}
use Rattle.passes.specs.Dates.{Early}
use Rattle.passes.specs.Backward.{backward}
use Rattle.dates.specs.Columns.{early_in}
use Rattle.dates.specs.KeptLaws.{early_kept}

pub turn_kept : {S T : State} → Frame 10 12 0 0 S T → (p : Plan) (last : ℕ) → backward p (early_in p T) last ≡ backward p (early_in p S) last
turn_kept F p last = ap (λ (d : Early). backward p d last) (early_kept F p refl refl refl)
