-- What the longest path is lent stays while its marks are put.
use Rattle.std.specs.Prelude.{◌≡◌, refl, ℕ}
use Rattle.std.proofs.Common.{sym, subst, ap, arith}
use Rattle.memory.specs.State.{State}
use Rattle.memory.specs.declared.Tables.{Tables}
use Rattle.memory.specs.Seen.{state, SameSlice}
use Rattle.topology.specs.Frame.{Frame}
use Rattle.order.specs.Plan.{Plan, plan_in}
use Rattle.calendars.specs.declared.plan_sheet.PlanSheet.{PlanSheet}
use Rattle.dates.specs.KeptLaws.{ready_kept, recorded_kept, early_kept}
use Rattle.passes.specs.Dates.{Early}
use Rattle.passes.specs.Floats.{on_path}
use Rattle.dates.specs.Columns.{early_in}
use Rattle.dates.specs.Standing.{Lent}
use Rattle.dates.specs.InHand.{InHand}
use Rattle.placing.specs.declared.work.Work.{Work}

pub lent_kept : {plan : PlanSheet} {tables : Tables} → Lent plan tables
    → (tables' : Tables) → Frame 16 17 0 0 (state tables) (state tables') → SameSlice tables tables'
    → Lent plan tables'
lent_kept {plan} L tables' F e = record {
  ready = ready_kept L.ready F e (omega arith);
  recorded = recorded_kept F (plan_in plan.sheet) refl refl refl L.recorded;
}

pub hand_kept : {S T : State} → Frame 16 17 0 0 S T → (p : Plan) (i : ℕ) (work : Work) → InHand p (early_in p S) i work → InHand p (early_in p T) i work
hand_kept F p i work H = subst (λ (d : Early). InHand p d i work) (sym (early_kept F p refl refl refl)) H

-- the step's turn reads no mark but by what is seen
pub turn_kept : {S T : State} → Frame 16 17 0 0 S T → (p : Plan) → on_path p (early_in p T) ≡ on_path p (early_in p S)
turn_kept F p = ap (λ (d : Early). on_path p d) (early_kept F p refl refl refl)
