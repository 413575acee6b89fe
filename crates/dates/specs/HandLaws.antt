-- An activity of the plan with its OWN calendar and its minutes left in the memory is what the passes have in hand.
use Rattle.std.specs.Prelude.{◌≡◌, ℕ, ◌<◌}
use Rattle.std.proofs.Common.{sym, ◌∙◌}
use Rattle.placing.specs.declared.work.Work.{Work}
use Rattle.memory.specs.State.{State}
use Rattle.memory.specs.Fields.{work_left}
use Rattle.sheet.specs.declared.value.Sheet.{Sheet}
use Rattle.order.specs.Plan.{plan_in, plan_of}
use Rattle.calendars.specs.Calendars.{Own}
use Rattle.calendars.specs.CalendarLaws.{in_plan_worked}
use Rattle.dates.specs.Columns.{early_in}
use Rattle.dates.specs.ColumnLaws.{column_at}
use Rattle.dates.specs.InHand.{InHand}

pub hand_is : {sheet : Sheet} (S : State) {i : ℕ} {work : Work} → i < sheet.contents.activities → Own sheet i work.activity work.calendar → work.left ≡ S.act work_left i
    → InHand (plan_in sheet) (early_in (plan_in sheet) S) i work
unfolding plan_of
hand_is {sheet} S {i} l own e = record {
  activity_is = own.is;
  own_is = sym (in_plan_worked own.in_plan);
  left_is = e ∙ sym (column_at (plan_in sheet).activities (λ i. 0) work_left S i l);
}
