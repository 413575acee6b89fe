-- `remaining::record_dated` meets its contract: what is recorded is the definition's, and so is the work left.
use mathlib.Core.Path.{◌≡◌, sym, ◌∙◌}
use mathlib.Core.Bool.{false}
use Prim.Native.Nat.{ℕ}
use native.Mathlib.Omega.{arith}
use Rattle.std.specs.Prelude.{Result, Ok, Err}
use Rattle.worktime.specs.declared.ClockError.{ClockError}
use Rattle.calendar.specs.declared.value.Calendar.{Calendar}
use Rattle.sheet.specs.declared.value.Sheet.{Sheet}
use Rattle.project.specs.declared.Activity.{Activity}
use Rattle.placing.specs.declared.Actual.{Actual}
use Rattle.placing.specs.Placing.{actual}
use Rattle.memory.specs.SeenLaws.{same_refl}
use Rattle.clock.specs.On.{worked_by}
use Rattle.order.specs.Plan.{plan_in}
use Rattle.order.specs.Ids.{summary}
use Rattle.order.specs.Ties.{calendar_of}
use Rattle.passes.specs.Plan.{recorded}
use Rattle.calendars.specs.Calendars.{InPlan}
use Rattle.calendars.specs.CalendarLaws.{in_plan_worked, own_is}
use Rattle.number.specs.Exits.{handed_on}
use Rattle.remaining.specs.LeftLaws.{recorded_else, left_is, left_below, is_below}
use Rattle.remaining.specs.RowLaws.{row_kept, row_refused}
use Rattle.remaining.proofs.record_dated.Goals as goal

-- activity i of the sheet, in hand
module _ (sheet : Sheet) (i : ℕ) {a : Activity} (e : a ≡ (plan_in sheet).activity i) where
  recorded-is : {calendar : Calendar} → InPlan sheet (calendar_of (plan_in sheet) i) calendar
      → summary (plan_in sheet) i ≡ false → {x : Result Actual ClockError} → x ≡ actual (worked_by calendar) a.actual_start a.actual_finish → x ≡ recorded (plan_in sheet) i
  recorded-is C f r =
      r ∙ (λ z. actual (in_plan_worked C z) (e z).actual_start (e z).actual_finish) ∙ sym (recorded_else (plan_in sheet) i f)

pub keep-requires : goal.keep-requires
keep-requires c =
    let y = c.args in
    let p = plan_in y.plan.now.sheet in
    let C = (own_is c.requires.2 c.calendar.ensures).in_plan in
    let x = c.in_ok-actual.actual in (
      omega (arith, c.requires.0, c.requires.1),
      is_below p y.i (Ok x) (sym c.in_ok-actual.was ∙ recorded-is y.plan.now.sheet y.i c.requires.2 C c.requires.3 c.actual.ensures),
      left_below p y.i (rw c.requires.4 at c.requires.5) (Ok x) c.in_ok-left.left (sym c.left_of.ensures ∙ c.in_ok-left.was),
    )

pub returns : goal.returns
returns c =
    let y = c.args in
    let p = plan_in y.plan.now.sheet in
    let C = (own_is c.requires.2 c.calendar.ensures).in_plan in
    let x = c.in_ok-actual.actual in
    let e = sym c.in_ok-actual.was ∙ recorded-is y.plan.now.sheet y.i c.requires.2 C c.requires.3 c.actual.ensures in
    let m = sym c.left_of.ensures ∙ c.in_ok-left.was in
    (row_kept p y.i _ _ x _ c.keep.ensures.0 e (left_is p y.i (Ok x) e ∙ m), c.keep.ensures.1)

pub returns-in_err-actual : goal.returns-in_err-actual
returns-in_err-actual c = rw (handed_on _ _ c.from_residual.ensures.1) (let y = c.args in
    let p = plan_in y.plan.now.sheet in
    let C = (own_is c.requires.2 c.calendar.ensures).in_plan in
    let e = sym c.in_err-actual.was ∙ recorded-is y.plan.now.sheet y.i c.requires.2 C c.requires.3 c.actual.ensures in
    (row_refused p y.i _ _ (left_is p y.i (Err c.in_err-actual.field-0.0) e), same_refl _))

pub returns-in_err-left : goal.returns-in_err-left
returns-in_err-left c = rw (handed_on _ _ c.from_residual-in_err-left.ensures.1) (let y = c.args in
    let p = plan_in y.plan.now.sheet in
    let C = (own_is c.requires.2 c.calendar.ensures).in_plan in
    let x = c.in_ok-actual.actual in
    let e = sym c.in_ok-actual.was ∙ recorded-is y.plan.now.sheet y.i c.requires.2 C c.requires.3 c.actual.ensures in
    (row_refused p y.i _ _ (left_is p y.i (Ok x) e ∙ sym c.left_of.ensures ∙ c.in_err-left.was), same_refl _))
