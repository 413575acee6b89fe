-- `remaining::record_one` meets its contract: each way out has its law.
use Rattle.std.specs.Prelude.{Ok}
use borrow.Author.Rules.{rules}
use mathlib.Core.Path.{◌≡◌, sym, ap, ◌∙◌}
use mathlib.Core.Bool.{Bool, false}
use Prim.Native.Nat.{ℕ, ◌<◌}
use native.Mathlib.Omega.{arith}
use mir.Facts.{to_z-of_z}
use mir.Syntax.{w32}
use mir.Val.{SFits, of_z, to_z}
use Rattle.std.proofs.Common.{ltb}
use Rattle.number.specs.Zed.{up}
use Rattle.number.specs.BitLaws.{mark_flag}
use Rattle.project.specs.declared.Activity.{Activity}
use Rattle.project.specs.declared.Status.{Status}
use Rattle.project.specs.declared.Status.TheVariants.{NotStarted}
use Rattle.project.specs.Status.{status_of}
use Rattle.memory.specs.declared.Tables.{Tables}
use Rattle.memory.specs.Seen.{state}
use Rattle.memory.specs.Fields.{is_summary}
use Rattle.placing.specs.declared.Actual.TheVariants.{Unstarted}
use Rattle.order.specs.Plan.{Plan, plan_in, plan_of}
use Rattle.order.specs.Ids.{summary}
use Rattle.passes.specs.Plan.{recorded, full}
use Rattle.calendars.specs.declared.plan_sheet.PlanSheet.{PlanSheet}
use Rattle.dates.specs.Standing.{Ready}
use Rattle.remaining.specs.LeftLaws.{recorded_summary, recorded_none, full_summary, full_else, left_unstarted, is_below}
use Rattle.remaining.specs.RowLaws.{row_kept}
use Rattle.remaining.proofs.record_one.Goals as goal

-- the mark b tells summaries from others
told : {plan : PlanSheet} {tables : Tables} {i : ℕ} {b : Bool} → Ready plan tables → i < plan.sheet.contents.activities → b ≡ ltb 0 ((state tables).act is_summary i)
    → summary (plan_in plan.sheet) i ≡ b
unfolding plan_of
told R l e = sym (e ∙ mark_flag _ (R.standing.marks _ l))

-- activity i, no summary
module _ (p : Plan) (i : ℕ) {a : Activity} (e : a ≡ p.activity i) (n : summary p i ≡ false) where
  -- the minutes are the activity's
  whole_is : SFits w32 a.minutes → {m : ℕ} → m ≡ up (to_z w32 (of_z w32 a.minutes)) → m ≡ full p i
  whole_is f u = rw (to_z-of_z f) at u ∙ ap (λ (a : Activity). up a.minutes) e ∙ sym (full_else p i n)

  none-recorded : {x : Status} → x ≡ status_of a.actual_start a.actual_finish → x ≡ NotStarted → recorded p i ≡ Ok Unstarted
  none-recorded g h = recorded_none p i n (sym (λ z. status_of (e z).actual_start (e z).actual_finish) ∙ sym g ∙ h)

pub keep-requires : goal.keep-requires
keep-requires c =
    let x = c.args in
    let p = plan_in x.plan.now.sheet in
    let y = told c.requires.0 c.requires.1 c.is_summary.ensures ∙ c.if-is_summary.true in
    (omega (arith, c.requires.0.activities, c.requires.1), is_below p x.i (Ok Unstarted) (sym (recorded_summary p x.i y)), omega arith)

pub returns-then-is_summary : goal.returns-then-is_summary
returns-then-is_summary c =
    let x = c.args in
    let p = plan_in x.plan.now.sheet in
    let y = told c.requires.0 c.requires.1 c.is_summary.ensures ∙ c.if-is_summary.true in
    let e = recorded_summary p x.i y in (
      row_kept p x.i _ _ Unstarted 0 c.keep.ensures.0 (sym e) (left_unstarted p x.i e ∙ ap Ok (full_summary p x.i y)),
      c.keep.ensures.1,
    )

pub activity_of-activity-requires : goal.activity_of-activity-requires
activity_of-activity-requires c = c.requires.1

pub record_dated-requires : goal.record_dated-requires
record_dated-requires c =
    let x = c.args in
    let e = c.activity_of-activity.ensures in
    let n = told c.requires.0 c.requires.1 c.is_summary.ensures ∙ c.if-is_summary.false in (c.requires.0.activities, c.requires.1, e, n, whole_is (plan_in x.plan.now.sheet) x.i e n (record { sfits = search rules }) c.minutes_of-whole.ensures.0, c.minutes_of-whole.ensures.1)

pub returns-in-InProgress : goal.returns-in-InProgress
returns-in-InProgress c = c.record_dated.ensures

pub keep-requires-in-NotStarted : goal.keep-requires-in-NotStarted
keep-requires-in-NotStarted c =
    let x = c.args in
    let p = plan_in x.plan.now.sheet in
    let n = told c.requires.0 c.requires.1 c.is_summary.ensures ∙ c.if-is_summary.false in
    let r = none-recorded p x.i c.activity_of-activity.ensures n c.status_of.ensures c.in-NotStarted.is in
    (omega (arith, c.requires.0.activities, c.requires.1), is_below p x.i (Ok Unstarted) (sym r), c.minutes_of-whole.ensures.1)

pub returns-in-NotStarted : goal.returns-in-NotStarted
returns-in-NotStarted c =
    let x = c.args in
    let p = plan_in x.plan.now.sheet in
    let e = c.activity_of-activity.ensures in
    let n = told c.requires.0 c.requires.1 c.is_summary.ensures ∙ c.if-is_summary.false in
    let r = none-recorded p x.i e n c.status_of.ensures c.in-NotStarted.is in
    let w = whole_is p x.i e n (record { sfits = search rules }) c.minutes_of-whole.ensures.0 in (
      row_kept p x.i _ _ Unstarted _ c.keep-in-NotStarted.ensures.0 (sym r) (left_unstarted p x.i r ∙ ap Ok (sym w)),
      c.keep-in-NotStarted.ensures.1,
    )
