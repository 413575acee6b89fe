-- `rows::write_row` meets its contract.
use Rattle.std.specs.Prelude.{Ok}
use borrow.Rule.Slice.PartMut.{put_mid}
use mathlib.Core.Path.{◌≡◌, sym, ap, ◌∙◌}
use Prim.Native.Nat.{◌+◌, ◌-◌, ◌*◌, ◌≤◌, ◌<◌, ◌^◌}
use native.Mathlib.Omega.{arith}
use Rattle.project.specs.declared.Activity.{Activity}
use Rattle.memory.specs.Seen.{state}
use Rattle.order.specs.Plan.{plan_of, plan_in}
use Rattle.rows.specs.Writing.{row_in}
use Rattle.rows.specs.WritingLaws.{fields_are, copied_is, row_length}
use Rattle.rows.proofs.write_row.Goals as goal

pub bounds-calendars-k : goal.bounds-calendars-k
unfolding plan_of
bounds-calendars-k g c =
    let h = c.requires in
    omega (arith, ap (λ (a : Activity). a.calendar) c.activity_of-activity.ensures, h.0.named c.args.i h.1, h.0.days.size)

pub row_of-row-requires : goal.row_of-row-requires
unfolding plan_of
row_of-row-requires g c =
    let x = c.args in
    let h = c.requires in
    let a = c.activity_of-activity.ensures in
    let k = c.activity_of-activity.result.calendar in
    let e = ap (λ (a : Activity). a.calendar) a in
    let n : k ≤ x.sheet.now.contents.calendars = omega (arith, e, h.0.named x.i h.1) in
    let i : c.activity_of-activity.result.id < 2 ^ 63 = omega arith in
    (i, omega (arith, h.0.days.is k n, h.0.days.low k n), c.act-left.ensures.1, c.act-es.ensures.1, c.act-ef.ensures.1)

pub returns : goal.returns
unfolding plan_of
returns g c =
    let x = c.args in
    let h = c.requires in
    let a = c.activity_of-activity.ensures in
    let k = c.activity_of-activity.result.calendar in
    let e = ap (λ (a : Activity). a.calendar) a in
    let n : k ≤ x.sheet.now.contents.calendars = omega (arith, e, h.0.named x.i h.1) in
    let p = plan_in x.sheet.now in
    let S = state (g.R.Reads.tables x.tables.now) in
    let row = c.row_of-row.ensures ∙ fields_are p S x.i _ _ _ _ _ _ _ _ _ (ap (λ (a : Activity). a.id) a) (h.0.days.is k n ∙ ap p.day_length e) c.shown_at-x.ensures c.is_summary-is_summary.ensures
    (h.0.marks x.i h.1) (ap Ok c.recorded_at-actual.ensures ∙ h.0.recorded x.i h.1) c.act-left.ensures.0
    c.act-es.ensures.0 c.act-ef.ensures.0 in
    let n : 15 * x.i + 15 - 15 * x.i ≡ 15 = omega arith in
    (λ z. put_mid (15 * x.i) (n z) x.results.now ((c.copy_from_slice.ensures.after ∙ row) z))
    ∙ copied_is (row_in p S x.i) x.results.now (15 * x.i) 15 (sym (row_length p S x.i)) h.2
