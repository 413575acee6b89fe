-- `ids::judge_activity` meets its contract.
use mathlib.Core.Path.{◌≡◌, subst}
use Prim.Native.Nat.{ℕ}
use native.Mathlib.Omega.{arith}
use mir.Syntax.{w32}
use mir.Val.{to_z, of_z}
use mir.Facts.{to_z-of_z}
use Rattle.order.specs.Plan.{plan_of, plan_in}
use Rattle.order.specs.InSheet.{activity_is}
use Rattle.ids.specs.Index.{PlaceFor}
use Rattle.memory.specs.Seen.{state}
use Rattle.ids.specs.JudgeLaws.{judged_met, judged_negative, judged_long, judged_uncalendared, judged_fine}
use Rattle.ids.proofs.judge_activity.Goals as goal

pub returns-in_default : goal.returns-in_default
unfolding plan_of
returns-in_default c =
    let x = c.args in
    let v = c.in_default.ensures in
    let r = activity_is x.sheet.now x.i c.activity-activity.ensures in
    (record { is = judged_met (plan_in x.sheet.now) x.i (omega arith) _ _ (rw r at c.id-id.ensures.0) v.0 (omega (arith, v.1)) }, tt)

pub returns-then-minutes-lt0 : goal.returns-then-minutes-lt0
unfolding plan_of
returns-then-minutes-lt0 c =
    let x = c.args in
    let p = plan_in x.sheet.now in
    let S = state x.tables.now in
    let r = activity_is x.sheet.now x.i c.activity-activity.ensures in
    let d = rw r at c.id-id.ensures.0 in
    let v = c.in-Err.ensures in
    let m = c.minutes-minutes in
    let s : to_z w32 (of_z w32 m.result) ≡ m.result = to_z-of_z {w = w32} (record { sfits = m.type_inv }) in
    (record { is = judged_negative p x.i (omega arith) _ _ d v.0 (omega arith) _ (rw r at m.ensures) (rw s at c.if-minutes-lt0.true) }, tt)

pub returns-then-minutes-gt48000000 : goal.returns-then-minutes-gt48000000
unfolding plan_of
returns-then-minutes-gt48000000 c =
    let x = c.args in
    let p = plan_in x.sheet.now in
    let S = state x.tables.now in
    let r = activity_is x.sheet.now x.i c.activity-activity.ensures in
    let d = rw r at c.id-id.ensures.0 in
    let v = c.in-Err.ensures in
    let m = c.minutes-minutes in
    let s : to_z w32 (of_z w32 m.result) ≡ m.result = to_z-of_z {w = w32} (record { sfits = m.type_inv }) in
    (record { is = judged_long p x.i (omega arith) _ _ d v.0 (omega arith) _ (rw r at m.ensures) (rw s at c.if-minutes-lt0.false) (rw s at c.if-minutes-gt48000000.true) }, tt)

pub returns-then-calendar-sheet : goal.returns-then-calendar-sheet
unfolding plan_of
returns-then-calendar-sheet c =
    let x = c.args in
    let p = plan_in x.sheet.now in
    let S = state x.tables.now in
    let r = activity_is x.sheet.now x.i c.activity-activity.ensures in
    let d = rw r at c.id-id.ensures.0 in
    let v = c.in-Err.ensures in
    let m = c.minutes-minutes in
    let s : to_z w32 (of_z w32 m.result) ≡ m.result = to_z-of_z {w = w32} (record { sfits = m.type_inv }) in
    (record { is = judged_uncalendared p x.i (omega arith) _ _ d v.0 (omega arith) _ (rw r at m.ensures) (rw s at c.if-minutes-lt0.false) (rw s at c.if-minutes-gt48000000.false) _ (rw r at c.calendar.ensures.0) c.if-calendar-sheet.true }, tt)

pub returns : goal.returns
unfolding plan_of
returns c =
    let x = c.args in
    let p = plan_in x.sheet.now in
    let S = state x.tables.now in
    let r = activity_is x.sheet.now x.i c.activity-activity.ensures in
    let d = rw r at c.id-id.ensures.0 in
    let v = c.in-Err.ensures in
    let m = c.minutes-minutes in
    let s : to_z w32 (of_z w32 m.result) ≡ m.result = to_z-of_z {w = w32} (record { sfits = m.type_inv }) in
    (record { is = judged_fine p x.i (omega arith) _ _ d v.0 (omega arith) _ (rw r at m.ensures) (rw s at c.if-minutes-lt0.false) (rw s at c.if-minutes-gt48000000.false) _ (rw r at c.calendar.ensures.0) c.if-calendar-sheet.false }, subst (λ (id : ℕ). PlaceFor p S x.i id c.in-Err.vacancy.parent c.in-Err.vacancy.side) d v.1)
