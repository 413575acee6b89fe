-- `late::late_of` meets its contract. Each way out has its law.
use mathlib.Core.Path.{sym, ◌∙◌}
use Rattle.order.specs.Plan.{plan_in}
use Rattle.memory.specs.Seen.{state}
use Rattle.dates.specs.Columns.{early_in, late_in}
use Rattle.number.specs.Exits.{handed_on}
use Rattle.late.specs.PlaceLaws.{fitting_refused}
use Rattle.late.specs.StandLaws.{early_at, summary_at, unfinished_placed, unfinished_held, unfinished_lowered}
use Rattle.late.proofs.late_of.Goals as goal

pub work_of-requires : goal.work_of-requires
work_of-requires g c = (c.requires.0.activities, c.requires.1)

pub lower-requires : goal.lower-requires
lower-requires g c = (c.requires.0, c.requires.1, record { hand = c.work_of.ensures.1; origin_is = c.origin_of.ensures.0 })

pub place_late-requires : goal.place_late-requires
place_late-requires g c = (c.origin_of.ensures.1, c.act-early.ensures.1)

pub returns : goal.returns
returns g c =
    let R = c.requires.0 in
    let p = plan_in c.args.plan.now.sheet in
    let S = state (g.R.Reads.tables c.args.tables.now) in
    let d = early_in p S in
    let m = late_in p S c.args.last in
    let i = c.args.i in
    let q = c.act-early.ensures.0 ∙ sym (early_at R i c.requires.1) in
    let h = c.hold_late.ensures p d m i (record { hand = c.work_of.ensures.1; origin_is = c.origin_of.ensures.0 }) (summary_at R i c.requires.1 c.is_summary.ensures) c.requires.2 in (
      c.place_late.ensures.0 p d m i (record { hand = c.work_of.ensures.1; origin_is = c.origin_of.ensures.0 }) q ∙ sym (unfinished_placed p d m i c.args.last _ _ (sym c.lower.ensures ∙ c.in_ok-f.was) (sym h ∙ c.in_ok-g.was)),
      c.place_late.ensures.1,
    )

pub returns-in_err-g : goal.returns-in_err-g
returns-in_err-g g c = rw (handed_on _ _ c.from_residual-in_err-g.ensures.1) (let R = c.requires.0 in
    let p = plan_in c.args.plan.now.sheet in
    let S = state (g.R.Reads.tables c.args.tables.now) in
    let d = early_in p S in
    let m = late_in p S c.args.last in
    let i = c.args.i in
    let h = c.hold_late.ensures p d m i (record { hand = c.work_of.ensures.1; origin_is = c.origin_of.ensures.0 }) (summary_at R i c.requires.1 c.is_summary.ensures) c.requires.2 in
    (sym (unfinished_held p d m i c.args.last _ _ (sym c.lower.ensures ∙ c.in_ok-f.was) (sym h ∙ c.in_err-g.was)), fitting_refused _))

pub returns-in_err-f : goal.returns-in_err-f
returns-in_err-f g c = rw (handed_on _ _ c.from_residual.ensures.1) (let R = c.requires.0 in
    let p = plan_in c.args.plan.now.sheet in
    let S = state (g.R.Reads.tables c.args.tables.now) in
    let d = early_in p S in
    let m = late_in p S c.args.last in
    let i = c.args.i in
    (sym (unfinished_lowered p d m i c.args.last _ (sym c.lower.ensures ∙ c.in_err-f.was)), fitting_refused _))
