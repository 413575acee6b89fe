-- `ids::parent_one` meets its contract.
use mathlib.Core.Path.{refl, ap, ◌∙◌}
use Rattle.order.specs.Plan.{plan_of, plan_in}
use Rattle.order.specs.InSheet.{activity_is}
use Rattle.order.specs.Checks.{refuse}
use Rattle.memory.specs.Seen.{state}
use Rattle.ids.specs.Answers.{OfParents}
use Rattle.memory.specs.SeenLaws.{same_refl, same_then}
use Rattle.ids.specs.LentLaws.{kept_refl}
use Rattle.ids.specs.ParentedLaws.{top_fine, top_kept, top_parented, unknown_refused, known_fine, known_kept, known_parented}
use Rattle.ids.proofs.parent_one.Goals as goal

pub returns-then-id-eq0 : goal.returns-then-id-eq0
returns-then-id-eq0 c =
    let x = c.args in
    let p = plan_in x.sheet.now in
    let S = state x.tables.now in
    let P = c.requires.4 in
    let d = rw (activity_is x.sheet.now x.i c.activity.ensures) at c.parent-id.ensures.0 in
    let z = c.if-id-eq0.true in
    let e = c.put_row.ensures.0 in (
      record { is = top_fine p S x.i P _ d z },
      record { kept = top_kept p S x.i P _ d z _ e; holds = top_parented p S x.i P _ d z _ e },
      c.put_row.ensures.1,
    )

pub returns-in_default : goal.returns-in_default
unfolding plan_of
returns-in_default c =
    let x = c.args in
    let p = plan_in x.sheet.now in
    let S = state x.tables.now in
    let P = c.requires.4 in
    let d = rw (activity_is x.sheet.now x.i c.activity.ensures) at c.parent-id.ensures.0 in
    let z = c.if-id-eq0.false in (
      record { is = ap (refuse 10) (rw (activity_is x.sheet.now x.i c.activity-in_default.ensures) at c.id.ensures.0) ∙ unknown_refused p S x.i P _ d z _ c.in_default.ensures.0 refl },
      record { kept = kept_refl OfParents S; holds = tt },
      same_refl x.tables.now,
    )

pub returns : goal.returns
unfolding plan_of
returns c =
    let x = c.args in
    let p = plan_in x.sheet.now in
    let S = state x.tables.now in
    let P = c.requires.4 in
    let d = rw (activity_is x.sheet.now x.i c.activity.ensures) at c.parent-id.ensures.0 in
    let z = c.if-id-eq0.false in
    let f = c.in-Some.ensures in
    let D = c.requires.2 in
    let t = c.put_row-2.ensures.0 in
    let u = c.put_act.ensures.0 in (
      record { is = known_fine p S x.i P _ d z _ f.0 f.1 },
      record { kept = known_kept p S x.i P _ d z _ f.0 f.1 D _ _ t u; holds = known_parented p S x.i P _ d z _ f.0 f.1 D _ _ t u },
      same_then c.put_row-2.ensures.1 c.put_act.ensures.1,
    )
