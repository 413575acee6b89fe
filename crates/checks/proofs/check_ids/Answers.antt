-- `checks::check_ids` meets its contract.
use Rattle.std.proofs.lemmas.Result.{err_from_is_err_and}
use Rattle.order.specs.Plan.{plan_of, plan_in}
use Rattle.memory.specs.Seen.{state}
use Rattle.memory.specs.SeenLaws.{same_refl, same_then}
use Rattle.ids.specs.LentLaws.{still_lent}
use Rattle.ids.specs.SummaryLaws.{indexed_distinct}
use Rattle.checks.specs.IdsSteps.{hours_refused, ids_refused, ids_then}
use Rattle.checks.proofs.check_ids.Goals as goal

pub returns-then-not-have_hours : goal.returns-then-not-have_hours
unfolding plan_of
returns-then-not-have_hours c =
    let x = c.args in
    (hours_refused (plan_in x.plan.now.sheet) _ c.have_hours.ensures c.if-not-have_hours.true (state x.tables.now), same_refl x.tables.now)

pub returns-in_err-index_all : goal.returns-in_err-index_all
unfolding plan_of
returns-in_err-index_all c =
    let x = c.args in
    let a = c.in_err-index_all.ensures in
    let q = err_from_is_err_and c.from_residual.result c.from_residual.ensures.1 in
    rw (q.1, q.2) (ids_refused (plan_in x.plan.now.sheet) _ c.have_hours.ensures c.if-not-have_hours.false a.0 _, a.2)

pub parents-requires : goal.parents-requires
unfolding plan_of
parents-requires c =
    let x = c.args in
    let a = c.in_ok-index_all.ensures in
    (still_lent c.requires a.2, indexed_distinct (plan_in x.plan.now.sheet) a.0, a.1.holds)

pub returns : goal.returns
unfolding plan_of
returns c =
    let x = c.args in
    let a = c.in_ok-index_all.ensures in
    let b = c.parents.ensures in
    (ids_then (plan_in x.plan.now.sheet) _ c.have_hours.ensures c.if-not-have_hours.false a.0 a.1 _ b.0 b.1, same_then a.2 b.2)
