-- `ids::summaries` meets its contract: activities before i are fine.
use native.Mathlib.Omega.{arith}
use Rattle.std.proofs.lemmas.Result.{err_from_is_err_and}
use Rattle.order.specs.Plan.{plan_of, plan_in}
use Rattle.ids.specs.SummaryLaws.{summaries_turn, summaries_stop, summaries_end}
use Rattle.ids.proofs.summaries.Goals as goal

pub returns-in_err-summary_one : goal.returns-in_err-summary_one
unfolding plan_of
returns-in_err-summary_one g c =
    let q = err_from_is_err_and c.from_residual.result c.from_residual.ensures.1 in
    rw (q.1, q.2) (summaries_stop (plan_in c.args.sheet.now) c.loop-i.i c.loop-i.invariant (omega arith) c.in_err-summary_one.ensures)

pub loop-i-preserved : goal.loop-i-preserved
unfolding plan_of
loop-i-preserved g c =
    summaries_turn (plan_in c.args.sheet.now) c.loop-i.i c.loop-i.invariant (omega arith) c.in_ok-summary_one.ensures

pub returns : goal.returns
unfolding plan_of
returns g c = summaries_end (plan_in c.args.sheet.now) c.loop-i.i c.loop-i.invariant _ (omega arith)
