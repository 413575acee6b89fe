-- `ties::link_check` meets its contract.
use native.Mathlib.Omega.{arith}
use Rattle.std.proofs.lemmas.Result.{err_from_is_err_and}
use Rattle.order.specs.Plan.{plan_of, plan_in}
use Rattle.memory.specs.Seen.{state}
use Rattle.ties.specs.CheckSteps.{check_ignored, check_long, check_kept}
use Rattle.ties.proofs.link_check.Goals as goal

pub returns-in_err-ends : goal.returns-in_err-ends
returns-in_err-ends g c =
    let q = err_from_is_err_and c.from_residual.result c.from_residual.ensures.1 in rw (q.1, q.2) c.in_err-ends.ensures

pub is_either_marked-requires : goal.is_either_marked-requires
unfolding plan_of
is_either_marked-requires g c =
    let n = c.requires.0.lent.activities in
    (omega (arith, n, c.in_ok-ends.ensures.from_below), omega (arith, n, c.in_ok-ends.ensures.to_below))

pub returns-then-is_either_marked : goal.returns-then-is_either_marked
unfolding plan_of
returns-then-is_either_marked g c =
    let x = c.args in
    check_ignored (plan_in x.sheet.now) (state (g.R.Reads.tables x.tables.now)) c.requires.0.parented x.k _ c.in_ok-ends.ensures _ c.is_either_marked.ensures c.if-is_either_marked.true

pub returns-then-is_tie_too_long : goal.returns-then-is_tie_too_long
unfolding plan_of
returns-then-is_tie_too_long g c =
    let x = c.args in
    check_long (plan_in x.sheet.now) (state (g.R.Reads.tables x.tables.now)) c.requires.0.parented x.k _ c.in_ok-ends.ensures _ c.is_either_marked.ensures c.if-is_either_marked.false _ c.is_tie_too_long.ensures c.if-is_tie_too_long.true

pub returns : goal.returns
unfolding plan_of
returns g c =
    let x = c.args in
    check_kept (plan_in x.sheet.now) (state (g.R.Reads.tables x.tables.now)) c.requires.0.parented x.k c.in_ok-ends.ends c.in_ok-ends.ensures _ c.is_either_marked.ensures c.if-is_either_marked.false _ c.is_tie_too_long.ensures c.if-is_tie_too_long.false
