-- `ids::index_all` meets its contract: activities before i are fine and in the index.
use mathlib.Core.Path.{ap, ◌∙◌}
use Prim.Native.Nat.{ℕ}
use native.Mathlib.Omega.{arith}
use Rattle.memory.specs.State.{fill_act}
use Rattle.memory.specs.Fields.{root}
use Rattle.memory.specs.SeenLaws.{same_then}
use Rattle.std.proofs.lemmas.Result.{err_from_is_err_and}
use Rattle.order.specs.Plan.{plan_in}
use Rattle.order.specs.Checks.{judge_activity}
use Rattle.ids.specs.Index.{Indexed}
use Rattle.memory.specs.Seen.{state}
use Rattle.ids.specs.Answers.{OfIndex}
use Rattle.ids.specs.IndexSteps.{index_none, none_kept}
use Rattle.ids.specs.PassSteps.{passing_start, passing_turn, passing_stop, passing_end}
use Rattle.ids.proofs.index_all.Goals as goal

pub loop-i-init : goal.loop-i-init
loop-i-init c =
    let x = c.args in
    let p = plan_in x.sheet.now in
    let S = state x.tables.now in
    let a = x.sheet.now.contents.activities in
    let T = c.fill_act.new.self in
    let f = c.fill_act.ensures in
    let n = c.requires.activities in
    let d = f.1.activities ∙ n in
    let e = f.0 ∙ ap (λ (m : ℕ). fill_act S root m 0) n in
    (f.1, passing_start OfIndex (Indexed p) (judge_activity p) a S (none_kept T S a d e) (index_none T S a d e p))

pub returns-in_err-index_one : goal.returns-in_err-index_one
returns-in_err-index_one c =
    let o = c.in_err-index_one.ensures in
    let a = passing_stop _ _ _ _ _ c.loop-i.invariant.1 (omega arith) o.0 o.1 in
    let q = err_from_is_err_and c.from_residual.result c.from_residual.ensures.1 in
    rw (q.1, q.2) (a.0, a.1, same_then c.loop-i.invariant.0 o.2)

pub loop-i-preserved : goal.loop-i-preserved
loop-i-preserved c =
    let o = c.in_ok-index_one.ensures in (
      same_then c.loop-i.invariant.0 o.2,
      passing_turn _ _ _ _ _ c.loop-i.invariant.1 (omega arith) o.0 o.1,
    )

pub returns : goal.returns
returns c =
    let a = passing_end _ _ _ _ _ c.loop-i.invariant.1 _ (omega arith) in
    (a.0, a.1, c.loop-i.invariant.0)
