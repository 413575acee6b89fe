-- `ids::parents` meets its contract: activities before i are fine and their parents kept.
use mathlib.Core.Path.{ap, ◌∙◌}
use Prim.Native.Nat.{ℕ}
use native.Mathlib.Omega.{arith}
use Rattle.memory.specs.State.{fill_act}
use Rattle.memory.specs.Fields.{is_summary}
use Rattle.memory.specs.SeenLaws.{same_then}
use Rattle.std.proofs.lemmas.Result.{err_from_is_err_and}
use Rattle.order.specs.Plan.{plan_of, plan_in}
use Rattle.order.specs.Checks.{judge_parent}
use Rattle.ids.specs.LentLaws.{still_lent}
use Rattle.ids.specs.Parented.{Parented}
use Rattle.ids.specs.ParentedLaws.{indexed_kept, unmarked, unmarked_kept}
use Rattle.memory.specs.Seen.{state}
use Rattle.ids.specs.Answers.{OfParents}
use Rattle.ids.specs.PassSteps.{passing_start, passing_turn, passing_stop, passing_end}
use Rattle.ids.proofs.parents.Goals as goal

pub loop-i-init : goal.loop-i-init
unfolding plan_of
loop-i-init c =
    let x = c.args in
    let p = plan_in x.sheet.now in
    let S = state x.tables.now in
    let e = c.fill_act.ensures.0 ∙ ap (λ (m : ℕ). fill_act S is_summary m 0) c.requires.0.activities in (
      c.fill_act.ensures.1,
      passing_start OfParents (Parented p) (judge_parent p) x.sheet.now.contents.activities S (unmarked_kept p S _ e) (unmarked p S _ e),
    )

pub parent_one-requires : goal.parent_one-requires
unfolding plan_of
parent_one-requires c =
    let x = c.args in
    let X = c.loop-i.invariant.1 in (
      still_lent c.requires.0 c.loop-i.invariant.0,
      omega arith,
      c.requires.1,
      indexed_kept (plan_in x.sheet.now) X.kept c.requires.2,
      X.holds,
    )

pub returns-in_err-parent_one : goal.returns-in_err-parent_one
returns-in_err-parent_one c =
    let o = c.in_err-parent_one.ensures in
    let a = passing_stop _ _ _ _ _ c.loop-i.invariant.1 (omega arith) o.0 o.1 in
    let q = err_from_is_err_and c.from_residual.result c.from_residual.ensures.1 in
    rw (q.1, q.2) (a.0, a.1, same_then c.loop-i.invariant.0 o.2)

pub loop-i-preserved : goal.loop-i-preserved
loop-i-preserved c =
    let o = c.in_ok-parent_one.ensures in (
      same_then c.loop-i.invariant.0 o.2,
      passing_turn _ _ _ _ _ c.loop-i.invariant.1 (omega arith) o.0 o.1,
    )

pub returns : goal.returns
returns c =
    let a = passing_end _ _ _ _ _ c.loop-i.invariant.1 _ (omega arith) in
    (a.0, a.1, c.loop-i.invariant.0)
