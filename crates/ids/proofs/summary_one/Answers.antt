-- `ids::summary_one` meets its contract.
use mathlib.Core.Path.{◌≡◌, sym, subst}
use Prim.Native.Nat.{ℕ, ◌≤◌, ◌<◌}
use native.Mathlib.Omega.{arith}
use Rattle.memory.specs.Fields.{parent}
use Rattle.network.specs.Parents.{loop_steps}
use Rattle.order.specs.Plan.{plan_of, plan_in}
use Rattle.order.specs.InSheet.{activity_is}
use Rattle.memory.specs.Seen.{state}
use Rattle.ids.specs.SummaryLaws.{parents_within, answered_milestone, answered_loop, answered_free}
use Rattle.ids.proofs.summary_one.Goals as goal

pub returns-then-is_milestone_parent : goal.returns-then-is_milestone_parent
returns-then-is_milestone_parent g c =
    let x = c.args in
    let p = plan_in x.sheet.now in
    answered_milestone p x.i _ (rw (activity_is x.sheet.now x.i c.activity.ensures) at c.id.ensures.0) _ c.is_milestone_parent.ensures c.if-is_milestone_parent.true

pub parent_loop_steps-requires : goal.parent_loop_steps-requires
unfolding plan_of
parent_loop_steps-requires g c =
    let x = c.args in
    let p = plan_in x.sheet.now in
    let S = state (g.R.Reads.tables x.tables.now) in
    (omega (arith, c.requires.0.activities), subst (λ n. (j : ℕ) → j < n → S.act parent j ≤ n) (sym c.requires.0.activities) (parents_within p S c.requires.3 c.requires.2))

pub returns-in-Some : goal.returns-in-Some
unfolding plan_of
returns-in-Some g c =
    let x = c.args in
    let p = plan_in x.sheet.now in
    let S = state (g.R.Reads.tables x.tables.now) in
    let q = rw c.in-Some.is at c.parent_loop_steps.ensures in
    let o = subst (λ n. c.in-Some.steps ≡ loop_steps (S.act parent) n x.i) c.requires.0.activities q.0 in
    answered_loop p S c.requires.3 c.requires.2 x.i (omega arith) _ o _ c.is_milestone_parent.ensures c.if-is_milestone_parent.false q.1.0 (omega (arith, c.requires.0.activities, q.1.1))

pub returns-in-None : goal.returns-in-None
unfolding plan_of
returns-in-None g c =
    let x = c.args in
    let p = plan_in x.sheet.now in
    let S = state (g.R.Reads.tables x.tables.now) in
    let q = rw c.in-None.is at c.parent_loop_steps.ensures in
    let o = subst (λ n. 0 ≡ loop_steps (S.act parent) n x.i) c.requires.0.activities q.0 in
    answered_free p S c.requires.3 c.requires.2 x.i (omega arith) _ o _ c.is_milestone_parent.ensures c.if-is_milestone_parent.false (omega arith)
