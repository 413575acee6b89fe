-- `ids::is_milestone_parent` meets its contract.
use mathlib.Core.Bool.{Bool, ◌&&◌}
use mathlib.Core.Path.{sym, ap, ◌∙◌}
use native.Mathlib.Omega.{arith}
use Rattle.std.proofs.Math.Bool.{and-true, and-false}
use Rattle.project.specs.Status.{is_milestone}
use Rattle.order.specs.Plan.{plan_of, plan_in}
use Rattle.order.specs.Ids.{summary}
use Rattle.order.specs.InSheet.{activity_is}
use Rattle.memory.specs.Seen.{state}
use Rattle.ids.specs.SummaryLaws.{is_marked}
use Rattle.ids.proofs.is_milestone_parent.Goals as goal

pub returns-then-is_milestone : goal.returns-then-is_milestone
unfolding plan_of
returns-then-is_milestone g c =
    let x = c.args in
    let p = plan_in x.sheet.now in
    let s = summary p x.i in
    let k = sym (c.is_milestone.ensures ∙ ap is_milestone (rw (activity_is x.sheet.now x.i c.activity.ensures) at c.kind.ensures)) ∙ c.if-is_milestone.true in
    is_marked p (state (g.R.Reads.tables x.tables.now)) c.requires.2 x.i (omega arith) _ c.is_summary.ensures ∙ sym (and-true s) ∙ ap (λ (b : Bool). s && b) (sym k)

pub returns-else-is_milestone : goal.returns-else-is_milestone
unfolding plan_of
returns-else-is_milestone g c =
    let x = c.args in
    let p = plan_in x.sheet.now in
    let s = summary p x.i in
    let k = sym (c.is_milestone.ensures ∙ ap is_milestone (rw (activity_is x.sheet.now x.i c.activity.ensures) at c.kind.ensures)) ∙ c.if-is_milestone.false in
    c.if-is_milestone.false ∙ sym (and-false s) ∙ ap (λ (b : Bool). s && b) (sym k)
