-- `checks::check_summaries` meets its contract.
use mathlib.Core.Path.{refl, sym, ap, subst}
use Prim.Native.Nat.{◌<◌}
use native.Mathlib.Omega.{arith}
use lib.ListN.{length}
use Rattle.network.specs.Parents.{upward}
use Rattle.memory.specs.SeenLaws.{same_lent}
use Rattle.order.specs.Plan.{plan_of, plan_in}
use Rattle.order.specs.Ids.{id_of, parent_of}
use Rattle.order.specs.Checks.{Verdict, named}
use Rattle.order.specs.CheckLaws.{summaries_first}
use Rattle.order.specs.declared.PlanError.TheVariants.{MilestoneParent, ParentLoop}
use Rattle.checks.specs.Stages.{links_verdict, summaries_verdict, Judged}
use Rattle.checks.specs.ClimbLaws.{names_length}
use Rattle.checks.specs.StageLaws.{then_judged, first_refused, plain_refused, loop_refused}
use Rattle.checks.proofs.check_summaries.Goals as goal

pub summaries-requires : goal.summaries-requires
unfolding plan_of
summaries-requires c = (c.requires.0, c.requires.1.known, c.requires.1.parented)

pub returns-in-Err-Milestone : goal.returns-in-Err-Milestone
unfolding plan_of
returns-in-Err-Milestone c =
    let x = c.args in
    let p = plan_in x.sheet.now in
    let size = length x.names.now in
    let room = length x.tables.now.cells.now in
    let r = c.refuse.ensures in (
      subst (Judged p (summaries_verdict p) size room _ _) (sym r.0)
          (first_refused p (summaries_first p) (links_verdict p) size room _ _
          (plain_refused p (summaries_first p) size room _ _ (MilestoneParent c.in-Err-Milestone.id) (sym (rw c.in-Err-Milestone.field-0-is at c.in-Err-Milestone.ensures).is) r.1 r.2)),
      same_lent r.3,
    )

pub name_parents-requires : goal.name_parents-requires
unfolding plan_of
name_parents-requires c =
    let A = rw c.in-Err-Loop.field-0-is at c.in-Err-Loop.ensures in
    (c.requires.0, c.requires.1.known, c.requires.1.parented, A.loop, c.requires.3)

pub returns-in-Err-Loop : goal.returns-in-Err-Loop
unfolding plan_of
returns-in-Err-Loop c =
    let x = c.args in
    let p = plan_in x.sheet.now in
    let size = length x.names.now in
    let room = length x.tables.now.cells.now in
    let a = c.in-Err-Loop in
    let A = rw a.field-0-is at a.ensures in
    let xs = named (id_of p) (upward (parent_of p) a.steps a.first) in
    let some : 0 < length xs = omega (arith, names_length p c.requires.1.known a.first a.steps A.loop) in (
      first_refused p (summaries_first p) (links_verdict p) size room _ _
          (loop_refused p (summaries_first p) size room _ _ (ParentLoop _) xs some (sym A.is) refl c.name_parents.ensures c.clear.ensures.0),
      same_lent c.clear.ensures.1,
    )

pub returns-in-Ok : goal.returns-in-Ok
unfolding plan_of
returns-in-Ok c =
    let x = c.args in
    let p = plan_in x.sheet.now in
    let o = c.check_links in (
      then_judged p (summaries_first p) (links_verdict p) (length x.names.now) (length x.tables.now.cells.now) o.new.names o.new.tables
          (ap (λ (v : Verdict). v.number) (sym c.in-Ok.ensures.is)) o.result o.ensures.0,
      o.ensures.1,
    )
