-- `backward::BackwardStep::take` meets its contract, by what is recorded.
use Rattle.std.specs.Prelude.{Ok}
use mathlib.Core.Path.{sym, ap, ◌∙◌}
use Prim.Native.Nat.{◌<◌}
use native.Mathlib.Omega.{arith}
use Rattle.bounds.specs.ReadyLaws.{activities_are}
use Rattle.dates.specs.Columns.{early_in, late_in}
use Rattle.dates.specs.ReadLaws.{not_completed}
use Rattle.passes.specs.Backward.{late}
use Rattle.passes.specs.Dates.{leaves}
use Rattle.order.specs.Plan.{plan_of}
use Rattle.topology.specs.Frame.{Frame}
use Rattle.memory.specs.State.{State}
use Rattle.memory.specs.Seen.{state}
use Rattle.backward.specs.BackLaws.{stored_late, stored_frame, back_completed, back_unfinished}
use Rattle.backward.specs.FinishLaws.{start_at, finish_at}
use Rattle.backward.proofs.BackwardStep.take.Goals as goal

pub place_unfinished-requires : goal.place_unfinished-requires
place_unfinished-requires c =
    (c.requires.0.ready, c.requires.1, ap Ok c.recorded_at-actual.ensures ∙ c.requires.0.recorded c.args.i (omega (arith, c.requires.1, activities_are c.args.plan.now.sheet.bytes.now c.args.plan.now.sheet.contents)))

pub returns-in-Unstarted : goal.returns-in-Unstarted
returns-in-Unstarted c =
    let C = c.args.plan.now.sheet.contents in
    let p = plan_of c.args.plan.now.sheet.bytes.now C in
    let S = state c.args.tables.now in
    let a = c.recorded_at-actual.ensures in
    let b : c.args.i < p.activities = omega (arith, c.requires.1, activities_are c.args.plan.now.sheet.bytes.now C) in (
      λ _. c.place_unfinished.ensures.0
          ∙ sym
          (back_unfinished p (early_in p S) c.args.self.now.last (late_in p S c.args.self.now.last) c.args.i c.recorded_at-actual.result (ap Ok a ∙ c.requires.0.recorded c.args.i b)
          (not_completed c.in-Unstarted.is)),
      c.place_unfinished.ensures.1,
      c.place_unfinished.ensures.2,
    )

pub returns-in-Completed : goal.returns-in-Completed
returns-in-Completed c =
    let C = c.args.plan.now.sheet.contents in
    let p = plan_of c.args.plan.now.sheet.bytes.now C in
    let S = state c.args.tables.now in
    let d = early_in p S in
    let m = late_in p S c.args.self.now.last in
    let i = c.args.i in
    let T = state c.keep_early.new.tables in
    let E = c.keep_early.ensures.0 in
    let b : i < p.activities = omega (arith, c.requires.1, activities_are c.args.plan.now.sheet.bytes.now C) in
    let e = start_at c.args.plan.now.sheet.bytes.now C S i c.requires.1 in
    let f = finish_at c.args.plan.now.sheet.bytes.now C S i c.requires.1 in
    let F : Frame 10 12 0 0 S T = rw E (stored_frame p S i _ _) in (
      λ _. ap leaves (ap (λ (U : State). late_in p U c.args.self.now.last) E ∙ stored_late p S i _ _ d c.args.self.now.last b ∙ (λ z. late p d m i (sym e z) (sym f z)))
          ∙ sym (back_completed p d c.args.self.now.last m i _ _ (sym (c.requires.0.recorded i b) ∙ ap Ok (sym c.recorded_at-actual.ensures ∙ c.in-Completed.is))),
      F,
      c.keep_early.ensures.1,
    )
