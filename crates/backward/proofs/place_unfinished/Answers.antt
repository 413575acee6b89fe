-- `backward::place_unfinished` meets its contract: the dates found are stored.
use mathlib.Core.Path.{sym, ap, ◌∙◌}
use Prim.Native.Nat.{◌<◌}
use native.Mathlib.Omega.{arith}
use Rattle.late.specs.Times.{dated}
use Rattle.bounds.specs.ReadyLaws.{activities_are}
use Rattle.dates.specs.Columns.{early_in, late_in}
use Rattle.passes.specs.Dates.{leaves}
use Rattle.order.specs.Plan.{plan_of}
use Rattle.topology.specs.Frame.{Frame}
use Rattle.memory.specs.State.{State}
use Rattle.memory.specs.Seen.{state}
use Rattle.backward.specs.BackLaws.{stored_late, stored_frame}
use Rattle.backward.proofs.place_unfinished.Goals as goal

pub store_late-requires : goal.store_late-requires
store_late-requires c =
    let f = c.late_of.ensures.1 _ _ c.in_ok-dates.was in
    (omega (arith, c.requires.0.activities, c.requires.1), f.0, f.1)

pub returns : goal.returns
returns c =
    let C = c.args.plan.now.sheet.contents in
    let p = plan_of c.args.plan.now.sheet.bytes.now C in
    let S = state c.args.tables.now in
    let d = early_in p S in
    let m = late_in p S c.args.last in
    let T = state c.store_late.new.tables in
    let E = c.store_late.ensures.0 in
    let b : c.args.i < p.activities = omega (arith, c.requires.1, activities_are c.args.plan.now.sheet.bytes.now C) in
    let F : Frame 10 12 0 0 S T = rw E (stored_frame p S c.args.i c.in_ok-dates.dates.start c.in_ok-dates.dates.finish) in (
      ap leaves (ap (λ (U : State). late_in p U c.args.last) E ∙ stored_late p S c.args.i _ _ d c.args.last b)
          ∙ ap (dated p d m c.args.i) (sym c.in_ok-dates.was) ∙ c.late_of.ensures.0,
      F,
      c.store_late.ensures.1,
    )
