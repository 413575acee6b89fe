-- `dates::step::back`: the activities from place `q` on are done; the rest stands.
use mathlib.Core.List.{reverse}
use Prim.Native.Nat.{◌-◌}
use Rattle.dates.specs.StepLaws.{Passed}
use Rattle.order.specs.Checks.{order}
use Rattle.order.specs.Plan.{plan_in}
use Rattle.dates.proofs.step.back.Given as goal

abbrev pub invariant-loop-q : goal.invariant-loop-q
invariant-loop-q g l =
    let s = l.step in
    let p = plan_in l.plan.sheet in
    Passed g.S.Step.low g.S.Step.high (g.S.Step.seen s p) (g.S.Step.turn s p) (reverse (order p)) l.initial.tables l.tables (l.plan.sheet.contents.activities - l.q)
