-- `dates::step::onward`: what is left of the order, from the dates that stand, gives what the whole gives; the rest stands.
use Rattle.dates.specs.StepLaws.{Passed}
use Rattle.order.specs.Checks.{order}
use Rattle.order.specs.Plan.{plan_in}
use Rattle.dates.proofs.step.onward.Given as goal

abbrev pub invariant-loop-q : goal.invariant-loop-q
invariant-loop-q g l =
    let s = l.step in
    let p = plan_in l.plan.sheet in
    Passed g.S.Step.low g.S.Step.high (g.S.Step.seen s p) (g.S.Step.turn s p) (order p) l.initial.tables l.tables l.q
