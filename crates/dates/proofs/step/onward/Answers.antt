-- `dates::step::onward` meets its contract: place `q` of the order is next.
use mathlib.Core.Path.{◌∙◌}
use native.Mathlib.Omega.{arith}
use Rattle.dates.specs.OrderLaws.{order_length, order_at_lem, order_below}
use Rattle.dates.specs.StepLaws.{stands, pass_turn, pass_stop, pass_end}
use Rattle.number.specs.Exits.{handed_on}
use Rattle.order.specs.Checks.{order}
use Rattle.order.specs.Plan.{plan_in}
use Rattle.dates.proofs.step.onward.Goals as goal

pub take-requires : goal.take-requires
take-requires g c =
    let v = c.loop-q.invariant in
    let L = stands c.requires.fields c.requires.ready v.0 v.1 in
    (L, omega (arith, c.act-i.ensures.0, order_below L.ready c.loop-q.q (omega (arith, c.loop-q-test.true))))

pub returns-in_err-take : goal.returns-in_err-take
returns-in_err-take g c = rw (handed_on _ _ c.from_residual.ensures.1) (
    let s = c.args.step.now in
    let p = plan_in c.args.plan.now.sheet in
    let v = c.loop-q.invariant in
    let L = stands c.requires.fields c.requires.ready v.0 v.1 in
    pass_stop g.S.Step.low g.S.Step.high (g.S.Step.seen s p) (g.S.Step.turn s p) (order p) v (g.met.S.Step.turn_kept s p) c.act-i.result (c.act-i.ensures.0 ∙ order_at_lem L.ready c.loop-q.q (omega (arith, c.loop-q-test.true))) (omega (arith, order_length L.ready, c.loop-q-test.true)) c.take.result c.take.ensures _ c.in_err-take.was)

pub loop-q-preserved : goal.loop-q-preserved
loop-q-preserved g c =
    let s = c.args.step.now in
    let p = plan_in c.args.plan.now.sheet in
    let v = c.loop-q.invariant in
    let L = stands c.requires.fields c.requires.ready v.0 v.1 in
    pass_turn g.S.Step.low g.S.Step.high (g.S.Step.seen s p) (g.S.Step.turn s p) (order p) v (g.met.S.Step.turn_kept s p) c.act-i.result (c.act-i.ensures.0 ∙ order_at_lem L.ready c.loop-q.q (omega (arith, c.loop-q-test.true))) (omega (arith, order_length L.ready, c.loop-q-test.true)) c.take.result c.take.ensures c.in_ok-take.was

pub returns : goal.returns
returns g c =
    let s = c.args.step.now in
    let p = plan_in c.args.plan.now.sheet in
    pass_end g.S.Step.low g.S.Step.high (g.S.Step.seen s p) (g.S.Step.turn s p) (order p) c.loop-q.invariant (omega (arith, order_length c.requires.ready.ready, c.loop-q-test.false))
