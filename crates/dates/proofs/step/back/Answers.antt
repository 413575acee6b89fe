-- `dates::step::back` meets its contract: the activity before place `q` of the order is next, which its reverse has after those that are done.
use mathlib.Core.Path.{◌≡◌, ap, ◌∙◌}
use mathlib.Core.List.{reverse}
use native.Mathlib.Omega.{arith}
use Prim.Native.Nat.{◌+◌, ◌-◌}
use Rattle.dates.specs.OrderLaws.{backward_length, backward_at, backward_below}
use Rattle.dates.specs.StepLaws.{stands, pass_turn, pass_stop, pass_end}
use Rattle.memory.specs.Seen.{state}
use Rattle.memory.specs.Fields.{order_at}
use Rattle.number.specs.Exits.{handed_on}
use Rattle.order.specs.Checks.{order}
use Rattle.order.specs.Plan.{plan_in}
use Rattle.dates.proofs.step.back.Goals as goal

pub take-requires : goal.take-requires
take-requires g c =
    let v = c.loop-q.invariant in
    let L = stands c.requires.fields c.requires.ready v.0 v.1 in
    let A = c.args.plan.now.sheet.contents.activities in
    let T = state c.loop-q.tables in
    let k : A - (A - c.loop-q.q + 1) ≡ c.loop-q.q - 1 = omega arith in
    (L, omega (arith, c.act-i.ensures.0, ap (T.act order_at) k, backward_below L.ready (A - c.loop-q.q) (omega arith)))

pub returns-in_err-take : goal.returns-in_err-take
returns-in_err-take g c = rw (handed_on _ _ c.from_residual.ensures.1) (
    let s = c.args.step.now in
    let p = plan_in c.args.plan.now.sheet in
    let v = c.loop-q.invariant in
    let L = stands c.requires.fields c.requires.ready v.0 v.1 in
    let A = c.args.plan.now.sheet.contents.activities in
    let T = state c.loop-q.tables in
    let k : c.loop-q.q - 1 ≡ A - (A - c.loop-q.q + 1) = omega arith in
    pass_stop g.S.Step.low g.S.Step.high (g.S.Step.seen s p) (g.S.Step.turn s p) (reverse (order p)) v (g.met.S.Step.turn_kept s p) c.act-i.result (c.act-i.ensures.0 ∙ ap (T.act order_at) k ∙ backward_at L.ready (A - c.loop-q.q) (omega arith)) (omega (arith, backward_length L.ready)) c.take.result c.take.ensures _ c.in_err-take.was)

pub loop-q-preserved : goal.loop-q-preserved
loop-q-preserved g c =
    let s = c.args.step.now in
    let p = plan_in c.args.plan.now.sheet in
    let v = c.loop-q.invariant in
    let L = stands c.requires.fields c.requires.ready v.0 v.1 in
    let A = c.args.plan.now.sheet.contents.activities in
    let T = state c.loop-q.tables in
    let k : c.loop-q.q - 1 ≡ A - (A - c.loop-q.q + 1) = omega arith in
    let n : A - (c.loop-q.q - 1) ≡ A - c.loop-q.q + 1 = omega arith in
    rw n (pass_turn g.S.Step.low g.S.Step.high (g.S.Step.seen s p) (g.S.Step.turn s p) (reverse (order p)) v (g.met.S.Step.turn_kept s p) c.act-i.result (c.act-i.ensures.0 ∙ ap (T.act order_at) k ∙ backward_at L.ready (A - c.loop-q.q) (omega arith)) (omega (arith, backward_length L.ready)) c.take.result c.take.ensures c.in_ok-take.was)

pub returns : goal.returns
returns g c =
    let s = c.args.step.now in
    let p = plan_in c.args.plan.now.sheet in
    pass_end g.S.Step.low g.S.Step.high (g.S.Step.seen s p) (g.S.Step.turn s p) (reverse (order p)) c.loop-q.invariant (omega (arith, backward_length c.requires.ready.ready))
