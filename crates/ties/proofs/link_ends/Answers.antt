-- `ties::link_ends` meets its contract.
use mathlib.Core.Path.{refl}
use Rattle.order.specs.Plan.{plan_of, plan_in}
use Rattle.order.specs.InSheet.{link_is}
use Rattle.ties.specs.EndLaws.{from_unknown, to_unknown, to_itself, between}
use Rattle.ties.proofs.link_ends.Goals as goal

pub returns-in_default : goal.returns-in_default
unfolding plan_of
returns-in_default g c =
    let x = c.args in
    from_unknown (plan_in x.sheet.now) x.k _ _ (rw (link_is x.sheet.now x.k c.link-link.ensures) at c.predecessor-pred.ensures.0) c.in_default.ensures.0 refl

pub returns-in_default-find : goal.returns-in_default-find
unfolding plan_of
returns-in_default-find g c =
    let x = c.args in
    let f = c.in-Some.ensures in
    to_unknown (plan_in x.sheet.now) x.k _ _ (rw (link_is x.sheet.now x.k c.link-link.ensures) at c.predecessor-pred.ensures.0) f.0 f.1 _ _ (rw (link_is x.sheet.now x.k c.link-link.ensures) at c.successor-succ.ensures.0) c.in_default-find.ensures.0 refl

pub returns-then-pred-succ : goal.returns-then-pred-succ
unfolding plan_of
returns-then-pred-succ g c =
    let x = c.args in
    let f = c.in-Some.ensures in
    let g = c.in-Some-find.ensures in
    to_itself (plan_in x.sheet.now) x.k _ _ (rw (link_is x.sheet.now x.k c.link-link.ensures) at c.predecessor-pred.ensures.0) f.0 f.1 _ _ (rw (link_is x.sheet.now x.k c.link-link.ensures) at c.successor-succ.ensures.0) g.0 g.1 c.if-pred-succ.true

pub returns : goal.returns
unfolding plan_of
returns g c =
    let x = c.args in
    let f = c.in-Some.ensures in
    let g = c.in-Some-find.ensures in
    between (plan_in x.sheet.now) x.k _ _ (rw (link_is x.sheet.now x.k c.link-link.ensures) at c.predecessor-pred.ensures.0) f.0 f.1 _ _ (rw (link_is x.sheet.now x.k c.link-link.ensures) at c.successor-succ.ensures.0) g.0 g.1 c.requires.2 c.if-pred-succ.false
