-- `forward::raise` meets its contract. The invariant: the walk along the links into the activity, with this start so far.
use native.Mathlib.Omega.{arith}
use Rattle.bounds.specs.ReadyLaws.{into_chains}
use Rattle.number.specs.Exits.{handed_on}
use Rattle.forward.specs.RaiseLaws.{raising_start, raising_turn, raising_stop, raising_end}
use Rattle.forward.proofs.raise.Goals as goal

pub links_into-k-items-requires : goal.links_into-k-items-requires
links_into-k-items-requires c = (omega (arith, c.requires.0.ready.activities, c.requires.1), into_chains c.requires.0.ready)

pub loop-k-init : goal.loop-k-init
loop-k-init c =
    rw (c.into_iter-k-iterator.ensures.into_iter_gives, c.links_into-k-items.ensures)
    (tt, tt, raising_start c.args.plan.now c.args.tables.now c.args.i c.args.floor c.requires.0.ready)

pub returns-in_err-start : goal.returns-in_err-start
returns-in_err-start c =
    rw (handed_on _ _ c.from_residual.ensures.1)
    (raising_stop c.args.plan.now c.args.tables.now c.args.i c.args.floor c.requires.0.ready (rw c.in-Some.ensures.steps at c.loop-k.invariant.2) (c.raised_by.ensures _ c.requires.2) _ c.in_err-start.was)

pub loop-k-preserved : goal.loop-k-preserved
loop-k-preserved c =
    (tt, tt, raising_turn c.args.plan.now c.args.tables.now c.args.i c.args.floor c.requires.0.ready (rw c.in-Some.ensures.steps at c.loop-k.invariant.2) (c.raised_by.ensures _ c.requires.2) _ c.in_ok-start.was)

pub returns : goal.returns
returns c = raising_end c.args.plan.now c.args.tables.now c.args.i c.args.floor c.requires.0.ready (rw c.in-None.ensures.steps.0 at c.loop-k.invariant.2)
