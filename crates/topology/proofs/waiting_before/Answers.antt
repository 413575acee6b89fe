-- `topology::waiting_before` meets its contract: none of the links into x that were looked at comes from one that waits.
use mathlib.Core.Path.{ap, ◌∙◌}
use native.Mathlib.Omega.{arith}
use Rattle.memory.specs.Seen.{state}
use Rattle.memory.specs.Fields.{waiting}
use Rattle.topology.specs.LoopLaws.{looking_start, looking_found, looking_step, looking_end}
use Rattle.topology.proofs.waiting_before.Goals as goal

pub loop-k-init : goal.loop-k-init
loop-k-init c = rw (c.into_iter-k-iterator.ensures.into_iter_gives, c.links_into-k-items.ensures) (tt, tt, looking_start c.args.x)

pub returns-then-act-gt0 : goal.returns-then-act-gt0
returns-then-act-gt0 c =
    let L = rw c.in-Some.ensures.steps at c.loop-k.invariant.2 in
    let w = c.act.ensures.0 ∙ ap ((state c.args.tables.now).act waiting) c.link-y.ensures.0 in
    c.link-y.ensures.0 ∙ looking_found L (omega (arith, w))

pub loop-k-preserved : goal.loop-k-preserved
loop-k-preserved c =
    let L = rw c.in-Some.ensures.steps at c.loop-k.invariant.2 in
    let w = c.act.ensures.0 ∙ ap ((state c.args.tables.now).act waiting) c.link-y.ensures.0 in
    (tt, tt, looking_step L (omega (arith, w)))

pub returns : goal.returns
returns c = looking_end (rw c.in-None.ensures.steps.0 at c.loop-k.invariant.2)
