-- `longest::mark_link` meets its contract, each way out by its law.
use Rattle.std.specs.Prelude.{Ok}
use mathlib.Core.Path.{ap, ◌∙◌}
use native.Mathlib.Omega.{arith}
use Rattle.memory.specs.Seen.{state}
use Rattle.memory.specs.SeenLaws.{same_refl}
use Rattle.order.specs.Plan.{plan_in}
use Rattle.topology.specs.FrameLaws.{frame_refl}
use Rattle.dates.specs.Columns.{early_in}
use Rattle.bounds.specs.ReadyLaws.{activities_are}
use Rattle.number.specs.Exits.{handed_on}
use Rattle.longest.specs.OwnLaws.{link_in, from_read, from_inside}
use Rattle.longest.specs.LastLaws.{frame_mark}
use Rattle.longest.specs.MarkLaws.{mark_refused, mark_leaves, mark_sets}
use Rattle.longest.proofs.mark_link.Goals as goal

pub returns-in_err-sets : goal.returns-in_err-sets
returns-in_err-sets c =
    rw (handed_on _ _ c.from_residual.ensures.1) (let x = c.args in
    let p = plan_in x.plan.now.sheet in
    let S = state x.tables.now in
    let b = c.drives in
    (λ other go. mark_refused p (early_in p S) x.i x.k S other go b.result b.ensures c.in_err-sets.field-0.0 c.in_err-sets.was, frame_refl 16 17 0 0 S, same_refl x.tables.now))

pub returns-else-sets : goal.returns-else-sets
returns-else-sets c =
    let x = c.args in
    let p = plan_in x.plan.now.sheet in
    let S = state x.tables.now in
    let b = c.drives in
    (λ other go. mark_leaves p (early_in p S) x.i x.k S other go b.result b.ensures (c.in_ok-sets.was ∙ ap Ok c.if-sets.false), frame_refl 16 17 0 0 S, same_refl x.tables.now)

pub link-from-requires : goal.link-from-requires
link-from-requires c = (omega (arith, c.requires.0.ready.links, link_in c.requires.0 c.args.k c.requires.3), omega arith)

pub put_act-requires : goal.put_act-requires
put_act-requires c = (omega (arith, c.requires.0.ready.activities, from_inside c.requires.0 c.args.k c.requires.3 c.link-from.result c.link-from.ensures.0), omega arith, omega arith)

pub returns-then-sets : goal.returns-then-sets
returns-then-sets c =
    let x = c.args in
    let p = plan_in x.plan.now.sheet in
    let S = state x.tables.now in
    let b = c.drives in
    let g = c.link-from in
    let T = state c.put_act.new.self in
    let e = c.put_act.ensures in (
      λ other go.
          mark_sets p (early_in p S) x.i x.k S other go b.result b.ensures (c.in_ok-sets.was ∙ ap Ok c.if-sets.true) T g.result
          (omega (arith, from_inside c.requires.0 x.k c.requires.3 g.result g.ensures.0, activities_are x.plan.now.sheet.bytes.now x.plan.now.sheet.contents))
          (from_read c.requires.0 x.k c.requires.3 g.result g.ensures.0) e.0,
      frame_mark (frame_refl 16 17 0 0 S) g.result 1 e.0,
      e.1,
    )
