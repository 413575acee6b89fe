-- `longest::drives` meets its contract, each way out by its law.
use mathlib.Core.Path.{sym, ◌∙◌}
use native.Mathlib.Omega.{arith}
use Rattle.memory.specs.Seen.{state}
use Rattle.order.specs.Plan.{plan_in}
use Rattle.dates.specs.Columns.{early_in}
use Rattle.number.specs.Exits.{handed_on}
use Rattle.longest.specs.OwnLaws.{link_in, start_read, from_inside, completed_read}
use Rattle.longest.specs.DriveLaws.{drives_refused, drives_elsewhere, drives_by}
use Rattle.longest.proofs.drives.Goals as goal

pub returns-in_err-u : goal.returns-in_err-u
returns-in_err-u c = rw (handed_on _ _ c.from_residual.ensures.1) (let x = c.args in
    let p = plan_in x.plan.now.sheet in
    let d = early_in p (state x.tables.now) in
    let b = c.bound_start in
    λ go. drives_refused p d x.i x.k go b.result b.ensures c.in_err-u.field-0.0 c.in_err-u.was)

pub returns-then-u-act : goal.returns-then-u-act
returns-then-u-act c =
    let x = c.args in
    let p = plan_in x.plan.now.sheet in
    let d = early_in p (state x.tables.now) in
    let b = c.bound_start in
    let e = start_read c.requires.0 x.i c.requires.2 c.act.result c.act.ensures.0 in
    λ go. drives_elsewhere p d x.i x.k go b.result b.ensures c.in_ok-u.u c.in_ok-u.was (λ q. c.if-u-act.true (q ∙ sym e))

pub link-from-requires : goal.link-from-requires
link-from-requires c = (omega (arith, c.requires.0.ready.links, link_in c.requires.0 c.args.k c.requires.3), omega arith)

pub recorded_at-recorded-requires : goal.recorded_at-recorded-requires
recorded_at-recorded-requires c = omega (arith, c.requires.0.ready.activities, from_inside c.requires.0 c.args.k c.requires.3 c.link-from.result c.link-from.ensures.0)

pub returns : goal.returns
returns c =
    let x = c.args in
    let p = plan_in x.plan.now.sheet in
    let d = early_in p (state x.tables.now) in
    let b = c.bound_start in
    let e = start_read c.requires.0 x.i c.requires.2 c.act.result c.act.ensures.0 in
    let f = completed_read c.requires.0 x.k c.requires.3 c.link-from.result c.recorded_at-recorded.result c.link-from.ensures.0 c.recorded_at-recorded.ensures in
    λ go.
    drives_by p d x.i x.k go b.result b.ensures c.in_ok-u.u c.in_ok-u.was (c.if-u-act.false ∙ e) c.is_completed.result
    (f ∙ sym (c.is_completed.ensures p))
