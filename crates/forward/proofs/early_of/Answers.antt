-- `forward::early_of` meets its contract. Each way out has its law.
use Rattle.std.specs.Prelude.{Ok}
use mathlib.Core.Path.{sym, ◌∙◌}
use native.Mathlib.Omega.{arith}
use Rattle.dates.specs.Columns.{early_in}
use Rattle.memory.specs.Seen.{state}
use Rattle.order.specs.Plan.{plan_in}
use Rattle.number.specs.Exits.{handed_on}
use Rattle.forward.specs.LinkedLaws.{after_links_lem, after_links_refused}
use Rattle.forward.specs.RaiseLaws.{flag_is}
use Rattle.forward.proofs.early_of.Goals as goal

pub work_of-requires : goal.work_of-requires
work_of-requires c = (c.requires.0.ready.activities, c.requires.1)

pub is_summary-requires : goal.is_summary-requires
is_summary-requires c = omega (arith, c.requires.0.ready.activities, c.requires.1)

pub raise-requires : goal.raise-requires
raise-requires c = (c.requires.0, c.requires.1, c.work_of.ensures.1)

pub returns : goal.returns
returns c =
    let p = plan_in c.args.plan.now.sheet in
    let d = early_in p (state c.args.tables.now) in
    c.place.ensures p d c.args.i (record { hand = c.work_of.ensures.1; summary_is = flag_is c.args.plan.now c.args.tables.now c.args.i 0 c.requires.0.ready c.requires.1 c.is_summary.ensures; times_are = c.times_of.ensures.0 }) ∙ sym (after_links_lem p d c.args.i (Ok c.args.recorded) _ c.times_of.ensures.0.floor_is c.raise.ensures _ c.in_ok-start.was)

pub returns-in_err-start : goal.returns-in_err-start
returns-in_err-start c = rw (handed_on _ _ c.from_residual.ensures.1) (
    let p = plan_in c.args.plan.now.sheet in
    let d = early_in p (state c.args.tables.now) in
    sym (after_links_refused p d c.args.i (Ok c.args.recorded) _ c.times_of.ensures.0.floor_is c.raise.ensures _ c.in_err-start.was))
