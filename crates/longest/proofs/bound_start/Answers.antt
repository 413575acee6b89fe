-- `longest::bound_start` meets its contract, each way out by its law.
use mathlib.Core.Path.{sym, ◌∙◌}
use Rattle.memory.specs.Seen.{state}
use Rattle.order.specs.Plan.{plan_in}
use Rattle.dates.specs.Columns.{early_in}
use Rattle.number.specs.Exits.{handed_on}
use Rattle.longest.specs.OwnLaws.{own_place}
use Rattle.longest.specs.DriveLaws.{start_refused_by_link, start_placed_by_link}
use Rattle.longest.proofs.bound_start.Goals as goal

pub returns-in_err-s : goal.returns-in_err-s
returns-in_err-s c = rw (handed_on _ _ c.from_residual.ensures.1) (let x = c.args in
    let p = plan_in x.plan.now.sheet in
    let d = early_in p (state x.tables.now) in
    let q = c.start_by_link in
    sym (start_refused_by_link p d x.i x.k q.result (q.ensures x.i c.requires.1) c.in_err-s.field-0.0 c.in_err-s.was))

pub returns : goal.returns
returns c =
    let x = c.args in
    let p = plan_in x.plan.now.sheet in
    let d = early_in p (state x.tables.now) in
    let q = c.start_by_link in
    let v = c.in_ok-s.s in
    own_place c.requires.1 v c.place_start.result c.place_start.ensures
    ∙ sym (start_placed_by_link p d x.i x.k q.result (q.ensures x.i c.requires.1) v c.in_ok-s.was)
