-- `results::show_one` meets its contract.
use mathlib.Core.Path.{ap, ◌∙◌}
use Rattle.memory.specs.Seen.{state}
use Rattle.memory.specs.SeenLaws.{same_refl}
use Rattle.topology.specs.FrameLaws.{frame_refl}
use Rattle.passes.specs.Dates.{Pass}
use Rattle.number.specs.Exits.{handed_on}
use Rattle.results.specs.declared.Shown.{Shown}
use Rattle.results.specs.View.{shown_to}
use Rattle.results.specs.RowLaws.{shown_next}
use Rattle.results.proofs.RowLaws.{next_done, next_refused, shown_frame}
use Rattle.results.proofs.show_one.Goals as goal

pub returns : goal.returns
returns c =
    let x = c.args in
    let S = state x.tables.now in
    let e = c.put_shown.ensures in (
      next_done S x.i _ c.in_ok-x.x _ c.in_ok-x.was e.0 ∙ ap (λ (y : Pass Shown). shown_next y (shown_to x.i S) x.i) c.row_of.ensures,
      rw e.0 (shown_frame S x.i c.in_ok-x.x.shown),
      e.1,
    )

pub returns-in_err-x : goal.returns-in_err-x
returns-in_err-x c = rw (handed_on _ _ c.from_residual.ensures.1) (let x = c.args in
    let S = state x.tables.now in (
      next_refused S x.i _ _ S c.in_err-x.was ∙ ap (λ (y : Pass Shown). shown_next y (shown_to x.i S) x.i) c.row_of.ensures,
      frame_refl 20 30 0 0 S,
      same_refl _,
    ))
