-- `cells::get` meets its contract.
use mathlib.Core.Path.{sym, ap, ◌∙◌}
use mir.Facts.{to_z-of_z}
use Rattle.number.specs.Zed.{up}
use Rattle.cells.specs.CellLaws.{cell_up}
use Rattle.cells.proofs.get.Goals as goal

pub returns : goal.returns
returns c =
    let g = c.get_signed in
    let e = rw (to_z-of_z (record { sfits = g.type_inv })) at c.upward.ensures.0 in
    (e ∙ ap up g.ensures ∙ sym (cell_up _ _), c.upward.ensures.1)
