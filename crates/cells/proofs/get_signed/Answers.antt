-- `cells::get_signed` meets its contract.
use Rattle.std.proofs.Common.{pos, le_refl, ap, ◌∙◌}
use mir.Facts.{to_z-of_z}
use Rattle.std.specs.Option.{unwrap_or}
use Rattle.cells.specs.Cell.{cell_z}
use Rattle.cells.proofs.get_signed.Goals as goal

pub returns : goal.returns
unfolding cell_z
returns c =
    let u = c.unwrap_or in
    rw (to_z-of_z (record { sfits = u.type_inv })) (u.ensures ∙ ap (λ o. unwrap_or o (pos 0)) c.copied.ensures ∙ c.get.ensures.lookup.4 (le_refl _) (pos 0))
