-- `floats::free_by` meets its contract.
use mathlib.Core.Path.{sym, ap, ap₂, ◌∙◌}
use lib.IntN.{ℤ}
use mir.Facts.{to_z-of_z}
use Rattle.number.specs.Zed.{up}
use Rattle.number.specs.Sign.{min_z}
use Rattle.floats.specs.SlackLaws.{free_left}
use Rattle.floats.proofs.free_by.Goals as goal

pub returns-in-Unstarted : goal.returns-in-Unstarted
returns-in-Unstarted c =
    let x = c.args in
    let e = c.min.ensures ∙ ap₂ min_z (to_z-of_z c.ranges.slack) (to_z-of_z c.ranges.total) in
    let g = rw (to_z-of_z (record { sfits = c.min.type_inv })) at c.upward.ensures.0 in
    (λ p d. g ∙ ap (λ (z : ℤ). up z) e ∙ sym (free_left p d x.actual x.slack x.total c.in-Unstarted.is), c.upward.ensures.1)
