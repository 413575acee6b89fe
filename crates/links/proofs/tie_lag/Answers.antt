-- `links::tie_lag` meets its contract.
use mathlib.Core.Path.{ap, ◌∙◌}
use mir.Facts.{to_z-of_z}
use Rattle.order.specs.Plan.{plan_of, plan_in}
use Rattle.links.specs.StoreLaws.{short_before, lag_is}
use Rattle.links.proofs.tie_lag.Goals as goal

pub minutes-requires : goal.minutes-requires
unfolding plan_of
minutes-requires c =
    let x = c.args in
    rw (c.lag_of.ensures.0) (short_before (plan_in x.sheet.now) x.k c.requires.4)

pub returns : goal.returns
unfolding plan_of
returns c =
    let x = c.args in
    let h = c.requires in
    let p = plan_in x.sheet.now in
    let l = c.lag_of.ensures in
    rw (to_z-of_z (record { sfits = c.minutes.type_inv }))
    (c.minutes.ensures.0 ∙ lag_is p x.k x.ends.from x.ends.to h.3 _ _ _ l.0 (l.1 ∙ ap p.day_length h.5) l.2)
