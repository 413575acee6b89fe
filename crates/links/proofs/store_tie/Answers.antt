-- `links::store_tie` meets its contract.
use mathlib.Core.Path.{◌∙◌}
use native.Mathlib.Omega.{arith}
use mir.Facts.{to_z-of_z}
use mir.Syntax.{w64}
use Rattle.order.specs.Plan.{plan_of, plan_in}
use Rattle.order.specs.InSheet.{link_is}
use Rattle.memory.specs.Seen.{state}
use Rattle.links.specs.StoreLaws.{put_stored}
use Rattle.links.proofs.store_tie.Goals as goal

pub add_link-requires : goal.add_link-requires
unfolding plan_of
add_link-requires c =
    let h = c.requires in
    let R = c.args.sheet.now.read in (
      h.6,
      omega (arith, h.4.from_below, R.activities_few),
      omega (arith, h.4.to_below, R.activities_few),
      omega (arith, c.kind_code.ensures.1),
      omega (arith, c.tie_calendar-calendar.ensures.1, R.calendars_few),
    )

pub returns : goal.returns
returns c =
    let x = c.args in
    let e = c.add_link.ensures in (
      put_stored (state x.tables.now) x.tables.now.kept _ (plan_in x.sheet.now) x.k c.requires.4
          (rw (link_is x.sheet.now x.k c.link.ensures) at c.kind_code.ensures.0) (to_z-of_z {w = w64} (record { sfits = c.tie_lag-lag.type_inv }) ∙ c.tie_lag-lag.ensures) c.tie_calendar-calendar.ensures.0 _ e.0,
      e.1,
      e.2,
    )
