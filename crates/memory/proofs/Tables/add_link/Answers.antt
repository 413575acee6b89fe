-- `memory::Tables::add_link` meets its contract: the five fields stand in the row of the first link that is not kept yet.
use mathlib.Core.Path.{refl}
use mir.Facts.{to_z-of_z}
use mir.Syntax.{w64}
use mir.Val.{SFits}
use Rattle.std.proofs.Common.{rules}
use Rattle.memory.specs.Seen.{state}
use Rattle.memory.specs.Kept.{put_five}
use Rattle.memory.proofs.Tables.add_link.Goals as goal

pub returns : goal.returns
unfolding state
returns c =
    let x = c.args in
    let f : SFits w64 x.link.lag = search rules in
    let e = rw (to_z-of_z {w = w64} f) at c.put_link_signed.ensures.0 in (
      put_five (state x.self.now) x.self.now.kept x.link _ _ _ _ _ c.put_link.ensures.0 c.put_link-2.ensures.0 c.put_link-3.ensures.0 e c.put_link-4.ensures.0,
      refl,
      search rules,
    )
