-- `memory::Tables::put_link_signed` meets its contract.
use mathlib.Core.Path.{ap, ◌∙◌}
use native.Mathlib.Omega.{arith}
use Rattle.std.proofs.Common.{rules}
use mir.Facts.{to_z-of_z}
use Rattle.memory.specs.State.{state_of}
use Rattle.memory.specs.Seen.{state}
use Rattle.memory.specs.StateLaws.{state_put_link}
use Rattle.memory.proofs.Tables.put_link_signed.Goals as goal

pub returns : goal.returns
unfolding state
returns c =
    let x = c.args in
    let s = x.self.now in
    (ap (state_of s.activities s.links) (rw (to_z-of_z c.ranges.v) at c.put_signed.ensures) ∙ state_put_link s.activities s.links s.cells.now (omega arith) x.f x.k x.v (omega arith) (omega arith), search rules)
