-- `memory::Tables::put_link` meets its contract.
use mathlib.Core.Path.{ap, ◌∙◌}
use native.Mathlib.Omega.{arith}
use Rattle.std.proofs.Common.{rules}
use lib.IntN.{pos}
use Rattle.cells.specs.CellLaws.{store_pos}
use Rattle.memory.specs.State.{state_of}
use Rattle.memory.specs.Seen.{state}
use Rattle.memory.specs.StateLaws.{state_put_link}
use Rattle.memory.proofs.Tables.put_link.Goals as goal

pub returns : goal.returns
unfolding state
returns c =
    let x = c.args in
    let s = x.self.now in
    (ap (state_of s.activities s.links) (c.put.ensures ∙ store_pos _ _ _) ∙ state_put_link s.activities s.links s.cells.now (omega arith) x.f x.k (pos x.v) (omega arith) (omega arith), search rules)
