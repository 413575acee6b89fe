-- `memory::Tables::put_act` meets its contract.
use mathlib.Core.Path.{ap, ◌∙◌}
use Prim.Native.Nat.{ℕ}
use native.Mathlib.Omega.{arith}
use Rattle.std.proofs.Common.{rules}
use lib.IntN.{pos}
use Rattle.cells.specs.Cell.{store_z}
use Rattle.cells.specs.CellLaws.{store_pos}
use Rattle.memory.specs.State.{state_of}
use Rattle.memory.specs.Seen.{state}
use Rattle.memory.specs.StateLaws.{state_put_act}
use Rattle.memory.proofs.Tables.put_act.Goals as goal

pub returns : goal.returns
unfolding state
returns c =
    let x = c.args in
    let s = x.self.now in
    let e = c.place.ensures.0 in
    (ap (state_of s.activities s.links) (c.put.ensures ∙ store_pos _ _ _ ∙ ap (λ (k : ℕ). store_z s.cells.now k (pos x.v)) e) ∙ state_put_act s.activities s.links s.cells.now (omega arith) x.f x.i (pos x.v) (omega arith) (omega arith), search rules)
