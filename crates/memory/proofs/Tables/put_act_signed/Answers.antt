-- `memory::Tables::put_act_signed` meets its contract.
use mathlib.Core.Path.{ap, ◌∙◌}
use Prim.Native.Nat.{ℕ}
use native.Mathlib.Omega.{arith}
use Rattle.std.proofs.Common.{rules}
use mir.Facts.{to_z-of_z}
use Rattle.cells.specs.Cell.{store_z}
use Rattle.memory.specs.State.{state_of}
use Rattle.memory.specs.Seen.{state}
use Rattle.memory.specs.StateLaws.{state_put_act}
use Rattle.memory.proofs.Tables.put_act_signed.Goals as goal

pub returns : goal.returns
unfolding state
returns c =
    let x = c.args in
    let s = x.self.now in
    let e = c.place.ensures.0 in
    (ap (state_of s.activities s.links) ((rw (to_z-of_z c.ranges.v) at c.put_signed.ensures) ∙ ap (λ (k : ℕ). store_z s.cells.now k x.v) e) ∙ state_put_act s.activities s.links s.cells.now (omega arith) x.f x.i x.v (omega arith) (omega arith), search rules)
