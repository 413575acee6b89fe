-- `memory::Rows::link_signed` meets its contract.
use borrow.Author.Rules.{rules}
use mathlib.Core.Path.{sym, ◌∙◌}
use Prim.Native.Nat.{◌+◌, ◌*◌}
use native.Mathlib.Omega.{arith}
use lib.IntN.{ℤ, pos}
use lib.ListN.{get_or}
use mir.Facts.{to_z-of_z}
use mir.Syntax.{w64}
use mir.Val.{SFits}
use Rattle.cells.specs.Cell.{cell_z}
use Rattle.memory.specs.Columns.{column_ends}
use Rattle.memory.specs.Seen.{state}
use Rattle.memory.specs.StateLaws.{link_z_at}
use Rattle.memory.proofs.reads.RowsReads.link_signed.Goals as goal

-- the value that was read
abbrev read : goal.After-result-1 → ℤ
read c =
    let x = c.args in
    let s = x.self.now in
    get_or s.cells.now (64 * s.activities + x.f * s.links + x.k) (pos 0)

fits : (c : goal.After-result-1) → SFits w64 (read c)
fits c = let e = column_ends c.args.self.now.links c.requires.1 in search rules

pub returns : goal.returns
unfolding cell_z state
returns c =
    let x = c.args in
    let s = x.self.now in
    to_z-of_z (fits c) ∙ sym (link_z_at s.activities s.links s.cells.now x.f x.k (omega arith) (omega arith))
