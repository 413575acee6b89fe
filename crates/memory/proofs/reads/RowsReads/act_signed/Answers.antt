-- `memory::Rows::act_signed` meets its contract.
use borrow.Author.Rules.{rules}
use mathlib.Core.Path.{sym, ap, ◌∙◌}
use native.Mathlib.Omega.{arith}
use lib.IntN.{ℤ, pos}
use lib.ListN.{get_or}
use mir.Facts.{to_z-of_z}
use mir.Syntax.{w64}
use mir.Val.{SFits}
use Rattle.cells.specs.Cell.{cell_z}
use Rattle.memory.specs.Seen.{state}
use Rattle.memory.specs.StateLaws.{act_z_at}
use Rattle.memory.proofs.reads.RowsReads.act_signed.Goals as goal

-- the value that was read
abbrev read : goal.After-result-1 → ℤ
read c = get_or c.args.self.now.cells.now c.place.result (pos 0)

fits : (c : goal.After-result-1) → SFits w64 (read c)
fits c = search rules

pub returns : goal.returns
unfolding cell_z state
returns c =
    let x = c.args in
    let s = x.self.now in
    to_z-of_z (fits c) ∙ ap (cell_z s.cells.now) c.place.ensures.0 ∙ sym (act_z_at s.activities s.links s.cells.now x.f x.i (omega arith) (omega arith))
