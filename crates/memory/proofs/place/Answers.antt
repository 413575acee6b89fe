-- `memory::place` meets its contract: in a column, or among the eight fields of a row.
use mathlib.Core.Path.{sym}
use native.Mathlib.Omega.{arith}
use Rattle.memory.specs.Columns.{column_ends, place_before, place_after, place_row}
use Rattle.memory.proofs.place.Goals as goal

pub returns-then-f-lt-SHOWN_START : goal.returns-then-f-lt-SHOWN_START
returns-then-f-lt-SHOWN_START c =
    let x = c.args in
    let e = column_ends x.n c.requires.1 in
    (sym (place_before x.n x.f x.i (omega arith)), omega arith)

pub returns-then-f-le-IS_LONGEST : goal.returns-then-f-le-IS_LONGEST
returns-then-f-le-IS_LONGEST c = let x = c.args in (sym (place_row x.n x.f x.i (omega arith) (omega arith)), omega arith)

pub returns : goal.returns
returns c =
    let x = c.args in
    let e = column_ends x.n c.requires.1 in
    (sym (place_after x.n x.f x.i (omega arith)), omega arith)
