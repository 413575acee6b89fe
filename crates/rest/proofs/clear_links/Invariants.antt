-- `rest::clear_links` meets its contract: after f turns the first f columns are cleared.
use Prim.Native.Nat.{◌*◌}
use Rattle.memory.specs.Seen.{SameSlice}
use Rattle.rest.specs.Stands.{of_link, ColumnsCleared}
use Rattle.rest.proofs.clear_links.Given as goal

abbrev pub invariant-loop-f : goal.invariant-loop-f
invariant-loop-f l =
    let s = l.initial.tables in SameSlice s l.tables × ColumnsCleared (64 * s.activities) s.links (of_link l.initial.tables.kept) 0 l.f s.cells.now l.tables.cells.now
