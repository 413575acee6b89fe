-- `longest::mark_last` meets its contract: the marks of the activities before i stand.
use mathlib.Core.Path.{◌≡◌}
use Prim.Native.Nat.{ℕ}
use Rattle.memory.specs.Seen.{state, SameSlice}
use Rattle.memory.specs.Fields.{longest_path}
use Rattle.topology.specs.Frame.{Frame}
use Rattle.order.specs.Plan.{Plan}
use Rattle.passes.specs.Floats.{last_ones}
use Rattle.dates.specs.Columns.{flags, early_in}
use Rattle.dates.specs.Standing.{Standing, Recorded}
use Rattle.longest.proofs.mark_last.Given as goal

abbrev pub invariant-loop-i : goal.invariant-loop-i
invariant-loop-i l =
    SameSlice l.initial.tables l.tables × Frame 16 17 0 0 (state l.initial.tables) (state l.tables)
    × ((p : Plan) (t : ℕ) → p.activities ≡ l.initial.tables.activities → Standing p t (state l.initial.tables) → Recorded p (state l.initial.tables) → flags l.i (last_ones p (early_in p (state l.initial.tables)) l.finish) (state l.tables) longest_path ≡ last_ones p (early_in p (state l.initial.tables)) l.finish)
