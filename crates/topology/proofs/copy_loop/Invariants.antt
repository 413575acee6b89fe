-- `topology::copy_loop` meets its contract: so many places as are counted are copied.
use mathlib.Core.Path.{◌≡◌}
use Prim.Native.Nat.{ℕ, ◌+◌, ◌-◌, ◌≤◌, ◌<◌}
use Rattle.std.specs.Iterator.Adapters.{enumerate_source, enumerate_count, rev_source}
use Rattle.memory.specs.Seen.{state, SameSlice}
use Rattle.memory.specs.Fields.{seen, path_at}
use Rattle.topology.specs.Frame.{Frame}
use Rattle.topology.specs.Loop.{loop_at}
use Rattle.topology.proofs.copy_loop.Given as goal

abbrev pub invariant-loop-k : goal.invariant-loop-k
invariant-loop-k l =
    let s = l.k-iterator in
    let r = rev_source (enumerate_source s) in
    (goal.iterator-loop-k).can_next s × (goal.iterator-loop-k).is_finite s
    × (r.start ≡ l.fn.places.start) × (r.end + enumerate_count s ≡ l.fn.places.end) × (r.start ≤ r.end)
    × SameSlice l.initial.tables l.tables × Frame seen path_at 0 0 (state l.initial.tables) (state l.tables)
    × ((j : ℕ) → j < enumerate_count s → (state l.tables).act loop_at j ≡ (state l.initial.tables).act path_at (l.fn.places.end - 1 - j))
