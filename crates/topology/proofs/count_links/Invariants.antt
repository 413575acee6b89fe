-- `topology::count_links` meets its contract: the first k links are counted.
use Rattle.memory.specs.Seen.{state, SameSlice}
use Rattle.memory.specs.Fields.{waiting, order_at}
use Rattle.network.proofs.Prefix.{Counted}
use Rattle.topology.specs.Links.{links_of}
use Rattle.topology.specs.Frame.{Frame}
use Rattle.topology.proofs.count_links.Given as goal

abbrev pub invariant-loop-k : goal.invariant-loop-k
invariant-loop-k l =
    SameSlice l.initial.tables l.tables × Frame waiting order_at 0 0 (state l.initial.tables) (state l.tables)
    × Counted (links_of (state l.initial.tables) l.initial.tables.kept) ((state l.tables).act waiting) l.k
