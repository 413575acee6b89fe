-- `memory::Tables::chain_links` meets its contract: the links from k on are in their chains.
use mathlib.Core.Path.{◌≡◌}
use Prim.Native.Nat.{◌-◌}
use Rattle.memory.specs.Chains.{linked_from}
use Rattle.memory.specs.Seen.{state, SameSlice}
use Rattle.memory.proofs.Tables.chain_links.Given as goal

abbrev pub invariant-loop-k : goal.invariant-loop-k
invariant-loop-k l = SameSlice l.initial.self l.self × (state l.self ≡ linked_from l.key l.head l.next (l.initial.self.kept - l.k) l.k (state l.initial.self))
