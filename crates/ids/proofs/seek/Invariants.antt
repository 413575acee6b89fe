-- `ids::seek` meets its contract: it goes down the tree of the id's remainder by the bits of the quotient.
use Prim.Native.Nat.{◌-◌}
use Rattle.order.specs.Plan.{plan_in}
use Rattle.memory.specs.Seen.{state}
use Rattle.ids.specs.SearchLaws.{Seeking}
use Rattle.ids.proofs.seek.Given as goal

abbrev pub invariant-loop-n : goal.invariant-loop-n
invariant-loop-n g l = Seeking (plan_in l.sheet) (state (g.R.Reads.tables l.tables)) l.n l.id l.j l.rest

abbrev pub decreases-loop-n : goal.decreases-loop-n
decreases-loop-n g l = l.n - l.j
