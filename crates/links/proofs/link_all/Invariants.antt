-- `links::link_all` meets its contract.
use mathlib.Core.Path.{◌≡◌}
use lib.ListN.{length}
use Rattle.order.specs.Plan.{plan_in}
use Rattle.memory.specs.Seen.{state, SameLent}
use Rattle.links.specs.LinkSteps.{Linking}
use Rattle.links.proofs.link_all.Given as goal

abbrev pub invariant-loop-k : goal.invariant-loop-k
invariant-loop-k l =
    SameLent l.fn.tables l.tables × (length l.names ≡ length l.fn.names)
    × Linking (plan_in l.sheet) (state l.fn.tables) l.fn.names l.k l.ignored l.tables l.names
