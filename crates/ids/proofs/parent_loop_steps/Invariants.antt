-- `ids::parent_loop_steps` meets its contract: k steps are made and lead to `up`.
use Rattle.memory.specs.Seen.{state}
use Rattle.memory.specs.Fields.{parent}
use Rattle.memory.specs.Rows.{cell_of}
use Rattle.ids.specs.ClimbSteps.{Climb}
use Rattle.ids.proofs.parent_loop_steps.Given as goal

abbrev pub invariant-loop-k : goal.invariant-loop-k
invariant-loop-k g l = Climb ((state (g.R.Reads.tables l.tables)).act parent) (g.R.Reads.tables l.tables).activities l.i (cell_of l.up) l.k
