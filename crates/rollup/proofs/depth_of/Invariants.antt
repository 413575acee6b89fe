-- `rollup::depth_of` meets its contract: k steps are made and lead to `at`.
use Rattle.memory.specs.Seen.{state}
use Rattle.memory.specs.Fields.{parent}
use Rattle.memory.specs.Rows.{cell_of}
use Rattle.rollup.specs.DepthLaws.{Climbs}
use Rattle.rollup.proofs.depth_of.Given as goal

abbrev pub invariant-loop-k : goal.invariant-loop-k
invariant-loop-k l = Climbs ((state l.tables).act parent) l.tables.activities l.i (cell_of l.at) l.k
