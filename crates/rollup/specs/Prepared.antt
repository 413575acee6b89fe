-- What the preparation of the roll-up leaves.
use Rattle.std.specs.Prelude.{ℕ}
use Rattle.memory.specs.State.{State}
use Rattle.memory.specs.Fields.{parent, depth_of, first_deep, first_child}
use Rattle.topology.specs.Frame.{Frame}
use Rattle.rollup.specs.Chained.{LinkedIn}
use Rattle.rollup.specs.Depths.{DepthsTo}

pub record Prepared (a : ℕ) (S T : State) : Type 0 where
  pub frame : Frame 30 35 0 0 S T
  pub depths : DepthsTo S T a a
  pub deep : LinkedIn depth_of first_deep a 0 T
  pub children : LinkedIn parent first_child a 0 T
