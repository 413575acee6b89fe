-- `sheet::runs::read_run` meets its contract: the loop stands at record i.
use Rattle.std.proofs.Common.{◌-◌, length}
use Rattle.sheet.specs.RunSteps.{Here}
use Rattle.sheet.proofs.runs.read_run.Given as goal

abbrev pub invariant-loop-kind : goal.invariant-loop-kind
invariant-loop-kind l = Here l.sheet l.kind l.at l.p l.i

abbrev pub decreases-loop-kind : goal.decreases-loop-kind
decreases-loop-kind l = length l.sheet - l.i
