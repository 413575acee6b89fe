-- `forward::raise`: the walk along the links into the activity, with this start so far.
use Rattle.forward.specs.RaiseLaws.{Raising}
use Rattle.forward.proofs.raise.Given as goal

abbrev pub invariant-loop-k : goal.invariant-loop-k
invariant-loop-k l = (goal.iterator-loop-k).can_next l.k-iterator × (goal.iterator-loop-k).is_finite l.k-iterator × Raising l.plan l.tables l.i l.floor l.start l.k-iterator
