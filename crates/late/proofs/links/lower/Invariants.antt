-- `late::links::lower` meets its contract. The loop's invariant: `latest` is what the links leave that were met.
use Rattle.dates.specs.Standing.{Ready}
use Rattle.late.specs.StandLaws.{Lowering}
use Rattle.late.proofs.links.lower.Given as goal

abbrev pub invariant-loop-k : goal.invariant-loop-k
invariant-loop-k g l =
    (goal.iterator-loop-k g).can_next l.k-iterator × (goal.iterator-loop-k g).is_finite l.k-iterator × ((R : Ready l.plan (g.R.Reads.tables l.tables)) → Lowering R l.i l.last l.latest l.k-iterator)
