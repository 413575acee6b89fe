-- `sched::has_room` meets its contract. The check finds these facts alone; they are named so that an edit's refusal names the one that fails.
use Rattle.std.proofs.Common.{rules, arith, refl, sym, ◌∙◌, ◌+◌, ◌*◌, max, le-leb, leb-true}
use Rattle.sched.proofs.has_room.Goals.{then-results-a, else-results-a}
use Rattle.sched.proofs.has_room.Goals as goal

pub returns-then-names-max : goal.returns-then-names-max
returns-then-names-max c =
    let x = c.args in
    let a = x.contents.activities in
    elim c.if-results-a.branch [
      | then-results-a w ↦
          rw (
            le-leb (15 * a) x.results (omega arith),
            le-leb (max (a + 1) x.contents.links) x.names (omega (arith, leb-true _ _ (sym w.value-is ∙ c.if-names-max.true))),
          )
          refl
      | else-results-a w ↦ search rules
    ]
