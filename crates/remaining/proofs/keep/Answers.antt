-- `remaining::keep` meets its contract: the four puts are `kept`.
use Rattle.memory.specs.SeenLaws.{same_then}
use Rattle.remaining.specs.RowLaws.{kept_steps}
use Rattle.remaining.proofs.keep.Goals as goal

pub returns : goal.returns
returns c =
    let p4 = c.put_act-4.ensures in
    let p3 = c.put_act-3.ensures in
    let p2 = c.put_act-2.ensures in
    let p1 = c.put_act.ensures in
    let x = c.args in (
      kept_steps _ _ _ _ _ x.i x.actual _ _ _ x.left p1.0 p2.0 p3.0 p4.0 c.status.ensures.0 c.start_of.ensures
          c.finish_of.ensures,
      same_then p1.1 (same_then p2.1 (same_then p3.1 p4.1)),
    )
