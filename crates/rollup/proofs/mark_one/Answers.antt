-- `rollup::mark_one` meets its contract.
use mathlib.Core.Path.{sym, ap, ◌∙◌}
use Rattle.memory.specs.State.{put_act}
use Rattle.memory.specs.Seen.{state}
use Rattle.memory.specs.Fields.{depth_of}
use Rattle.rollup.specs.DepthLaws.{key_none, key_some}
use Rattle.rollup.proofs.mark_one.Goals as goal

pub returns-then-is_summary : goal.returns-then-is_summary
returns-then-is_summary c =
    let x = c.args in
    let S = state x.tables.now in (
      c.put_act.ensures.0
          ∙ ap (put_act S depth_of x.i) (c.depth_of-d.ensures.0 ∙ key_some S x.tables.now.activities x.i (sym c.is_summary.ensures ∙ c.if-is_summary.true)),
      c.put_act.ensures.1,
    )

pub returns : goal.returns
returns c =
    let x = c.args in
    let S = state x.tables.now in
    (c.put_act-2.ensures.0 ∙ ap (put_act S depth_of x.i) (key_none S x.tables.now.activities x.i (sym c.is_summary.ensures ∙ c.if-is_summary.false)), c.put_act-2.ensures.1)
