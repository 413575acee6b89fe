-- `ids::index_one` meets its contract.
use native.Mathlib.Omega.{arith}
use Rattle.order.specs.Plan.{plan_of, plan_in}
use Rattle.order.specs.Ids.{id_of}
use Rattle.memory.specs.Seen.{state}
use Rattle.memory.specs.SeenLaws.{same_then}
use Rattle.ids.specs.TreeLaws.{vacant_within}
use Rattle.ids.specs.IndexSteps.{indexed_more}
use Rattle.ids.proofs.index_one.Goals as goal

pub put_row-requires-3 : goal.put_row-requires-3
unfolding plan_of
put_row-requires-3 c =
    let w = vacant_within (id_of (plan_in c.args.sheet.now)) c.args.sheet.now.contents.activities c.in_ok-vacancy.ensures.1 c.requires.1 in
    (omega (arith, w.0, c.requires.0.activities, c.put_row.ensures.1, c.put_row-2.ensures.1), omega (arith, w.1), omega (arith, c.args.sheet.now.read.activities_few))

pub returns : goal.returns
unfolding plan_of
returns c =
    let x = c.args in
    let v = c.in_ok-vacancy.ensures in
    (record { is = v.0.is }, indexed_more (plan_in x.sheet.now) (state x.tables.now) _ _ _ x.i c.requires.2 c.put_row.ensures.0 c.put_row-2.ensures.0 _ _ v.1 c.put_row-3.ensures.0 v.0 _, same_then c.put_row.ensures.1 (same_then c.put_row-2.ensures.1 c.put_row-3.ensures.1))
