-- `backward::greatest_finish` meets its contract. The loop's invariant: `top` is the greatest of the first `i` activities.
use mathlib.Core.Path.{◌≡◌, sym, ap, ◌∙◌}
use Prim.Native.Nat.{ℕ, ◌^◌}
use native.Mathlib.Omega.{arith}
use Rattle.bounds.specs.ReadyLaws.{activities_are}
use Rattle.dates.specs.Columns.{early_in}
use Rattle.order.specs.Ids.{summary}
use Rattle.order.specs.Plan.{plan_of}
use Rattle.memory.specs.Seen.{state}
use Rattle.backward.specs.FinishLaws.{finish_at, one_none, one_more, finish_top}
use Rattle.backward.specs.Finish.{past, onward, greatest_one}
use Rattle.backward.proofs.greatest_finish.Goals as goal

pub loop-i-init : goal.loop-i-init
loop-i-init g c =
    let C = c.args.sheet.now.contents in
    let p = plan_of c.args.sheet.now.bytes.now C in
    let S = state (g.R.Reads.tables c.args.tables.now) in
    (tt, λ M. one_none p (early_in p S))

pub loop-i-preserved : goal.loop-i-preserved
loop-i-preserved g c =
    let C = c.args.sheet.now.contents in
    let p = plan_of c.args.sheet.now.bytes.now C in
    let S = state (g.R.Reads.tables c.args.tables.now) in
    let L = c.loop-i in (
      c.finish_onward-top.ensures.1,
      λ M. one_more p (early_in p S) L.i (past L.top) _ (L.invariant.1 M) (c.finish_onward-top.ensures.0 ∙ ap (λ (x : ℕ). onward (summary p L.i) x (past L.top)) (sym (finish_at c.args.sheet.now.bytes.now C S L.i (omega arith)))),
    )

pub returns : goal.returns
returns g c =
    let C = c.args.sheet.now.contents in
    let p = plan_of c.args.sheet.now.bytes.now C in
    let S = state (g.R.Reads.tables c.args.tables.now) in
    let L = c.loop-i in
    let e : L.i ≡ p.activities = omega (arith, activities_are c.args.sheet.now.bytes.now C) in
    let f = L.invariant.1 c.requires.1 ∙ ap (greatest_one p (early_in p S)) e in
    rw c.unwrap_or.ensures (finish_top p (early_in p S) L.top c.origin_of.result (2 ^ 63) f L.invariant.0 c.origin_of.ensures.0 (omega (arith, c.origin_of.ensures.1)))
