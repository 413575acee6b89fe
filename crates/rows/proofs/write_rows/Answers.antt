-- `rows::write_rows` meets its contract.
use mathlib.Core.Path.{◌≡◌, refl, ap, ◌∙◌}
use mathlib.Core.List.{List, ◌++◌}
use Prim.Native.Nat.{◌*◌}
use native.Mathlib.Omega.{arith}
use lib.IntN.{ℤ}
use lib.ListN.{length, drop}
use Rattle.memory.specs.Seen.{state}
use Rattle.order.specs.Plan.{plan_of, plan_in}
use Rattle.rows.specs.Writing.{row_in, rows_in}
use Rattle.rows.specs.WritingLaws.{rows_none, rows_more, rows_same, stored_length}
use Rattle.rows.proofs.write_rows.Goals as goal

pub loop-i-init : goal.loop-i-init
loop-i-init g c =
    let x = c.args in
    let S = state (g.R.Reads.tables x.tables.now) in
    let p = plan_in x.sheet.now in
    (refl, rows_none p S x.results.now)

pub loop-i-preserved : goal.loop-i-preserved
loop-i-preserved g c =
    let x = c.args in
    let S = state (g.R.Reads.tables x.tables.now) in
    let p = plan_in x.sheet.now in
    let L = c.loop-i in
    let e = c.write_row.ensures in (
      ap length e ∙ stored_length (row_in p S L.i) L.results (15 * L.i) 0 ∙ L.invariant.0,
      e ∙ rows_more p S x.results.now L.results L.i L.invariant.1 (omega (arith, c.requires.1)),
    )

pub returns : goal.returns
unfolding plan_of
returns g c =
    let x = c.args in
    let S = state (g.R.Reads.tables x.tables.now) in
    let p = plan_in x.sheet.now in
    let L = c.loop-i in
    let n : L.i ≡ x.sheet.now.contents.activities = omega arith in
    λ e other. L.invariant.1 ∙ (λ z. rows_in p S (n z) ++ drop (15 * n z) x.results.now) ∙ ap (λ (zs : List ℤ). zs ++ drop (15 * x.sheet.now.contents.activities) x.results.now) (rows_same p S e other x.sheet.now.contents.activities (omega arith))
