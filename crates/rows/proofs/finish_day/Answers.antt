-- `rows::finish_day` meets its contract: `d` is the finish day of the first i activities.
use mathlib.Core.Path.{◌≡◌, ap, ◌∙◌}
use Prim.Native.Nat.{ℕ, ◌/◌, max}
use native.Mathlib.Omega.{arith}
use mir.Facts.{to_z-of_z}
use Rattle.memory.specs.Seen.{state}
use Rattle.order.specs.Plan.{plan_of, plan_in}
use Rattle.results.specs.Results.{finish_day}
use Rattle.results.specs.Rows.{signed_day_of}
use Rattle.results.specs.View.{shown_in}
use Rattle.rows.specs.WritingLaws.{day_none, day_more}
use Rattle.rows.proofs.finish_day.Goals as goal

pub loop-i-init : goal.loop-i-init
unfolding plan_of
loop-i-init g c =
    let x = c.args in
    let S = state (g.R.Reads.tables x.tables.now) in
    let p = plan_in x.sheet.now in
    (omega (arith, c.origin_of-d.ensures.1), λ q. ap (λ (t : ℕ). t / 1440) c.origin_of-d.ensures.0 ∙ day_none p q S)

pub loop-i-preserved : goal.loop-i-preserved
unfolding plan_of
loop-i-preserved g c =
    let x = c.args in
    let S = state (g.R.Reads.tables x.tables.now) in
    let p = plan_in x.sheet.now in
    let L = c.loop-i in
    let e = c.act.ensures in (
      omega (arith, c.max-d.ensures, e.1, L.invariant.0),
      λ q. c.max-d.ensures ∙ ap (max L.d) e.0 ∙ day_more p q S L.i L.d (omega arith) (L.invariant.1 q),
    )

pub returns : goal.returns
unfolding plan_of
returns g c =
    let x = c.args in
    let S = state (g.R.Reads.tables x.tables.now) in
    let p = plan_in x.sheet.now in
    let L = c.loop-i in
    let n : L.i ≡ x.sheet.now.contents.activities = omega arith in
    λ q. rw (to_z-of_z (record { sfits = c.unbiased.type_inv }))
    (c.unbiased.ensures.0 ∙ ap signed_day_of (L.invariant.1 q ∙ ap (finish_day p q (shown_in p S)) n))
