-- `ids::seek` meets its contract: it goes down the tree of the id's remainder by the bits of the quotient.
use mathlib.Core.Path.{sym, ◌∙◌}
use native.Mathlib.Omega.{arith}
use Rattle.order.specs.Plan.{plan_of, plan_in}
use Rattle.order.specs.InSheet.{activity_is}
use Rattle.memory.specs.Seen.{state}
use Rattle.ids.specs.SearchLaws.{child_later, seeking_nowhere, seeking_start, seeking_found, seeking_end, seeking_turn}
use Rattle.ids.proofs.seek.Goals as goal

pub returns-in_default : goal.returns-in_default
unfolding plan_of
returns-in_default g c =
    let x = c.args in
    seeking_nowhere (plan_in x.sheet.now) (state (g.R.Reads.tables x.tables.now)) x.n x.id c.requires.3 c.in_default.ensures

pub loop-n-init : goal.loop-n-init
unfolding plan_of
loop-n-init g c =
    let x = c.args in
    seeking_start (plan_in x.sheet.now) (state (g.R.Reads.tables x.tables.now)) x.n x.id c.requires.3 _ c.in-Some.ensures

pub returns-then-id : goal.returns-then-id
returns-then-id g c =
    let x = c.args in
    let L = c.loop-n in (
      seeking_found (plan_in x.sheet.now) (state (g.R.Reads.tables x.tables.now)) x.n x.id c.requires.3 L.j L.rest L.invariant (sym (rw (activity_is x.sheet.now L.j c.activity.ensures) at c.id.ensures.0) ∙ c.if-id.true),
      L.invariant.below,
    )

pub returns-in_default-row : goal.returns-in_default-row
returns-in_default-row g c =
    let x = c.args in
    let L = c.loop-n in
    seeking_end (plan_in x.sheet.now) (state (g.R.Reads.tables x.tables.now)) x.n x.id c.requires.3 L.j L.rest L.invariant
    (λ e. c.if-id.false (rw (activity_is x.sheet.now L.j c.activity.ensures) at c.id.ensures.0 ∙ e)) c.in_default-row.ensures

pub loop-n-smaller : goal.loop-n-smaller
loop-n-smaller g c =
    let x = c.args in
    let L = c.loop-n in
    omega (arith, L.invariant.below, (child_later (plan_in x.sheet.now) (state (g.R.Reads.tables x.tables.now)) x.n x.id c.requires.3 L.j L.rest L.invariant _ c.in-Some-row.ensures).0)

pub loop-n-preserved : goal.loop-n-preserved
loop-n-preserved g c =
    let x = c.args in
    let L = c.loop-n in
    seeking_turn (plan_in x.sheet.now) (state (g.R.Reads.tables x.tables.now)) x.n x.id c.requires.3 L.j L.rest L.invariant
    (λ e. c.if-id.false (rw (activity_is x.sheet.now L.j c.activity.ensures) at c.id.ensures.0 ∙ e)) _ c.in-Some-row.ensures
