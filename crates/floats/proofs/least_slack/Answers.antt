-- `floats::least_slack` meets its contract: `least` is the least of the links that were met.
use borrow.Author.Rules.{rules}
use mathlib.Core.Path.{sym, ◌∙◌}
use native.Mathlib.Omega.{arith}
use mir.Facts.{to_z-of_z}
use mir.Syntax.{w64}
use Rattle.clock.specs.On.{worked_by}
use Rattle.calendars.specs.CalendarLaws.{in_plan_worked}
use Rattle.bounds.specs.ReadyLaws.{out_chains}
use Rattle.number.specs.Exits.{handed_on}
use Rattle.floats.specs.GapLaws.{gap_own, slack_start, slack_turn, slack_stop, slack_end}
use Rattle.floats.proofs.least_slack.Goals as goal

pub links_out-k-items-requires : goal.links_out-k-items-requires
links_out-k-items-requires c = (omega (arith, c.requires.0.activities, c.requires.1), out_chains c.requires.0)

pub loop-k-init : goal.loop-k-init
loop-k-init c =
    rw (to_z-of_z c.ranges.slack, c.into_iter-k-iterator.ensures.into_iter_gives, c.links_out-k-items.ensures) (tt, tt, slack_start c.requires.0 c.args.i c.args.slack)

pub returns-in_err-gap : goal.returns-in_err-gap
returns-in_err-gap c = rw (handed_on _ _ c.from_residual.ensures.1) (let x = c.args in
    let q = c.requires in
    let w = worked_by x.calendar.now in
    let W = rw (to_z-of_z c.ranges.slack, c.in-Some.ensures.steps) at c.loop-k.invariant.2 in
    slack_stop q.0 x.i x.slack W _ (sym (c.gap_at.ensures ∙ gap_own q.0 x.i c.in-Some.k x.from.start x.from.finish w (in_plan_worked q.2) q.3) ∙ c.in_err-gap.was))

pub loop-k-preserved : goal.loop-k-preserved
loop-k-preserved c =
    let x = c.args in
    let q = c.requires in
    let w = worked_by x.calendar.now in
    let W = rw (to_z-of_z c.ranges.slack, c.in-Some.ensures.steps) at c.loop-k.invariant.2 in
    let g = rw (to_z-of_z {w = w64} {z = c.in_ok-gap.gap} (record { sfits = search rules })) at c.min-least.ensures in
    rw (to_z-of_z c.ranges.slack, to_z-of_z (record { sfits = c.min-least.type_inv }), g)
    (tt, tt, slack_turn q.0 x.i x.slack W _ (sym (c.gap_at.ensures ∙ gap_own q.0 x.i c.in-Some.k x.from.start x.from.finish w (in_plan_worked q.2) q.3) ∙ c.in_ok-gap.was))

pub returns : goal.returns
returns c =
    let W = rw (to_z-of_z c.ranges.slack, c.in-None.ensures.steps.0) at c.loop-k.invariant.2 in
    slack_end c.requires.0 c.args.i c.args.slack W
