-- `late::links::link_finish` meets its contract. The link is the plan's, and its successor's times are read from the memory.
use borrow.Author.Rules.{rules}
use mathlib.Core.Path.{refl, sym, ap, ◌∙◌}
use Prim.Native.Nat.{ℕ, ◌+◌, ◌^◌, ◌<◌}
use native.Mathlib.Omega.{arith}
use mir.Facts.{to_z-of_z}
use mir.Syntax.{w64}
use Rattle.bounds.specs.LinkLaws.{to_in, lag_in}
use Rattle.bounds.specs.ReadyLaws.{kept_within}
use Rattle.dates.specs.Standing.{as_tie}
use Rattle.dates.specs.Columns.{early_in, late_in}
use Rattle.passes.specs.Backward.{over_lag}
use Rattle.passes.specs.Plan.{own}
use Rattle.order.specs.Plan.{plan_in}
use Rattle.memory.specs.Seen.{state}
use Rattle.number.specs.Zed.{up, dn}
use Rattle.number.specs.Exits.{handed_on}
use Rattle.late.specs.StandLaws.{times_are, over_are, by_are}
use Rattle.late.specs.LinkLaws.{link_times_refused, link_lag_refused, link_finish_refused, link_at}
use Rattle.late.specs.UnfinishedLaws.{own_bounded, own_by}
use Rattle.late.proofs.links.link_finish.Goals as goal

pub tie_at-tie-requires : goal.tie_at-tie-requires
tie_at-tie-requires g c = omega (arith, c.requires.0.links, c.requires.1, kept_within c.requires.0)

pub successor_times-requires : goal.successor_times-requires
successor_times-requires g c = let R = c.requires.0 in (R.activities, to_in R _ c.requires.1 _ c.tie_at-tie.ensures)

pub over_lag-requires : goal.over_lag-requires
over_lag-requires g c =
    let R = c.requires.0 in
    let τ = c.tie_at-tie.result in
    let h : up τ.lag + dn τ.lag < 2 ^ 63 = omega (arith, lag_in R _ c.requires.1 _ c.tie_at-tie.ensures) in
    rw (to_z-of_z {w = w64} {z = τ.lag} (record { sfits = search rules })) h

pub returns : goal.returns
returns g c =
    λ i last O.
    let R = c.requires.0 in
    let p = plan_in c.args.plan.now.sheet in
    let S = state (g.R.Reads.tables c.args.tables.now) in
    let d = early_in p S in
    let m = late_in p S last in
    let τ = c.tie_at-tie.result in
    let e = c.tie_at-tie.ensures in
    let A = times_are R _ c.requires.1 τ e last ∙ sym c.successor_times.ensures ∙ c.in_ok-times.was in
    let F = to_z-of_z {w = w64} {z = τ.lag} (record { sfits = search rules }) in
    let B = over_are R _ c.requires.1 τ e d m _ _ ∙ ap (λ (x : ℕ). over_lag p d m (as_tie τ) x) (sym c.target-x.ensures) ∙ sym (c.over_lag.ensures d m (as_tie τ) refl (sym F)) ∙ c.in_ok-v.was in
    let C = by_are R _ c.requires.1 τ e (own p i) (d.left i) c.in_ok-v.v ∙ own_by O.hand τ.kind c.in_ok-v.v ∙ sym c.finish_by.ensures ∙ c.in_ok-f.was in
    c.bounded.ensures ∙ sym (own_bounded O _) ∙ sym (link_at p d m i c.args.k _ _ A _ B _ C)

pub returns-in_err-f : goal.returns-in_err-f
returns-in_err-f g c = rw (handed_on _ _ c.from_residual-in_err-f.ensures.1) (λ i last O.
    let R = c.requires.0 in
    let p = plan_in c.args.plan.now.sheet in
    let S = state (g.R.Reads.tables c.args.tables.now) in
    let d = early_in p S in
    let m = late_in p S last in
    let τ = c.tie_at-tie.result in
    let e = c.tie_at-tie.ensures in
    let A = times_are R _ c.requires.1 τ e last ∙ sym c.successor_times.ensures ∙ c.in_ok-times.was in
    let F = to_z-of_z {w = w64} {z = τ.lag} (record { sfits = search rules }) in
    let B = over_are R _ c.requires.1 τ e d m _ _ ∙ ap (λ (x : ℕ). over_lag p d m (as_tie τ) x) (sym c.target-x.ensures) ∙ sym (c.over_lag.ensures d m (as_tie τ) refl (sym F)) ∙ c.in_ok-v.was in
    let C = by_are R _ c.requires.1 τ e (own p i) (d.left i) c.in_ok-v.v ∙ own_by O.hand τ.kind c.in_ok-v.v ∙ sym c.finish_by.ensures ∙ c.in_err-f.was in
    sym (link_finish_refused p d m i c.args.k _ _ A _ B _ C))

pub returns-in_err-v : goal.returns-in_err-v
returns-in_err-v g c = rw (handed_on _ _ c.from_residual-in_err-v.ensures.1) (λ i last O.
    let R = c.requires.0 in
    let p = plan_in c.args.plan.now.sheet in
    let S = state (g.R.Reads.tables c.args.tables.now) in
    let d = early_in p S in
    let m = late_in p S last in
    let τ = c.tie_at-tie.result in
    let e = c.tie_at-tie.ensures in
    let A = times_are R _ c.requires.1 τ e last ∙ sym c.successor_times.ensures ∙ c.in_ok-times.was in
    let F = to_z-of_z {w = w64} {z = τ.lag} (record { sfits = search rules }) in
    let B = over_are R _ c.requires.1 τ e d m _ _ ∙ ap (λ (x : ℕ). over_lag p d m (as_tie τ) x) (sym c.target-x.ensures) ∙ sym (c.over_lag.ensures d m (as_tie τ) refl (sym F)) ∙ c.in_err-v.was in
    sym (link_lag_refused p d m i c.args.k _ _ A _ B))

pub returns-in_err-times : goal.returns-in_err-times
returns-in_err-times g c = rw (handed_on _ _ c.from_residual.ensures.1) (λ i last O.
    let R = c.requires.0 in
    let p = plan_in c.args.plan.now.sheet in
    let S = state (g.R.Reads.tables c.args.tables.now) in
    let d = early_in p S in
    let m = late_in p S last in
    let τ = c.tie_at-tie.result in
    let e = c.tie_at-tie.ensures in
    let A = times_are R _ c.requires.1 τ e last ∙ sym c.successor_times.ensures ∙ c.in_err-times.was in
    sym (link_times_refused p d m i c.args.k _ A))
