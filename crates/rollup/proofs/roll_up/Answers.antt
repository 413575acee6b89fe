-- `rollup::roll_up` meets its contract.
use mathlib.Core.Path.{sym, ap, subst, ◌∙◌}
use Prim.Native.Nat.{ℕ}
use native.Mathlib.Omega.{arith}
use Rattle.memory.specs.Seen.{state}
use Rattle.memory.specs.SeenLaws.{same_then}
use Rattle.memory.specs.Fields.{parent}
use Rattle.topology.specs.FrameLaws.{frame_then, frame_wider}
use Rattle.order.specs.Plan.{plan_of, plan_in}
use Rattle.passes.specs.Dates.{through}
use Rattle.results.specs.declared.Shown.{Shown}
use Rattle.results.specs.Results.{rolled, deepest_first}
use Rattle.results.proofs.RowLaws.{to_show_kept}
use Rattle.rollup.specs.Chained.{KeysIn}
use Rattle.rollup.specs.Prepared.{Prepared}
use Rattle.rollup.specs.PreparedLaws.{deep_from, shown_kept, keys_in}
use Rattle.rollup.proofs.roll_up.Goals as goal

pub prepare-requires : goal.prepare-requires
unfolding plan_of
prepare-requires c =
    let x = c.args in
    let h = c.requires in
    let p = plan_in x.plan.now.sheet in
    let S₀ = state x.tables.now in
    subst (λ (n : ℕ). KeysIn parent n S₀) (sym h.0.activities) (keys_in p S₀ h.1)

pub roll_all-requires : goal.roll_all-requires
unfolding plan_of
roll_all-requires c =
    let x = c.args in
    let h = c.requires in
    let p = plan_in x.plan.now.sheet in
    let S₀ = state x.tables.now in
    let e = c.prepare.ensures in
    let T = state c.prepare.new.tables in
    (to_show_kept (omega arith) e.0.frame e.1 h.0, deep_from p S₀ T h.1.parents h.1.marks h.1.within (subst (λ (n : ℕ). Prepared n S₀ T) h.0.activities e.0), c.project-project.ensures)

pub returns : goal.returns
unfolding plan_of
returns c =
    let x = c.args in
    let h = c.requires in
    let p = plan_in x.plan.now.sheet in
    let S₀ = state x.tables.now in
    let e = c.prepare.ensures in
    let d = c.roll_all.ensures in (
      (λ q. d.0 q ∙ ap (λ (f : ℕ → Shown). through (rolled p q) (deepest_first p q x.plan.now.sheet.contents.activities) f) (shown_kept (omega arith) e.0.frame x.plan.now.sheet.contents.activities)),
      frame_then 20 35 0 0 (frame_wider 20 35 0 0 30 35 0 0 (omega arith) (omega arith) (omega arith) (omega arith) e.0.frame) (frame_wider 20 35 0 0 20 30 0 0 (omega arith) (omega arith) (omega arith) (omega arith) d.1),
      same_then e.1 d.2,
    )
