-- `floats::hold_late` meets its contract. Each way out has its law.
use mathlib.Core.Path.{sym, ap, ◌∙◌}
use native.Mathlib.Omega.{arith}
use Prim.Native.Nat.{◌<◌}
use Rattle.project.specs.declared.Activity.{Activity}
use Rattle.passes.specs.Dates.{leaves}
use Rattle.memory.specs.State.{State}
use Rattle.memory.specs.Seen.{state}
use Rattle.memory.specs.SeenLaws.{same_refl}
use Rattle.topology.specs.Frame.{Frame}
use Rattle.topology.specs.FrameLaws.{frame_refl}
use Rattle.number.specs.Exits.{handed_on}
use Rattle.floats.specs.Slack.{freed_in}
use Rattle.floats.specs.FitLaws.{moved_bound}
use Rattle.floats.specs.StoreLaws.{left_at, stored_frame, held_to, held_refused}
use Rattle.floats.proofs.hold_late.Goals as goal

pub store_move-requires : goal.store_move-requires
store_move-requires c =
    let m = moved_bound _ _ _ _ _ _ _ _ (sym c.held_move.ensures ∙ c.in_ok-moved.was) in
    (c.requires, omega arith, omega arith)

pub returns : goal.returns
returns c =
    let x = c.args in
    let S = state x.tables.now in
    let e = c.store_move.ensures.0 in
    let F : Frame 12 16 0 0 S (state c.store_move.new.tables) = rw e (stored_frame S x.i _ _) in (
      λ p a H.
          let l : x.i < p.activities = omega (arith, a, c.requires) in
          ap (λ (T : State). leaves (freed_in p T)) e
          ∙ held_to p S x.i x.free l _ (sym H.own_is) _ (ap (λ (y : Activity). y.kind) H.activity_is) _ _ _
          c.early_at-early.ensures.0 c.early_at-early.ensures.1 (H.left_is ∙ left_at p S x.i l) _ _ (sym c.held_move.ensures ∙ c.in_ok-moved.was),
      F,
      c.store_move.ensures.1,
    )

pub returns-in_err-moved : goal.returns-in_err-moved
returns-in_err-moved c = rw (handed_on _ _ c.from_residual.ensures.1) (
    let x = c.args in
    let S = state x.tables.now in (
      λ p a H.
          let l : x.i < p.activities = omega (arith, a, c.requires) in
          held_refused p S x.i x.free l _ (sym H.own_is) _ (ap (λ (y : Activity). y.kind) H.activity_is) _ _ _
          c.early_at-early.ensures.0 c.early_at-early.ensures.1 (H.left_is ∙ left_at p S x.i l) _ (sym c.held_move.ensures ∙ c.in_err-moved.was),
      frame_refl 12 16 0 0 S,
      same_refl x.tables.now,
    ))
