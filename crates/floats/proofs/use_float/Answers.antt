-- `floats::use_float` meets its contract.
use mathlib.Core.Path.{sym, ap, ◌∙◌}
use native.Mathlib.Omega.{arith}
use Rattle.passes.specs.Dates.{leaves}
use Rattle.memory.specs.State.{State}
use Rattle.memory.specs.Seen.{state}
use Rattle.memory.specs.Fields.{free_float}
use Rattle.topology.specs.Frame.{Frame}
use Rattle.topology.specs.FrameLaws.{frame_put}
use lib.IntN.{pos}
use Rattle.floats.specs.Slack.{freed_in}
use Rattle.floats.specs.StoreLaws.{free_stored, freed_held, freed_stays}
use Rattle.floats.proofs.use_float.Goals as goal

pub returns-then-is_moved : goal.returns-then-is_moved
returns-then-is_moved c =
    let x = c.args in
    let S = state x.tables.now in
    let r = c.hold_late.ensures in
    (λ p a W R H. r.0 p a H ∙ sym (freed_held p S x.i x.free (sym (c.is_moved.ensures p a W R H.activity_is) ∙ c.if-is_moved.true)), r.1, r.2)

pub returns : goal.returns
returns c =
    let x = c.args in
    let S = state x.tables.now in
    let e = c.put_act.ensures.0 in
    let F : Frame 12 16 0 0 S (state c.put_act.new.self) =
    rw e (frame_put 12 16 0 0 free_float (omega arith) (omega arith) S x.i (pos x.free))
    in (
      λ p a W R H. ap (λ (T : State). leaves (freed_in p T)) e
          ∙ ap leaves (free_stored p S x.i (rw a c.requires.0) x.free)
          ∙ sym (freed_stays p S x.i x.free (sym (c.is_moved.ensures p a W R H.activity_is) ∙ c.if-is_moved.false)),
      F,
      c.put_act.ensures.1,
    )
