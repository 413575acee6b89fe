-- `longest::mark_last` meets its contract: the marks of the activities before i stand.
use mathlib.Core.Path.{◌≡◌, refl, sym, ap, ◌∙◌}
use Prim.Native.Nat.{ℕ}
use native.Mathlib.Omega.{arith}
use Rattle.memory.specs.Seen.{state}
use Rattle.memory.specs.SeenLaws.{same_refl, same_then}
use Rattle.memory.specs.Fields.{longest_path}
use Rattle.topology.specs.FrameLaws.{frame_refl}
use Rattle.passes.specs.Floats.{last_ones}
use Rattle.dates.specs.Columns.{flags, early_in}
use Rattle.dates.specs.StandingLaws.{standing_kept}
use Rattle.dates.specs.KeptLaws.{recorded_kept}
use Rattle.longest.specs.LastLaws.{marks_none, last_turn, frame_mark}
use Rattle.longest.proofs.mark_last.Goals as goal

pub loop-i-init : goal.loop-i-init
loop-i-init c =
    let x = c.args in
    let S = state x.tables.now in
    (same_refl x.tables.now, frame_refl 16 17 0 0 S, λ p t e W R. marks_none (last_ones p (early_in p S) x.finish) S)

pub loop-i-preserved : goal.loop-i-preserved
loop-i-preserved c =
    let x = c.args in
    let v = c.loop-i.invariant in
    let S₀ = state x.tables.now in
    let S = state c.loop-i.tables in
    let T = state c.put_act.new.self in
    let e = c.put_act.ensures in
    let f = c.from-v in
    let g = c.is_last in
    (same_then v.0 e.1, frame_mark v.1 c.loop-i.i f.result e.0, λ p t a W R. last_turn p S₀ S T v.1 x.finish c.loop-i.i f.result g.result e.0 f.ensures (v.2 p t a W R) (g.ensures p t (a ∙ sym v.0.activities) (standing_kept v.1 p (omega arith) W) (recorded_kept v.1 p refl refl refl R)))

pub returns : goal.returns
returns c =
    let x = c.args in
    let v = c.loop-i.invariant in
    let S₀ = state x.tables.now in
    let S = state c.loop-i.tables in (
      λ p t a W R.
          let e : p.activities ≡ c.loop-i.i = omega (arith, a) in
          let other = last_ones p (early_in p S₀) x.finish in
          ap (λ (n : ℕ). flags n other S longest_path) e ∙ v.2 p t a W R,
      v.1,
      v.0,
    )
