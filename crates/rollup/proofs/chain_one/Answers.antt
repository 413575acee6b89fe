-- `rollup::chain_one` meets its contract.
use mathlib.Core.Path.{◌≡◌, sym, ap, subst, ◌∙◌}
use Prim.Native.Nat.{suc, ◌+◌, ◌<◌}
use native.Mathlib.Omega.{arith}
use Rattle.memory.specs.State.{State, put_act}
use Rattle.memory.specs.Seen.{state}
use Rattle.memory.specs.SeenLaws.{same_refl, same_then}
use Rattle.topology.specs.Frame.{Frame}
use Rattle.topology.specs.FrameLaws.{frame_refl}
use Rattle.rollup.specs.Chained.{LinkedIn}
use Rattle.rollup.specs.ChainedLaws.{chain_skip, chain_more, chain_frame}
use Rattle.rollup.proofs.chain_one.Goals as goal

pub returns-in_default : goal.returns-in_default
returns-in_default c =
    let x = c.args in
    let h = c.requires in
    let S = state x.tables.now in
    (chain_skip x.key x.head x.tables.now.activities h.1 S x.c h.0 (sym c.in_default.ensures) h.4, frame_refl x.head (x.head + 2) 0 0 S, same_refl _)

pub returns : goal.returns
returns c =
    let x = c.args in
    let h = c.requires in
    let S = state x.tables.now in
    let i = c.in-Some.i in
    let e = c.in-Some.ensures in
    let l : i < x.tables.now.activities = omega (arith, e, h.3 x.c h.0) in
    let d : S.act x.key x.c ≡ suc i = omega (arith, e) in
    let f = c.put_act-2.ensures.0
    ∙ ap (λ (T : State). put_act T x.head i x.c) (c.put_act.ensures.0 ∙ ap (put_act S (x.head + 1) x.c) c.act-first.ensures.0)
    in (
      subst (LinkedIn x.key x.head x.tables.now.activities x.c) (sym f) (chain_more x.key x.head x.tables.now.activities h.1 S x.c i h.0 d l h.4),
      subst (Frame x.head (x.head + 2) 0 0 S) (sym f) (chain_frame x.key x.head x.tables.now.activities h.1 S x.c i h.0 d l h.4),
      same_then c.put_act.ensures.1 c.put_act-2.ensures.1,
    )
