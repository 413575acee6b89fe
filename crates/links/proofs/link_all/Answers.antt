-- `links::link_all` meets its contract.
use mathlib.Core.Path.{refl}
use native.Mathlib.Omega.{arith}
use Rattle.std.proofs.lemmas.Result.{err_from_is_err_and}
use Rattle.order.specs.Plan.{plan_of, plan_in}
use Rattle.memory.specs.Seen.{state}
use Rattle.memory.specs.SeenLaws.{lent_then}
use Rattle.links.specs.LinkSteps.{judging_kept, linking_start, kept_le, linking_stop, linking_turn, linking_end}
use Rattle.links.proofs.link_all.Goals as goal

pub loop-k-init : goal.loop-k-init
loop-k-init c =
    let x = c.args in (c.keep.ensures.3, refl, linking_start (plan_in x.sheet.now) (state x.tables.now) x.names.now _ c.keep.ensures.0 c.keep.ensures.1)

pub link_one-requires : goal.link_one-requires
link_one-requires c =
    let x = c.args in
    let L = c.loop-k in
    let taken = kept_le (plan_in x.sheet.now) (state x.tables.now) x.names.now _ _ _ _ L.invariant.2 in
    let h = c.requires in
    (judging_kept h.0 L.invariant.2.acts L.invariant.0, omega arith, omega (arith, taken), omega (arith, taken, h.1))

pub returns-in_err-ignored : goal.returns-in_err-ignored
unfolding plan_of
returns-in_err-ignored c =
    let x = c.args in
    let o = c.in_err-ignored.ensures in
    let a = linking_stop (plan_in x.sheet.now) (state x.tables.now) x.names.now _ _ _ _ c.loop-k.invariant.2 (omega arith) _ c.link_one.new.names _ o.0 in
    let q = err_from_is_err_and c.from_residual.result c.from_residual.ensures.1 in
    rw (q.1, q.2) (a.0, a.1, lent_then c.loop-k.invariant.0 o.1, omega (arith, o.2))

pub loop-k-preserved : goal.loop-k-preserved
unfolding plan_of
loop-k-preserved c =
    let x = c.args in
    let p = plan_in x.sheet.now in
    let S = state x.tables.now in
    let L = c.loop-k in
    let o = c.in_ok-ignored.ensures in (
      lent_then L.invariant.0 o.1,
      omega (arith, o.2),
      linking_turn p S x.names.now _ _ _ _ L.invariant.2 (omega arith) _ _ (omega (arith, kept_le p S x.names.now _ _ _ _ L.invariant.2, c.requires.1)) o.0,
    )

pub returns : goal.returns
unfolding plan_of
returns c =
    let x = c.args in
    let L = c.loop-k in (
      linking_end (plan_in x.sheet.now) (state x.tables.now) x.names.now _ _ _ _ L.invariant.2 (omega arith),
      L.invariant.2.acts,
      L.invariant.0,
      L.invariant.1,
    )
