-- `rollup::sum_children` meets its contract: `x` is the sum so far, and the other children are left.
use mathlib.Core.Path.{◌≡◌, sym, ap, ◌∙◌}
use Prim.Native.Nat.{suc, ◌<◌}
use native.Mathlib.Omega.{arith}
use Rattle.memory.specs.Seen.{state}
use Rattle.memory.specs.Fields.{parent, first_child}
use Rattle.results.specs.View.{shown_to, shown_at}
use Rattle.results.specs.ViewLaws.{to_at_lem}
use Rattle.rollup.specs.RollLaws.{sums_start, sums_turn, sums_end}
use Rattle.rollup.proofs.sum_children.Goals as goal

pub loop-c-init : goal.loop-c-init
loop-c-init c =
    let x = c.args in
    let a = x.tables.now.activities in
    let S = state x.tables.now in
    let n = S.act first_child x.s in
    let d : x.first ≡ n = c.requires.2 in
    let l : n < a = omega (arith, d, c.requires.3) in
    let e = c.shown_at-x.ensures ∙ ap (shown_at S) d ∙ sym (to_at_lem a S n l) in
    rw (c.into_iter-c-iterator.ensures.into_iter_gives, c.after-c-items.ensures)
    (tt, tt, sums_start (shown_to a S) (S.act parent) a (suc x.s) n x.first l d _ e)

pub loop-c-preserved : goal.loop-c-preserved
loop-c-preserved c =
    let x = c.args in
    let a = x.tables.now.activities in
    let S = state x.tables.now in
    let W = rw c.in-Some.ensures.steps at c.loop-c.invariant.2 in
    let e = c.shown_at.ensures ∙ sym (to_at_lem a S c.in-Some.c W.each.0.0) in
    rw c.join-x.ensures (tt, tt, sums_turn (shown_to a S) (S.act parent) a (suc x.s) _ _ _ _ W _ e)

pub returns : goal.returns
returns c =
    let x = c.args in
    let a = x.tables.now.activities in
    let S = state x.tables.now in
    let W = rw c.in-None.ensures.steps.0 at c.loop-c.invariant.2 in
    sums_end (shown_to a S) (S.act parent) a (suc x.s) _ _ W
