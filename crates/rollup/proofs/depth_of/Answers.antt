-- `rollup::depth_of` meets its contract: k steps are made and lead to `at`.
use mathlib.Core.Path.{◌≡◌, subst, ◌∙◌}
use Prim.Native.Nat.{ℕ}
use native.Mathlib.Omega.{arith}
use Rattle.std.specs.Prelude.{Option}
use Rattle.memory.specs.Seen.{state}
use Rattle.memory.specs.Fields.{parent}
use Rattle.memory.specs.Rows.{cell_of}
use Rattle.rollup.specs.DepthLaws.{Climbs, climbs_start, climbs_turn, climbs_top, climbs_end}
use Rattle.rollup.proofs.depth_of.Goals as goal

pub loop-k-init : goal.loop-k-init
loop-k-init c =
    let x = c.args in
    let up = (state x.tables.now).act parent in climbs_start up x.tables.now.activities x.i c.requires.0

pub returns-in_default : goal.returns-in_default
returns-in_default c =
    let x = c.args in
    let up = (state x.tables.now).act parent in
    let L = c.loop-k in
    let C = subst (λ (o : Option ℕ). Climbs up x.tables.now.activities x.i (cell_of o) L.k) c.in_default.is L.invariant in
    (climbs_top up x.tables.now.activities x.i L.k C, L.invariant.steps)

pub loop-k-preserved : goal.loop-k-preserved
loop-k-preserved c =
    let x = c.args in
    let up = (state x.tables.now).act parent in
    let L = c.loop-k in
    let j = c.in-Some.j in
    let C = subst (λ (o : Option ℕ). Climbs up x.tables.now.activities x.i (cell_of o) L.k) c.in-Some.is L.invariant in
    climbs_turn up x.tables.now.activities x.i L.k j C (omega arith) (c.requires.1 j (omega (arith, C.low))) _ c.row-at.ensures

pub returns : goal.returns
returns c =
    let x = c.args in
    let up = (state x.tables.now).act parent in
    let L = c.loop-k in
    let e : x.tables.now.activities ≡ L.k = omega arith in
    (e ∙ climbs_end up x.tables.now.activities x.i L.k _ L.invariant (omega arith), omega arith)
