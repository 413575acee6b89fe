-- `topology::walk_back` meets its contract: m activities were passed.
use mathlib.Core.Path.{ap, ◌∙◌}
use Prim.Native.Nat.{ℕ, ◌-◌}
use native.Mathlib.Omega.{arith}
use Rattle.memory.specs.Seen.{state}
use Rattle.memory.specs.Fields.{waiting}
use Rattle.network.specs.Kahn.{waiting_before}
use Rattle.topology.specs.Links.{links_of, Ends}
use Rattle.topology.specs.Order.{ChainsIn}
use Rattle.topology.specs.Loop.{WalkedBack}
use Rattle.topology.specs.LoopLaws.{ends_left, chains_left, going_start, going_inside, going_room, going_step, going_stop}
use Rattle.memory.specs.SeenLaws.{same_refl, same_then, sized}
use Rattle.topology.proofs.walk_back.Goals as goal

pub loop-start-init : goal.loop-start-init
loop-start-init c =
    let p = c.requires in (same_refl c.args.tables.now, going_start p.0 c.args.start p.1 p.2)

pub act-mark-requires : goal.act-mark-requires
act-mark-requires c =
    let L = c.loop-start in
    let p = c.requires in (omega (arith, L.invariant.0.activities, going_inside p.0 L.invariant.1), omega arith)

pub returns-then-mark-gt0 : goal.returns-then-mark-gt0
returns-then-mark-gt0 c =
    let L = c.loop-start in
    let x = c.args in
    let p = c.requires in
    let S = state x.tables.now in
    let T = state L.tables in
    let e = c.act-mark.ensures.0 in
    let w : WalkedBack x.tables.now.activities x.tables.now.kept S T x.start (c.act-mark.result - 1) L.m = rw e (going_stop p.0 L.invariant.1 (omega (arith, e))) in
    (w, L.invariant.0)

pub step_back-x-requires : goal.step_back-x-requires
step_back-x-requires c =
    let L = c.loop-start in
    let p = c.requires in
    let F = L.invariant.1.kept in
    let a = L.invariant.0.activities in
    let x = c.args in
    let T = state L.tables in (omega (arith, a, going_room p.0 L.invariant.1 (omega (arith, c.act-mark.ensures.0))), omega (arith, a, going_inside p.0 L.invariant.1), sized L.invariant.0 (λ n k. Ends n k T) (ends_left F p.0.ends), sized L.invariant.0 (λ n k. ChainsIn n k T) (chains_left F p.0.chains_in))

pub overflow_add-m : goal.overflow_add-m
overflow_add-m c =
    let L = c.loop-start in
    let p = c.requires in
    omega (arith, going_room p.0 L.invariant.1 (omega (arith, c.act-mark.ensures.0)))

pub loop-start-smaller : goal.loop-start-smaller
loop-start-smaller c =
    let L = c.loop-start in
    let p = c.requires in
    omega (arith, going_room p.0 L.invariant.1 (omega (arith, c.act-mark.ensures.0)))

pub loop-start-preserved : goal.loop-start-preserved
loop-start-preserved c =
    let L = c.loop-start in
    let x = c.args in
    let p = c.requires in
    let U = state c.step_back-x.new.tables in
    let e = c.step_back-x.ensures in
    (same_then L.invariant.0 e.2, going_step p.0 L.invariant.1 U c.step_back-x.result (omega (arith, c.act-mark.ensures.0)) e.0 (e.1 ∙ ap (λ (n : ℕ). waiting_before (links_of (state L.tables) n) ((state L.tables).act waiting) (links_of (state L.tables) n) L.x) L.invariant.0.kept))
