-- `checks::name_parents` meets its contract: after k steps k + 1 names are written, and i is the activity k steps up.
use mathlib.Core.Path.{◌≡◌, refl, sym, ap, ◌∙◌}
use mathlib.Core.List.{List, ◌++◌}
use Prim.Native.Nat.{ℕ, ◌+◌, ◌-◌, ◌<◌}
use native.Mathlib.Omega.{arith}
use lib.ListN.{set, length, replicate, length-replicate}
use Rattle.std.specs.Prelude.{Option, Some, None, IsSome}
use Rattle.memory.specs.Fields.{parent}
use Rattle.memory.specs.Rows.{cell_of}
use Rattle.memory.specs.State.{State}
use Rattle.network.specs.Parents.{climb, upward}
use Rattle.order.specs.Plan.{Plan, plan_of, plan_in}
use Rattle.order.specs.Ids.{id_of, parent_of}
use Rattle.order.specs.Checks.{named}
use Rattle.order.specs.FineLaws.{ParentsKnown}
use Rattle.ids.specs.Parented.{Parented}
use Rattle.ids.specs.Summaries.{LoopFrom}
use Rattle.checks.specs.NameLaws.{Naming, naming_start, naming_more, naming_here, naming_end}
use Rattle.checks.specs.ClimbLaws.{up_first, up_below, up_parent, names_length, names_at}
use Rattle.checks.proofs.name_parents.Goals as goal

module _ (p : Plan) (K : ParentsKnown p) (first steps : ℕ) (F : LoopFrom p first steps) where
  -- the first name is written
  begun : (size : ℕ) → 0 < size → (ns ms : List ℕ) → ns ≡ replicate size 0 → ms ≡ set ns 0 (id_of p first)
      → Naming (named (id_of p) (upward (parent_of p) steps first)) size ms 1
  begun size some ns ms z e =
      let xs = named (id_of p) (upward (parent_of p) steps first) in
      naming_more xs size ns 0 (naming_start xs size ns z) _ ms (omega (arith, names_length p K first steps F)) some
      (ap (id_of p) (up_first p K first steps F) ∙ names_at p K first steps F 0 (omega arith)) e

  -- the activity one step further up
  module _ (S : State) (P : Parented p S p.activities) (k i : ℕ) (l : k < steps) (h : i ≡ climb (parent_of p) k first - 1) where
    above : S.act parent i ≡ climb (parent_of p) (k + 1) first - 1 + 1
    above = P.parents i (omega (arith, h, up_below p K first steps F k (omega arith))) ∙ ap (parent_of p) h ∙ up_parent p K first steps F k l

    has_parent : (row : Option ℕ) → cell_of row ≡ S.act parent i → IsSome row
    has_parent None e = absurd (omega (arith, above))
    has_parent (Some j) e = refl

    next_up : (row : Option ℕ) → cell_of row ≡ S.act parent i → (j : ℕ) → row ≡ Some j → j ≡ climb (parent_of p) (k + 1) first - 1
    next_up row e j is = omega (arith, above, ap cell_of (sym is) ∙ e)

pub name_one-requires : goal.name_one-requires
unfolding plan_of
name_one-requires c =
    (c.requires.3.below, omega (arith, ap length (c.fill.ensures.after (λ y e. e)), length-replicate {A = ℕ} (length c.args.names.now) 0, c.requires.4))

pub loop-k-init : goal.loop-k-init
unfolding plan_of
loop-k-init c =
    let x = c.args in
    let p = plan_in x.sheet.now in
    let N = begun p c.requires.1 x.first x.steps c.requires.3 (length x.names.now) (omega (arith, c.requires.4)) _ _ (c.fill.ensures.after (λ y e. e)) c.name_one.ensures in (
      omega (arith, N.kept, c.requires.3.within, c.requires.4),
      up_first p c.requires.1 x.first x.steps c.requires.3,
      naming_here (named (id_of p) (upward (parent_of p) x.steps x.first)) (length x.names.now) _ 1 N,
    )

pub row-requires : goal.row-requires
unfolding plan_of
row-requires c =
    let x = c.args in
    let p = plan_in x.sheet.now in
    let L = c.loop-k in
    (omega (arith, c.requires.0.activities, L.invariant.1, up_below p c.requires.1 x.first x.steps c.requires.3 L.k (omega arith)), omega arith)

pub unwrap-i-requires : goal.unwrap-i-requires
unfolding plan_of
unwrap-i-requires c =
    let x = c.args in
    let p = plan_in x.sheet.now in
    let L = c.loop-k in
    has_parent p c.requires.1 x.first x.steps c.requires.3 _ c.requires.2 L.k L.i (omega arith) L.invariant.1 _ c.row.ensures

pub name_one-requires-in-loop-k : goal.name_one-requires-in-loop-k
unfolding plan_of
name_one-requires-in-loop-k c =
    let x = c.args in
    let p = plan_in x.sheet.now in
    let L = c.loop-k in
    (omega (arith, next_up p c.requires.1 x.first x.steps c.requires.3 _ c.requires.2 L.k L.i (omega arith) L.invariant.1 _ c.row.ensures _ c.unwrap-i.ensures, up_below p c.requires.1 x.first x.steps c.requires.3 (L.k + 1) (omega arith)), omega (arith, L.invariant.0, L.invariant.2.kept))

pub loop-k-preserved : goal.loop-k-preserved
unfolding plan_of
loop-k-preserved c =
    let x = c.args in
    let p = plan_in x.sheet.now in
    let xs = named (id_of p) (upward (parent_of p) x.steps x.first) in
    let L = c.loop-k in
    let e = next_up p c.requires.1 x.first x.steps c.requires.3 _ c.requires.2 L.k L.i (omega arith) L.invariant.1 _ c.row.ensures _ c.unwrap-i.ensures in (
      L.invariant.0,
      e,
      naming_more xs _ _ (L.k + 1) L.invariant.2 _ _ (omega (arith, names_length p c.requires.1 x.first x.steps c.requires.3)) (omega (arith, L.invariant.0))
          (ap (id_of p) e ∙ names_at p c.requires.1 x.first x.steps c.requires.3 (L.k + 1) (omega arith)) c.name_one-in-loop-k.ensures,
    )

pub returns : goal.returns
returns c =
    let x = c.args in
    let p = plan_in x.sheet.now in
    let xs = named (id_of p) (upward (parent_of p) x.steps x.first) in
    let L = c.loop-k in
    naming_end xs _ _ (L.k + 1) L.invariant.2 (names_length p c.requires.1 x.first x.steps c.requires.3 ∙ omega arith)
    ∙ ap (λ (n : ℕ). xs ++ replicate (n - length xs) 0) (begun p c.requires.1 x.first x.steps c.requires.3 (length x.names.now) (omega (arith, c.requires.4)) _ _ (c.fill.ensures.after (λ y e. e)) c.name_one.ensures).kept
