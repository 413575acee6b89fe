-- `checks::check_links` meets its contract.
use mathlib.Core.List.{List}
use mathlib.Core.Path.{◌≡◌, sym, ap, subst, ◌∙◌}
use Prim.Native.Nat.{ℕ}
use native.Mathlib.Omega.{arith}
use lib.IntN.{pos}
use lib.ListN.{length, replicate, length-replicate}
use Rattle.memory.specs.SeenLaws.{same_lent, lent_then}
use Rattle.order.specs.Plan.{plan_of, plan_in}
use Rattle.order.specs.Checks.{Verdict, judge_order}
use Rattle.order.specs.CheckLaws.{links_first}
use Rattle.order.proofs.FineLaws.{links_fine_lem}
use Rattle.ids.specs.LentLaws.{lent_left}
use Rattle.checks.specs.Stages.{links_verdict, Judged}
use Rattle.checks.specs.StageLaws.{then_judged, first_refused, plain_refused, judged_sizes}
use Rattle.checks.specs.LinksSteps.{links_stored, ignored_named}
use Rattle.checks.proofs.check_links.Goals as goal

-- cleared names keep their length
cleared : (size : ℕ) (ns : List ℕ) → ns ≡ replicate size 0 → length ns ≡ size
cleared size ns e = ap length e ∙ length-replicate {A = ℕ} size 0

pub link_all-requires : goal.link_all-requires
unfolding plan_of
link_all-requires c =
    let P = c.requires.1 in (
      record { lent = c.requires.0; distinct = P.distinct; indexed = P.indexed; parented = P.parented; activities = P.activities; lengths_are = c.requires.2 },
      omega (arith, cleared _ _ (c.fill.ensures.after (λ y e. e)), c.requires.4),
    )

pub returns-in-Err : goal.returns-in-Err
unfolding plan_of
returns-in-Err c =
    let x = c.args in
    let p = plan_in x.sheet.now in
    let size = length x.names.now in
    let room = length x.tables.now.cells.now in
    let a = c.in-Err.ensures in
    let r = c.refuse.ensures in (
      subst (Judged p (links_verdict p) size room _ _) (sym r.0)
          (first_refused p (links_first p) (judge_order p) size room _ _
          (plain_refused p (links_first p) size room _ _ c.in-Err.error a.0
          (r.1 ∙ ap (λ (k : ℕ). replicate k 0) (a.3 ∙ cleared _ _ (c.fill.ensures.after (λ y e. e)))) (r.2 ∙ ap (λ (k : ℕ). replicate k (pos 0)) a.2.cells))),
      lent_then a.2 (same_lent r.3),
    )

pub check_order-requires : goal.check_order-requires
unfolding plan_of
check_order-requires c =
    let x = c.args in
    let p = plan_in x.sheet.now in
    let a = c.in-Ok.ensures in
    let l = a.0.1 in
    let n = a.3 ∙ cleared _ _ (c.fill.ensures.after (λ y e. e)) in (
      lent_left c.requires.0 a.2,
      links_stored p l c.requires.1 a.1,
      (links_fine_lem p).0 (ap (λ (v : Verdict). v.number) a.0.0),
      l.ignored_count,
      ignored_named p l (length x.names.now) (c.fill.ensures.after (λ y e. e)) n,
      omega (arith, n, c.requires.3),
    )

pub returns-in-Ok : goal.returns-in-Ok
unfolding plan_of
returns-in-Ok c =
    let x = c.args in
    let p = plan_in x.sheet.now in
    let a = c.in-Ok.ensures in
    let o = c.check_order in
    let names = o.new.names in
    let tables = o.new.tables in (
      then_judged p (links_first p) (judge_order p) (length x.names.now) (length x.tables.now.cells.now) names tables (ap (λ (v : Verdict). v.number) a.0.0) o.result
          (judged_sizes p (judge_order p) names tables o.result (a.3 ∙ cleared _ _ (c.fill.ensures.after (λ y e. e))) a.2.cells o.ensures.0),
      lent_then a.2 o.ensures.1,
    )
