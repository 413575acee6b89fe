-- Loops of parents by ids and by the activities' numbers, and the one activity that row 12 is about.
use Rattle.std.specs.Prelude.{◌≡◌, refl, false, ◌&&◌, List, ◌≢◌, ◌↔◌, ℕ, suc, ◌<◌}
use Rattle.std.proofs.Common.{sym, ap, ◌∙◌, ⊎_elim, arith}
use Rattle.number.specs.Order.{cases, eq_or_ne}
use Rattle.project.specs.Status.{is_milestone}
use Rattle.network.specs.Links.{Linked, Loop}
use Rattle.network.specs.Parents.{OnLoop, loop_steps, upward}
use Rattle.network.specs.ParentLinks.{parent_links, ParentsLoop}
use Rattle.network.proofs.ParentLoops.{loop_steps_on, loop_steps_iff}
use Rattle.network.proofs.ParentRows.{parent_linked, linked_parent, parents_close_iff}
use Rattle.order.specs.Plan.{Plan}
use Rattle.order.specs.Ids.{id_of, index_of, parent_of, summary}
use Rattle.order.specs.Checks.{Verdict, refuse_loop, named, judge_summary}
use Rattle.order.specs.Demand.{Under, LoopOfParents, ParentsCloseLoop}
use Rattle.order.specs.IdLaws.{DistinctIds, index_of_id}
use Rattle.order.proofs.CheckLaws.{summary_milestone, summary_loop, summary_passes}
use Rattle.order.specs.FineLaws.{ParentsKnown}
use Rattle.order.specs.ParentLaws.{parent_of_some, parent_le, parent_is}
use Rattle.order.proofs.LoopLaws.{named_loop_of, loop_of, of_loop}

module _ (p : Plan) where
  abbrev to_parents : ℕ → ℕ → Type 0
  to_parents = Linked (parent_links (parent_of p) p.activities)

  -- ---- by ids and by the activities' numbers
  module _ (parents : ParentsKnown p) where
    linked_under : (i j : ℕ) → to_parents i j → Under p (id_of p i) (id_of p j)
    linked_under i j e =
        let r = linked_parent (parent_of p) p.activities i j e in
        let s = parent_is p parents i j r.0 r.1 in record {
          activity = i;
          within = r.0;
          has = refl;
          some = λ z. s.some (sym s.id ∙ z);
          under = sym s.id;
        }

    pub parent_loop_ids : (xs : List ℕ) → Loop (parent_links (parent_of p) p.activities) xs → LoopOfParents p (named (id_of p) xs)
    parent_loop_ids xs w = named_loop_of (id_of p) to_parents (Under p) linked_under xs (loop_of (parent_links (parent_of p) p.activities) xs w)

  module _ (distinct : DistinctIds p) where
    under_linked : (a b : ℕ) → Under p a b → to_parents (index_of p a) (index_of p b)
    under_linked a b u =
        let e : index_of p a ≡ u.activity = ap (index_of p) (sym u.has) ∙ index_of_id p distinct u.activity u.within in
        parent_linked (parent_of p) p.activities (index_of p a) (index_of p b) (omega (arith, u.within))
        (ap (parent_of p) e ∙ parent_of_some p u.activity (λ z. u.some (sym u.under ∙ z)) ∙ ap (λ (id : ℕ). suc (index_of p id)) u.under)

    pub ids_parent_loop : (xs : List ℕ) → LoopOfParents p xs → Loop (parent_links (parent_of p) p.activities) (named (index_of p) xs)
    ids_parent_loop xs w =
        of_loop (parent_links (parent_of p) p.activities) (named (index_of p) xs) (named_loop_of (index_of p) (Under p) to_parents under_linked xs w)

  pub parents_close_ids : DistinctIds p → ParentsKnown p → ParentsLoop (parent_of p) p.activities ↔ ParentsCloseLoop p
  parents_close_ids distinct parents = (
    λ o. let w = (parents_close_iff (parent_of p) (parent_le p parents)).1 o in (named (id_of p) w.0, parent_loop_ids parents w.0 w.1),
    λ w. (parents_close_iff (parent_of p) (parent_le p parents)).0 (named (index_of p) w.0, ids_parent_loop distinct w.0 w.1),
  )

  -- ---- one activity: 12 where it lies on a loop, and is no milestone that is a parent
  module _ (i : ℕ) where
    pub summary_twelve : (judge_summary p i).number ≡ 12
        → (0 < loop_steps (parent_of p) p.activities i)
        × (judge_summary p i ≡ refuse_loop 12 (named (id_of p) (upward (parent_of p) (loop_steps (parent_of p) p.activities i) i)))
    summary_twelve e =
        ⊎_elim (λ m. absurd (omega (arith, ap (λ (v : Verdict). v.number) (summary_milestone p i m))))
        (λ task.
        ⊎_elim (λ z. absurd (omega (arith, ap (λ (v : Verdict). v.number) (summary_passes p i task z))))
        (λ n. (omega arith, summary_loop p i task n)) (eq_or_ne (loop_steps (parent_of p) p.activities i) 0))
        (cases (summary p i && is_milestone (p.activity i).kind))

    pub summary_twelve_iff : ParentsKnown p → i < p.activities → (summary p i && is_milestone (p.activity i).kind) ≡ false
        → ((judge_summary p i).number ≡ 12) ↔ OnLoop (parent_of p) i
    summary_twelve_iff parents l task = (
      λ e. loop_steps_on (parent_of p) p.activities i (summary_twelve e).0,
      λ o.
          let s = (loop_steps_iff (parent_of p) (parent_le p parents) i l).1 o in
          ap (λ (v : Verdict). v.number) (summary_loop p i task (λ z. omega arith)),
    )

    pub summary_refused : (summary p i && is_milestone (p.activity i).kind) ≡ false → (judge_summary p i).number ≢ 0 → (judge_summary p i).number ≡ 12
    summary_refused task n =
        ⊎_elim (λ z. absurd (n (ap (λ (v : Verdict). v.number) (summary_passes p i task z))))
        (λ m. ap (λ (v : Verdict). v.number) (summary_loop p i task m)) (eq_or_ne (loop_steps (parent_of p) p.activities i) 0)
