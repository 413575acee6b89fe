-- Which links are ignored, by ids: "ignored if an end is a summary (a parent of any activity), else kept".
use Rattle.std.specs.Prelude.{◌≡◌, refl, true, false, ◌↔◌, ℕ, ◌<◌}
use Rattle.std.proofs.Common.{sym, ◌∙◌, true≢false, ⊎_elim}
use Rattle.number.specs.Order.{cases}
use Rattle.order.specs.Plan.{Plan}
use Rattle.order.specs.Ids.{id_of, summary}
use Rattle.order.specs.Ties.{from_of, to_of, ignored}
use Rattle.order.specs.Checks.{before_ordering}
use Rattle.order.specs.Demand.{IsParent}
use Rattle.order.specs.IdLaws.{DistinctIds, index_id}
use Rattle.order.specs.FineLaws.{ParentsKnown}
use Rattle.order.proofs.FineLaws.{plan_fine_lem, fine_distinct}
use Rattle.order.specs.ParentLaws.{summary_iff, parent_is, parent_by_id}
use Rattle.order.specs.TieLaws.{from_below, to_below}

module _ (p : Plan) where
  -- ---- the ways
  module _ (k : ℕ) where
    pub ignored_from : summary p (from_of p k) ≡ true → ignored p k ≡ true
    unfolding ignored
    ignored_from e = simp (e, ignored)

    module _ (e : summary p (from_of p k) ≡ false) where
      pub ignored_to : summary p (to_of p k) ≡ true → ignored p k ≡ true
      unfolding ignored
      ignored_to f = simp (e, f, ignored)

      pub not_ignored : summary p (to_of p k) ≡ false → ignored p k ≡ false
      unfolding ignored
      not_ignored f = simp (e, f, ignored)

    pub kept_ends : (ignored p k ≡ false) ↔ ((summary p (from_of p k) ≡ false) × (summary p (to_of p k) ≡ false))
    kept_ends = (
      λ h.
          ⊎_elim (λ e. absurd (true≢false (sym (ignored_from e) ∙ h)))
          (λ e. ⊎_elim (λ f. absurd (true≢false (sym (ignored_to e f) ∙ h))) (λ f. (e, f)) (cases (summary p (to_of p k))))
          (cases (summary p (from_of p k))),
      λ h. not_ignored h.0 h.1,
    )

  -- ---- after row 10: a summary is an activity whose id some activity names as its parent
  module _ (distinct : DistinctIds p) (parents : ParentsKnown p) where
    pub summary_ids : (i : ℕ) → i < p.activities → (summary p i ≡ true) ↔ IsParent p (id_of p i)
    summary_ids i l = (
      λ e.
          let r = (summary_iff p i).0 e in
          let s = parent_is p parents r.0 i r.1 r.2 in (
            id_of p r.0,
            record { activity = r.0; within = r.1; has = refl; some = λ z. s.some (sym s.id ∙ z); under = sym s.id },
          ),
      λ w.
          let u = w.1 in
          (summary_iff p i).1 (
            u.activity,
            u.within,
            parent_by_id p distinct u.activity i (record { some = λ z. u.some (sym u.under ∙ z); below = l; id = sym u.under }),
          ),
    )

    not_summary : (i : ℕ) → i < p.activities → (summary p i ≡ false) ↔ (¬ (IsParent p (id_of p i)))
    not_summary i l = (
      λ e w. true≢false (sym ((summary_ids i l).1 w) ∙ e),
      λ h. ⊎_elim (λ e. absurd (h ((summary_ids i l).0 e))) (λ e. e) (cases (summary p i)),
    )

  -- of a plan that passes the checks before ordering: kept exactly where neither end is a parent
  pub kept_iff : (before_ordering p).number ≡ 0 → (k : ℕ) → k < p.links
      → (ignored p k ≡ false) ↔ ((¬ (IsParent p (p.link k).predecessor)) × (¬ (IsParent p (p.link k).successor)))
  kept_iff h k l =
      let f = (plan_fine_lem p).0 h in
      let d = fine_distinct p f.activities in
      let a : id_of p (from_of p k) ≡ (p.link k).predecessor = index_id p (p.link k).predecessor (f.links k l).from in
      let b : id_of p (to_of p k) ≡ (p.link k).successor = index_id p (p.link k).successor (f.links k l).to in
      let s = not_summary d f.parents (from_of p k) (from_below p f.links k l) in
      let t = not_summary d f.parents (to_of p k) (to_below p f.links k l) in (
        λ e. let r = (kept_ends k).0 e in (rw a at (s.0 r.0), rw b at (t.0 r.1)),
        λ r. (kept_ends k).1 (s.1 (rw a r.0), t.1 (rw b r.1)),
      )
