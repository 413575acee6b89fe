-- Parents and summaries: a parent is an activity, a summary has a child, and where no activity is refused with 12 every climb ends.
use Rattle.std.specs.Prelude.{◌≡◌, ◌≢◌, ◌↔◌, ℕ, zero, suc, ◌+◌, ◌≤◌, ◌<◌}
use Rattle.std.proofs.Math.Path.{refl}
use Rattle.std.proofs.Common.{sym, ap, ◌∙◌, true≢false, ⊎_elim, arith, add-one}
use Rattle.std.proofs.Math.Bool.{true, false}
use borrow.Author.Tests.{eq-eqb, ne_eqb}
use Rattle.std.proofs.Math.Dec.{eqb}
use Rattle.number.specs.Order.{eq_or_ne}
use Rattle.network.specs.Parents.{climb, OnLoop}
use Rattle.network.specs.ParentLinks.{ParentsLoop, depth}
use Rattle.network.proofs.ParentLoops.{loop_steps_zero, climb_ends}
use Rattle.network.specs.Depth.{Deep, depth_deep, depth_child, depth_top}
use Rattle.order.specs.Plan.{Plan}
use Rattle.order.specs.Ids.{id_of, index_of, parent_of, parent_among, summary}
use Rattle.order.specs.IdLaws.{DistinctIds, index_below, index_id, index_of_id}
use Rattle.order.specs.FineLaws.{ParentsKnown, SummariesFine}

module _ (p : Plan) where
  -- ---- the parent's number
  pub parent_of_none : (i : ℕ) → (p.activity i).parent ≡ 0 → parent_of p i ≡ 0
  unfolding parent_of
  parent_of_none i h = let e : eqb (p.activity i).parent 0 ≡ true = eq-eqb (p.activity i).parent 0 h in simp (e, parent_of)

  pub parent_of_some : (i : ℕ) → (p.activity i).parent ≢ 0 → parent_of p i ≡ suc (index_of p (p.activity i).parent)
  unfolding parent_of
  parent_of_some i h = let e : eqb (p.activity i).parent 0 ≡ false = ne_eqb (p.activity i).parent 0 h in simp (e, parent_of)

  -- ---- summaries
  among_suc_child : (n i : ℕ) → parent_of p n ≡ suc i → parent_among p (suc n) i ≡ true
  unfolding parent_among
  among_suc_child n i h = let e : eqb (parent_of p n) (suc i) ≡ true = eq-eqb (parent_of p n) (suc i) h in simp (e, parent_among)

  among_suc_other : (n i : ℕ) → parent_of p n ≢ suc i → parent_among p (suc n) i ≡ parent_among p n i
  unfolding parent_among
  among_suc_other n i h = let e : eqb (parent_of p n) (suc i) ≡ false = ne_eqb (parent_of p n) (suc i) h in simp (e, parent_among)

  -- one step of the search for a child
  pub among_none : (i : ℕ) → parent_among p 0 i ≡ false
  unfolding parent_among
  among_none i = refl

  pub among_child : (n i : ℕ) → parent_of p n ≡ suc i → parent_among p (n + 1) i ≡ true
  among_child n i h = ap (λ (m : ℕ). parent_among p m i) (add-one n) ∙ among_suc_child n i h

  pub among_other : (n i : ℕ) → parent_of p n ≢ suc i → parent_among p (n + 1) i ≡ parent_among p n i
  among_other n i h = ap (λ (m : ℕ). parent_among p m i) (add-one n) ∙ among_suc_other n i h

  among_has : (n i : ℕ) → parent_among p n i ≡ true → (j : ℕ) × (j < n) × (parent_of p j ≡ suc i)
  among_has zero i e = absurd (true≢false (sym e ∙ among_none i))
  among_has (suc n) i e =
      ⊎_elim (λ (h : parent_of p n ≡ suc i). (n, omega arith, h))
      (λ (h : parent_of p n ≢ suc i). let r = among_has n i (sym (among_suc_other n i h) ∙ e) in (r.0, omega (arith, r.1), r.2))
      (eq_or_ne (parent_of p n) (suc i))

  has_among : (n i j : ℕ) → j < n → parent_of p j ≡ suc i → parent_among p n i ≡ true
  has_among zero i j l e = absurd (omega arith)
  has_among (suc n) i j l e =
      ⊎_elim (λ (h : parent_of p n ≡ suc i). among_suc_child n i h)
      (λ (h : parent_of p n ≢ suc i).
      let m : j < n = ⊎_elim (λ (q : j ≡ n). absurd (h (ap (parent_of p) (sym q) ∙ e))) (λ q. omega arith) (eq_or_ne j n) in
      among_suc_other n i h ∙ has_among n i j m e) (eq_or_ne (parent_of p n) (suc i))

  -- "a summary (a parent of any activity)"
  pub summary_iff : (i : ℕ) → (summary p i ≡ true) ↔ ((j : ℕ) × (j < p.activities) × (parent_of p j ≡ suc i))
  unfolding summary
  summary_iff i = (among_has p.activities i, λ r. has_among p.activities i r.0 r.1 r.2)

  -- j is the parent of i: it is an activity with the id that i names
  pub record ParentIs (i j : ℕ) : Type 0 where
    pub some : (p.activity i).parent ≢ 0
    pub below : j < p.activities
    pub id : id_of p j ≡ (p.activity i).parent

  -- where ids are distinct, i's parent is the one activity with that id
  pub parent_by_id : DistinctIds p → (i j : ℕ) → ParentIs i j → parent_of p i ≡ suc j
  parent_by_id d i j h =
      parent_of_some i h.some ∙ ap (λ (id : ℕ). suc (index_of p id)) (sym h.id) ∙ ap suc (index_of_id p d j h.below)

  -- ---- after row 10
  module _ (parents : ParentsKnown p) where
    pub parent_le : (i : ℕ) → i < p.activities → parent_of p i ≤ p.activities
    parent_le i l =
        ⊎_elim (λ z. omega (arith, parent_of_none i z))
        (λ n. omega (arith, parent_of_some i n, index_below p (p.activity i).parent (parents i l n))) (eq_or_ne (p.activity i).parent 0)

    pub parent_is : (i j : ℕ) → i < p.activities → parent_of p i ≡ suc j → ParentIs i j
    parent_is i j l e =
        ⊎_elim (λ z. absurd (omega (arith, parent_of_none i z)))
        (λ n.
        let k = parents i l n in
        let s : index_of p (p.activity i).parent ≡ j = omega (arith, parent_of_some i n) in
        record {
          some = n;
          below = omega (arith, index_below p (p.activity i).parent k);
          id = ap (id_of p) (sym s) ∙ index_id p (p.activity i).parent k;
        }) (eq_or_ne (p.activity i).parent 0)

    -- ---- after row 12 no activity lies on a loop of parents, so that every climb ends
    module _ (summaries : SummariesFine p) where
      pub not_on_loop : (i : ℕ) → i < p.activities → ¬ (OnLoop (parent_of p) i)
      not_on_loop i l = (loop_steps_zero (parent_of p) parent_le i l).0 (summaries i l).free

      pub no_parents_loop : ¬ (ParentsLoop (parent_of p) p.activities)
      no_parents_loop o = not_on_loop o.0 o.1 o.2

      pub parents_end : (i : ℕ) → i < p.activities → climb (parent_of p) p.activities i ≡ 0
      parents_end = climb_ends (parent_of p) parent_le no_parents_loop

      -- the depth: the least number of steps up that leads to none, one more for a child than for its parent
      pub parents_deep : (i : ℕ) → i < p.activities → Deep (parent_of p) i (depth (parent_of p) p.activities i)
      parents_deep i l = depth_deep (parent_of p) p.activities i (parents_end i l)

      pub parents_depth : (i j : ℕ) → i < p.activities → parent_of p i ≡ suc j
          → depth (parent_of p) p.activities i ≡ suc (depth (parent_of p) p.activities j)
      parents_depth i j l e = depth_child (parent_of p) p.activities i j (parents_end i l) e

      pub top_depth : (i : ℕ) → i < p.activities → parent_of p i ≡ 0 → depth (parent_of p) p.activities i ≡ 1
      top_depth i l e = depth_top (parent_of p) p.activities i (parents_end i l) e
