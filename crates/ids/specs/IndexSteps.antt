-- What the memory holds as activities come into the index.
use Rattle.std.specs.Prelude.{◌≡◌, refl, ◌≢◌, ℕ, ◌+◌, ◌%◌, ◌≤◌, ◌<◌, pos, Ok}
use Rattle.std.proofs.Common.{sym, ap, subst, ◌∙◌, inl, inr, ⊎_elim, arith, add-one}
use Rattle.number.specs.Order.{eq_or_ne, lt_or_le}
use Rattle.memory.specs.State.{State, put_act, fill_act}
use Rattle.memory.specs.Seen.{state}
use Rattle.memory.specs.declared.Tables.{Tables}
use Rattle.memory.specs.StateLaws.{act_same, act_row, act_field, act_past, fill_act_lem}
use Rattle.order.specs.Plan.{Plan}
use Rattle.order.specs.Ids.{id_of}
use Rattle.order.specs.Checks.{judge_activity}
use Rattle.order.proofs.CheckLaws.{activity_fine_lem}
use Rattle.ids.specs.Tree.{Children, Vacant, at_root, at_child, Leaf}
use Rattle.ids.specs.TreeLaws.{trees_none, trees_same, vacant_same, trees_more}
use Rattle.memory.specs.Fields.{low_child, high_child, root}
use Rattle.ids.specs.Index.{InTrees, PlaceFor, Indexed}
use Rattle.ids.specs.Lent.{KeptBut}
use Rattle.ids.specs.Answers.{Answered, OfIndex, IndexedBy}
use Rattle.ids.specs.AnswerLaws.{fine_number}
use Rattle.ids.specs.LentLaws.{kept_then, kept_put, kept_fill}

-- ---- no roots
module _ (t : Tables) (S : State) (a : ℕ) (d : t.activities ≡ a) (e : state t ≡ fill_act S root a 0) where
  no_roots : (r : ℕ) → (state t).act root r ≡ 0
  unfolding state
  no_roots r =
      ⊎_elim (λ (h : r < a). ap (λ (W : State). W.act root r) e ∙ fill_act_lem S root 0 a r h)
      (λ (h : a ≤ r). act_past t.activities t.links t.cells.now root r (omega arith)) (lt_or_le r a)

  pub index_none : (p : Plan) → Indexed p (state t) 0
  index_none p = record {
    trees = trees_none (id_of p) p.activities (state t).act no_roots;
    fresh = λ m q. absurd (omega arith);
  }

  pub none_kept : KeptBut OfIndex S (state t)
  none_kept = subst (KeptBut OfIndex S) (sym e) (kept_fill OfIndex root (inr (inr refl)) S a 0)

-- ---- activity i is a leaf
module _ (S : State) (i : ℕ) where
  -- as the code puts it
  abbrev with_leaf : State
  with_leaf = put_act (put_act S low_child i 0) high_child i 0

  leaf : Leaf with_leaf.act i
  leaf b l =
      ⊎_elim (λ (e : b ≡ high_child). rw e (act_same (put_act S low_child i 0) high_child i (pos 0)))
      (λ (n : b ≢ high_child).
      let e : b ≡ low_child = omega arith in
      rw e (act_same S low_child i (pos 0)))
      (eq_or_ne b high_child)

  leaf_rows : (b j : ℕ) → j ≢ i → with_leaf.act b j ≡ S.act b j
  leaf_rows b j n = act_row (put_act S low_child i 0) high_child i (pos 0) b j n ∙ act_row S low_child i (pos 0) b j n

  leaf_kept : KeptBut OfIndex S with_leaf
  leaf_kept = kept_then OfIndex (kept_put OfIndex low_child (inl refl) S i 0) (kept_put OfIndex high_child (inr (inl refl)) (put_act S low_child i 0) i 0)

-- where an activity comes in is a field of the index
place_field : {a : ℕ} {t : Children} {i d parent side : ℕ} → Vacant a t i d parent side → OfIndex side
place_field (at_root e) = inr (inr refl)
place_field (at_child {left} l e w) =
    ⊎_elim (λ (z : left % 2 ≡ low_child). inl z) (λ (z : left % 2 ≢ low_child). inr (inl (omega arith))) (eq_or_ne (left % 2) low_child)

-- ---- the index as the code puts activity i into it
module _ (p : Plan) (S R T U : State) (i : ℕ) (I : Indexed p S i) (low : R ≡ put_act S low_child i 0) (high : T ≡ put_act R high_child i 0) where
  is_leaf : T ≡ with_leaf S i
  is_leaf = high ∙ ap (λ (W : State). put_act W high_child i 0) low

  rows_same : (b j : ℕ) → b < 2 → j < i → T.act b j ≡ S.act b j
  rows_same b j c l = ap (λ (W : State). W.act b j) is_leaf ∙ leaf_rows S i b j (λ e. omega arith)

  roots_same : (r : ℕ) → T.act root r ≡ S.act root r
  roots_same r = ap (λ (W : State). W.act root r) is_leaf

  module _ (parent side : ℕ) (place : PlaceFor p S i (id_of p i) parent side) (e : U ≡ put_act T side parent (i + 1)) where
    trees : InTrees p U (i + 1)
    trees =
        let X : State = put_act T side parent (i + 1) in
        let L : Leaf T.act i = subst (λ (W : State). Leaf W.act i) (sym is_leaf) (leaf S i) in
        let other : (b j : ℕ) → (b ≡ side → j ≡ parent → ⊥) → X.act b j ≡ T.act b j =
        λ b j n.
        ⊎_elim (λ (z : b ≡ side). act_row T side parent (pos (i + 1)) b j (n z))
        (λ (z : b ≢ side). ap (λ (c : ℕ → ℕ). c j) (act_field T side parent (pos (i + 1)) b z)) (eq_or_ne b side) in
        subst (λ (W : State). InTrees p W (i + 1)) (sym e)
        (trees_more (id_of p) p.activities (trees_same (id_of p) p.activities I.trees T.act rows_same roots_same) L
        (vacant_same (id_of p) p.activities I.trees T.act rows_same roots_same place) X.act
        (act_same T side parent (pos (i + 1)) ∙ add-one i) other)

    kept : KeptBut OfIndex S U
    kept =
        kept_then OfIndex (subst (KeptBut OfIndex S) (sym is_leaf) (leaf_kept S i))
        (subst (KeptBut OfIndex T) (sym e) (kept_put OfIndex side (place_field place) T parent (i + 1)))

    -- the trees have one activity more, and row 6 did not refuse its id
    pub indexed_more : {X Y : Type 0} {x : X} → Answered (Ok x) (judge_activity p i) → (y : Y) → IndexedBy p (i + 1) S U (Ok y)
    indexed_more A y =
        let new = ((activity_fine_lem p i).0 (fine_number A)).new in record {
          kept = kept;
          holds = record {
            trees = trees;
            fresh = λ m l. ⊎_elim (λ (q : m ≡ i). rw q new) (λ (n : m ≢ i). I.fresh m (omega arith)) (eq_or_ne m i);
          };
        }
