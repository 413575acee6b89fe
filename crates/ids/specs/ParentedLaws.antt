-- Parents in the memory: none, and one activity more, with none, an unknown or a known parent.
use Rattle.std.specs.Prelude.{◌≡◌, refl, true, ◌≢◌, ℕ, suc, ◌+◌, ◌<◌, pos}
use Rattle.std.proofs.Common.{sym, ap, subst, ◌∙◌, inl, inr, ⊎_elim, arith, add-one}
use Rattle.number.specs.Order.{eq_or_ne}
use Rattle.memory.specs.State.{State, put_act, fill_act}
use Rattle.memory.specs.StateLaws.{act_same, act_row, fill_act_lem}
use Rattle.memory.specs.Fields.{parent, is_summary, root}
use Rattle.order.specs.Plan.{Plan}
use Rattle.order.specs.Ids.{id_of, known, index_of, parent_of}
use Rattle.order.specs.IdLaws.{DistinctIds}
use Rattle.order.specs.Checks.{refuse, fine, judge_parent}
use Rattle.order.proofs.CheckLaws.{parent_none, parent_unknown, parent_passes}
use Rattle.order.specs.ParentLaws.{parent_of_none, parent_of_some, among_none, among_child, among_other}
use Rattle.ids.specs.TreeLaws.{trees_same}
use Rattle.ids.specs.Index.{Indexed, found_in}
use Rattle.ids.specs.IndexLaws.{found_known, found_unknown, found_index}
use Rattle.ids.specs.Lent.{KeptBut}
use Rattle.ids.specs.Answers.{OfParents}
use Rattle.ids.specs.LentLaws.{kept_then, kept_put, kept_fill}
use Rattle.number.specs.Bit.{bit}
use Rattle.ids.specs.Parented.{Parented}

module _ (p : Plan) where
  -- the index stays
  pub indexed_kept : {S T : State} {n : ℕ} → KeptBut OfParents S T → Indexed p S n → Indexed p T n
  indexed_kept {S} {T} {n} K I = record {
    trees =
        trees_same (id_of p) p.activities I.trees T.act
        (λ b j c l. ap (λ (r : ℕ → ℕ). r j) (K.acts b (λ e. ⊎_elim (λ (z : b ≡ parent). omega arith) (λ (z : b ≡ is_summary). omega arith) e)))
        (λ r. ap (λ (q : ℕ → ℕ). q r) (K.acts root (λ e. ⊎_elim (λ (z : root ≡ parent). omega arith) (λ (z : root ≡ is_summary). omega arith) e)));
    fresh = I.fresh;
  }

  -- ---- no marks
  module _ (S T : State) (e : T ≡ fill_act S is_summary p.activities 0) where
    pub unmarked : Parented p T 0
    unmarked =
        subst (λ (W : State). Parented p W 0) (sym e)
        (record {
          parents = λ i l. absurd (omega arith);
          marks = λ j l. fill_act_lem S is_summary 0 p.activities j l ∙ ap bit (sym (among_none p j));
        })

    pub unmarked_kept : KeptBut OfParents S T
    unmarked_kept = subst (KeptBut OfParents S) (sym e) (kept_fill OfParents is_summary (inr refl) S p.activities 0)

  -- ---- one activity more
  module _ (S : State) (i : ℕ) (P : Parented p S i) (id : ℕ) (d : id ≡ (p.activity i).parent) where
    module _ (z : id ≡ 0) where
      pub top_fine : fine ≡ judge_parent p i
      top_fine = sym (parent_none p i (sym d ∙ z))

      module _ (T : State) (e : T ≡ put_act S parent i 0) where
        pub top_kept : KeptBut OfParents S T
        top_kept = subst (KeptBut OfParents S) (sym e) (kept_put OfParents parent (inl refl) S i 0)

        pub top_parented : Parented p T (i + 1)
        top_parented =
            let q = parent_of_none p i (sym d ∙ z) in
            subst (λ (W : State). Parented p W (i + 1)) (sym e)
            (record {
              parents =
                  λ j l.
                  ⊎_elim (λ (h : j ≡ i). rw (h, act_same S parent i (pos 0)) (sym q))
                  (λ (h : j ≢ i). act_row S parent i (pos 0) parent j h ∙ P.parents j (omega arith)) (eq_or_ne j i);
              marks = λ j l. P.marks j l ∙ ap bit (sym (among_other p i j (λ h. omega arith)));
            })

    module _ (some : id ≢ 0) (j : ℕ) (g : j ≡ found_in p p.activities id) where
      named : (p.activity i).parent ≢ 0
      named h = some (d ∙ h)

      pub unknown_refused : j ≡ p.activities → refuse 10 (id_of p i) ≡ judge_parent p i
      unknown_refused h =
          sym (parent_unknown p i named (ap (known p p.activities) (sym d) ∙ found_unknown p p.activities id (omega arith) (sym g ∙ h)))

      module _ (l : j < p.activities) where
        met : known p p.activities id ≡ true
        met = found_known p p.activities id (omega arith) (omega arith)

        pub known_fine : fine ≡ judge_parent p i
        known_fine = sym (parent_passes p i named (ap (known p p.activities) (sym d) ∙ met))

        module _ (D : DistinctIds p) where
          above : parent_of p i ≡ suc j
          above = parent_of_some p i named ∙ ap (λ (x : ℕ). suc (index_of p x)) (sym d) ∙ ap suc (sym (g ∙ found_index p D id met))

          module _ (T U : State) (t : T ≡ put_act S parent i (j + 1)) (u : U ≡ put_act T is_summary j 1) where
            both : U ≡ put_act (put_act S parent i (j + 1)) is_summary j 1
            both = u ∙ ap (λ (W : State). put_act W is_summary j 1) t

            pub known_kept : KeptBut OfParents S U
            known_kept =
                subst (KeptBut OfParents S) (sym both)
                (kept_then OfParents (kept_put OfParents parent (inl refl) S i (j + 1)) (kept_put OfParents is_summary (inr refl) (put_act S parent i (j + 1)) j 1))

            pub known_parented : Parented p U (i + 1)
            known_parented =
                let W : State = put_act S parent i (j + 1) in
                subst (λ (X : State). Parented p X (i + 1)) (sym both)
                (record {
                  parents =
                      λ m b.
                      ⊎_elim (λ (h : m ≡ i). rw (h, act_same S parent i (pos (j + 1))) (add-one j ∙ sym above))
                      (λ (h : m ≢ i). act_row S parent i (pos (j + 1)) parent m h ∙ P.parents m (omega arith)) (eq_or_ne m i);
                  marks =
                      λ m b.
                      ⊎_elim (λ (h : m ≡ j). rw (h, act_same W is_summary j (pos 1)) (ap bit (sym (among_child p i j above))))
                      (λ (h : m ≢ j).
                      act_row W is_summary j (pos 1) is_summary m h ∙ P.marks m b ∙ ap bit (sym (among_other p i m (λ k. h (omega (arith, above))))))
                      (eq_or_ne m j);
                })
