-- Loops of parents as rows: the activities upward from one on a loop are a loop of the links to parents, and those links close no other.
use Rattle.std.specs.Prelude.{◌≡◌, ◌⊎◌, ◌≢◌, ◌↔◌, length, get_or}
use Rattle.std.proofs.Math.Path.{refl, ap}
use Rattle.std.proofs.Common.{sym, ◌∙◌, inl, inr, get_or-append-add}
use Rattle.std.proofs.Math.Logic.{⊎_elim}
use mathlib.Core.List.{List, [], ◌∷◌, ◌++◌}
use Prim.Native.Nat.{ℕ, zero, suc, ◌+◌, ◌-◌, ◌≤◌, ◌<◌}
use native.Mathlib.Omega.{arith}
use Rattle.std.proofs.Math.ListN.{length-append, get_or-append}
use Rattle.std.proofs.lemmas.List.{get_or_at}
use Rattle.number.specs.Order.{lt_or_le, eq_or_ne}
use Rattle.network.specs.Links.{Link, no_link, Linked, Row, Loop, CloseLoop}
use Rattle.network.specs.Pending.{Ranged}
use Rattle.network.specs.Parents.{climb, OnLoop, loop_steps, upward}
use Rattle.network.specs.ParentLinks.{to_parent, parent_links, ParentsLoop, first_on_loop, parent_loop}
use Rattle.network.proofs.GoingBack.{First}
use Rattle.network.specs.Climbing.{pos_suc, climb_zero, climb_first, climb_next, climb_pos, climb_le}
use Rattle.network.proofs.ParentLoops.{loop_steps_back, loop_steps_le, first_on_loop_lem, on_loop_steps}

-- ---- links in two lists

pub linked_left : {ls : List Link} (ms : List Link) {i j : ℕ} → Linked ls i j → Linked (ls ++ ms) i j
linked_left {ls} ms e = record {
  place = e.place;
  within = omega (arith, length-append ls ms, e.within);
  leaves = ap (λ (l : Link). l.from) (get_or-append ls ms no_link e.place e.within) ∙ e.leaves;
  enters = ap (λ (l : Link). l.to) (get_or-append ls ms no_link e.place e.within) ∙ e.enters;
}

pub linked_right : (ls : List Link) {ms : List Link} {i j : ℕ} → Linked ms i j → Linked (ls ++ ms) i j
linked_right ls {ms} e = record {
  place = length ls + e.place;
  within = omega (arith, length-append ls ms, e.within);
  leaves = ap (λ (l : Link). l.from) (get_or-append-add ls ms e.place no_link) ∙ e.leaves;
  enters = ap (λ (l : Link). l.to) (get_or-append-add ls ms e.place no_link) ∙ e.enters;
}

pub linked_cases : (ls ms : List Link) {i j : ℕ} → Linked (ls ++ ms) i j → Linked ls i j ⊎ Linked ms i j
linked_cases ls ms e =
    ⊎_elim
    (λ l. inl (record {
      place = e.place;
      within = l;
      leaves = ap (λ (l : Link). l.from) (sym (get_or-append ls ms no_link e.place l)) ∙ e.leaves;
      enters = ap (λ (l : Link). l.to) (sym (get_or-append ls ms no_link e.place l)) ∙ e.enters;
    }))
    (λ l.
    let s : length ls + (e.place - length ls) ≡ e.place = omega arith in
    let g : get_or ms (e.place - length ls) no_link ≡ get_or (ls ++ ms) e.place no_link =
    sym (get_or-append-add ls ms (e.place - length ls) no_link) ∙ ap (λ (p : ℕ). get_or (ls ++ ms) p no_link) s in
    inr (record {
      place = e.place - length ls;
      within = omega (arith, e.within, length-append ls ms);
      leaves = ap (λ (l : Link). l.from) g ∙ e.leaves;
      enters = ap (λ (l : Link). l.to) g ∙ e.enters;
    })) (lt_or_le e.place (length ls))

-- ---- the links to parents

to_parent_linked : (i y p : ℕ) → y ≡ suc p → Linked (to_parent i y) i p
unfolding to_parent
to_parent_linked i zero p e = absurd (omega arith)
to_parent_linked i (suc q) p e = record { place = 0; within = omega arith; leaves = refl; enters = omega arith }

linked_to_parent : (i y a b : ℕ) → Linked (to_parent i y) a b → (a ≡ i) × (y ≡ suc b)
unfolding to_parent
linked_to_parent i zero a b e = absurd (omega (arith, e.within))
linked_to_parent i (suc q) a b e = go e.place e.within e.leaves e.enters
  where
    go : (k : ℕ) → k < 1 → (get_or (record { from = i; to = q } ∷ []) k no_link).from ≡ a → (get_or (record { from = i; to = q } ∷ []) k no_link).to ≡ b
        → (a ≡ i) × (suc q ≡ suc b)
    go zero l f t = (sym f, ap suc t)
    go (suc k) l f t = absurd (omega arith)

module _ (parent : ℕ → ℕ) where
  pub parent_linked : (n i p : ℕ) → i < n → parent i ≡ suc p → Linked (parent_links parent n) i p
  unfolding parent_links
  parent_linked zero i p l e = absurd (omega arith)
  parent_linked (suc n) i p l e =
      ⊎_elim (λ (q : i ≡ n). linked_right (parent_links parent n) (rw q (to_parent_linked n (parent n) p (ap parent (sym q) ∙ e))))
      (λ (q : i ≢ n). linked_left (to_parent n (parent n)) (parent_linked n i p (omega arith) e)) (eq_or_ne i n)

  pub linked_parent : (n i p : ℕ) → Linked (parent_links parent n) i p → (i < n) × (parent i ≡ suc p)
  unfolding parent_links
  linked_parent zero i p e = absurd (omega (arith, e.within))
  linked_parent (suc n) i p e =
      ⊎_elim (λ l. let r = linked_parent n i p l in (omega arith, r.1))
      (λ l. let r = linked_to_parent n (parent n) i p l in (omega arith, ap parent r.0 ∙ r.1))
      (linked_cases (parent_links parent n) (to_parent n (parent n)) e)

  -- ---- upward

  pub length_upward : (k i : ℕ) → length (upward parent k i) ≡ k + 1
  unfolding upward
  length_upward zero i = refl
  length_upward (suc k) i = omega (arith, length-append (upward parent k i) ((climb parent (suc k) i - 1) ∷ []), length_upward k i)

  -- the activity p steps up stands at p
  pub upward_at : (k i p : ℕ) → p ≤ k → get_or (upward parent k i) p 0 ≡ climb parent p i - 1
  unfolding upward
  upward_at zero i p l =
      let z : p ≡ 0 = omega arith in rw z (omega (arith, climb_zero parent i))
  upward_at (suc k) i p l =
      ⊎_elim (λ (q : p ≡ suc k). rw q (get_or_at (upward parent k i) (climb parent (suc k) i - 1) [] 0 (suc k) (omega (arith, length_upward k i))))
      (λ (q : p ≢ suc k).
      get_or-append (upward parent k i) ((climb parent (suc k) i - 1) ∷ []) 0 p (omega (arith, length_upward k i)) ∙ upward_at k i p (omega arith))
      (eq_or_ne p (suc k))

-- where each place is linked to the next, it is a row
pub row_places : (links : List Link) (xs : List ℕ) → ((p : ℕ) → suc p < length xs → Linked links (get_or xs p 0) (get_or xs (suc p) 0)) → Row links xs
row_places links [] h = tt
row_places links (x ∷ []) h = tt
row_places links (x ∷ y ∷ ys) h = (h 0 (omega arith), row_places links (y ∷ ys) (λ p l. h (suc p) (omega arith)))

module _ (parent : ℕ → ℕ) {n : ℕ} (below : (i : ℕ) → i < n → parent i ≤ n) where
  pub parent_ranged : Ranged (parent_links parent n) n
  parent_ranged = record {
    leaves = λ k l. (linked_parent parent n (get_or (parent_links parent n) k no_link).from (get_or (parent_links parent n) k no_link).to (whole k l)).0;
    enters = λ k l.
        let r = linked_parent parent n (get_or (parent_links parent n) k no_link).from (get_or (parent_links parent n) k no_link).to (whole k l) in
        omega (arith, r.1, below (get_or (parent_links parent n) k no_link).from r.0);
  }
    where
      whole : (k : ℕ) → k < length (parent_links parent n)
          → Linked (parent_links parent n) (get_or (parent_links parent n) k no_link).from (get_or (parent_links parent n) k no_link).to
      whole k l = record { place = k; within = l; leaves = refl; enters = refl }

  -- k steps up, each to a parent
  pub upward_row : (k i : ℕ) → i < n → 0 < climb parent k i → Row (parent_links parent n) (upward parent k i)
  upward_row k i l q =
      row_places (parent_links parent n) (upward parent k i)
      (λ p h.
      let b : suc p ≤ k = omega (arith, length_upward parent k i) in
      let u : 0 < climb parent p i = climb_pos parent p k i (omega arith) q in
      let v : 0 < climb parent (suc p) i = climb_pos parent (suc p) k i b q in
      let w : parent (climb parent p i - 1) ≡ suc (climb parent (suc p) i - 1) =
      sym (climb_next parent p i (climb parent p i - 1) (pos_suc (climb parent p i) u)) ∙ pos_suc (climb parent (suc p) i) v in
      rw (upward_at parent k i p (omega arith), upward_at parent k i (suc p) b)
      (parent_linked parent n (climb parent p i - 1) (climb parent (suc p) i - 1) (omega (arith, climb_le parent below p i l)) w))

  -- and back to i: i stands first and last, and it is a loop
  pub upward_loop : (k i : ℕ) → i < n → 0 < k → climb parent k i ≡ suc i → Loop (parent_links parent n) (upward parent k i)
  upward_loop k i l p e =
      let s : length (upward parent k i) - 1 ≡ k = omega (arith, length_upward parent k i) in record {
        long = omega (arith, length_upward parent k i);
        closed =
            ap (λ (m : ℕ). get_or (upward parent k i) m 0) s ∙ upward_at parent k i k (omega arith)
            ∙ ap (λ (m : ℕ). m - 1) (e ∙ sym (climb_zero parent i)) ∙ sym (upward_at parent k i 0 (omega arith));
        row = upward_row k i l (omega arith);
      }

  -- each of it one of n
  pub upward_below : (k i p : ℕ) → i < n → p ≤ k → 0 < climb parent k i → get_or (upward parent k i) p 0 < n
  upward_below k i p l h q =
      omega (arith, upward_at parent k i p h, climb_le parent below p i l, climb_pos parent p k i h q)

  -- ---- the two ways of saying that parents close a loop

  row_climb : (x : ℕ) (ys : List ℕ) → Row (parent_links parent n) (x ∷ ys) → climb parent (length ys) x ≡ suc (get_or (x ∷ ys) (length ys) 0)
  row_climb x [] r = climb_zero parent x
  row_climb x (y ∷ ys) r =
      climb_first parent (length ys) x y (linked_parent parent n x y r.0).1 ∙ row_climb y ys r.1

  loop_on : (xs : List ℕ) → Loop (parent_links parent n) xs → ParentsLoop parent n
  loop_on [] w = absurd (omega (arith, w.long))
  loop_on (x ∷ []) w = absurd (omega (arith, w.long))
  loop_on (x ∷ y ∷ ys) w =
      let s : suc (suc (length ys)) - 1 ≡ suc (length ys) = omega arith in
      let closed : get_or (x ∷ y ∷ ys) (suc (length ys)) 0 ≡ x = ap (λ (k : ℕ). get_or (x ∷ y ∷ ys) k 0) (sym s) ∙ w.closed in (
        x,
        (linked_parent parent n x y w.row.0).0,
        record { steps = suc (length ys); some = omega arith; back = row_climb x (y ∷ ys) w.row ∙ ap suc closed },
      )

  pub parents_close_iff : CloseLoop (parent_links parent n) ↔ ParentsLoop parent n
  parents_close_iff = (
    λ w. loop_on w.0 w.1,
    λ o. (upward parent o.2.steps o.0, upward_loop o.2.steps o.0 o.1 o.2.some o.2.back),
  )

  -- ---- the loop that is named

  module _ (o : ParentsLoop parent n) where
    first : First [] (loop_steps parent n) n 0 (first_on_loop parent n)
    first = first_on_loop_lem parent below o.0 o.1 o.2

    pub parent_loop_lem : Loop (parent_links parent n) (parent_loop parent n)
    unfolding parent_loop
    parent_loop_lem =
        upward_loop (loop_steps parent n (first_on_loop parent n)) (first_on_loop parent n) (omega (arith, first.below)) first.waits
        (loop_steps_back parent n (first_on_loop parent n) first.waits)

    pub parent_loop_first : get_or (parent_loop parent n) 0 0 ≡ first_on_loop parent n
    unfolding parent_loop
    parent_loop_first =
        omega (arith, upward_at parent (loop_steps parent n (first_on_loop parent n)) (first_on_loop parent n) 0 (omega arith), climb_zero parent (first_on_loop parent n))

    pub parent_loop_le : length (parent_loop parent n) ≤ n + 1
    unfolding parent_loop
    parent_loop_le =
        omega (arith, length_upward parent (loop_steps parent n (first_on_loop parent n)) (first_on_loop parent n), loop_steps_le parent n (first_on_loop parent n))

    -- no activity before the first lies on a loop
    pub parent_loop_least : (i : ℕ) → i < first_on_loop parent n → ¬ (OnLoop parent i)
    parent_loop_least i l w = omega (arith, first.first i (omega arith) l, on_loop_steps parent below i (omega (arith, first.below)) w)
