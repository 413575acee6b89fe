-- Ids: an id that is known is one activity's, which is found by it.
use Rattle.std.specs.Prelude.{◌≡◌, refl, ◌≢◌, ◌↔◌}
use Rattle.std.proofs.Common.{sym, ◌∙◌, true≢false, add-one}
use Rattle.std.proofs.Math.Path.{ap}
use Rattle.std.proofs.Math.Bool.{true, false}
use Rattle.std.proofs.Math.Logic.{⊎_elim}
use Prim.Native.Nat.{ℕ, zero, suc, ◌+◌, ◌-◌, ◌≤◌, ◌<◌}
use native.Mathlib.Omega.{arith}
use borrow.Author.Tests.{eqb-true, eqb-false, eq-eqb, ne_eqb}
use Rattle.std.proofs.Math.Dec.{eqb}
use Rattle.number.specs.Order.{cases, lt_or_le, eq_or_ne}
use Rattle.order.specs.Plan.{Plan}
use Rattle.order.specs.Ids.{id_of, known, index_from, index_of}

module _ (p : Plan) where
  -- ---- known
  pub known_has : (n id : ℕ) → known p n id ≡ true → (j : ℕ) × (j < n) × (id_of p j ≡ id)
  unfolding known
  known_has zero id e = absurd (true≢false (sym e))
  known_has (suc n) id e =
      ⊎_elim (λ (h : eqb (id_of p n) id ≡ true). (n, omega arith, eqb-true (id_of p n) id h))
      (λ (h : eqb (id_of p n) id ≡ false). let r = known_has n id (rw h at e) in (r.0, omega (arith, r.1), r.2)) (cases (eqb (id_of p n) id))

  pub has_known : (n id j : ℕ) → j < n → id_of p j ≡ id → known p n id ≡ true
  unfolding known
  has_known zero id j l e = absurd (omega arith)
  has_known (suc n) id j l e =
      ⊎_elim (λ (h : eqb (id_of p n) id ≡ true). simp (h, known))
      (λ (h : eqb (id_of p n) id ≡ false).
      let m : j < n = ⊎_elim (λ (q : j ≡ n). absurd (eqb-false (id_of p n) id h (ap (id_of p) (sym q) ∙ e))) (λ q. omega arith) (eq_or_ne j n) in
      simp (h, known) (has_known n id j m e)) (cases (eqb (id_of p n) id))

  pub known_iff : (n id : ℕ) → (known p n id ≡ true) ↔ ((j : ℕ) × (j < n) × (id_of p j ≡ id))
  known_iff n id = (known_has n id, λ r. has_known n id r.0 r.1 r.2)

  pub unknown_iff : (n id : ℕ) → (known p n id ≡ false) ↔ ((j : ℕ) → j < n → id_of p j ≢ id)
  unknown_iff n id = (
    λ e j l h. true≢false (sym (has_known n id j l h) ∙ e),
    λ h.
        ⊎_elim (λ (e : known p n id ≡ true). let r = known_has n id e in absurd (h r.0 r.1 r.2)) (λ e. e) (cases (known p n id)),
  )

  -- ---- the activity with the id

  index_suc_hit : (k i id : ℕ) → id_of p i ≡ id → index_from p (suc k) i id ≡ i
  unfolding index_from
  index_suc_hit k i id h = let e : eqb (id_of p i) id ≡ true = eq-eqb (id_of p i) id h in simp (e, index_from)

  index_suc_miss : (k i id : ℕ) → id_of p i ≢ id → index_from p (suc k) i id ≡ index_from p k (suc i) id
  unfolding index_from
  index_suc_miss k i id h = let e : eqb (id_of p i) id ≡ false = ne_eqb (id_of p i) id h in simp (e, index_from)

  -- what remains of the search among n from i on
  pub index_start : (id : ℕ) → index_from p (p.activities - 0) 0 id ≡ index_of p id
  unfolding index_of
  index_start id = let e : p.activities - 0 ≡ p.activities = omega arith in ap (λ (k : ℕ). index_from p k 0 id) e

  pub index_end : (n i id : ℕ) → n ≤ i → index_from p (n - i) i id ≡ i
  unfolding index_from
  index_end n i id l = let e : n - i ≡ 0 = omega arith in ap (λ (k : ℕ). index_from p k i id) e

  pub index_hit : (n i id : ℕ) → i < n → id_of p i ≡ id → index_from p (n - i) i id ≡ i
  index_hit n i id l h =
      let e : n - i ≡ suc (n - (i + 1)) = omega arith in
      ap (λ (k : ℕ). index_from p k i id) e ∙ index_suc_hit (n - (i + 1)) i id h

  pub index_miss : (n i id : ℕ) → i < n → id_of p i ≢ id → index_from p (n - i) i id ≡ index_from p (n - (i + 1)) (i + 1) id
  index_miss n i id l h =
      let e : n - i ≡ suc (n - (i + 1)) = omega arith in
      ap (λ (k : ℕ). index_from p k i id) e ∙ index_suc_miss (n - (i + 1)) i id h
      ∙ ap (λ (j : ℕ). index_from p (n - (i + 1)) j id) (sym (add-one i))

  -- r is the first of the k activities from i on that has the id
  pub record FirstWith (k i id r : ℕ) : Type 0 where
    pub from : i ≤ r
    pub below : r < i + k
    pub has : id_of p r ≡ id
    pub first : (j : ℕ) → i ≤ j → j < r → id_of p j ≢ id

  pub index_first : (k i id j : ℕ) → i ≤ j → j < i + k → id_of p j ≡ id → FirstWith k i id (index_from p k i id)
  index_first zero i id j a b h = absurd (omega arith)
  index_first (suc k) i id j a b h =
      ⊎_elim
      (λ (q : id_of p i ≡ id).
      rw (index_suc_hit k i id q)
      (record { from = omega arith; below = omega arith; has = q; first = λ m g l. absurd (omega arith) }))
      (λ (q : id_of p i ≢ id).
      let c : suc i ≤ j = ⊎_elim (λ (e : i ≡ j). absurd (q (ap (id_of p) e ∙ h))) (λ e. omega arith) (eq_or_ne i j) in
      let r = index_first k (suc i) id j c (omega arith) h in
      rw (index_suc_miss k i id q)
      (record {
        from = omega (arith, r.from);
        below = omega (arith, r.below);
        has = r.has;
        first = λ m g l. ⊎_elim (λ (e : m ≡ i). rw e q) (λ e. r.first m (omega arith) l) (eq_or_ne m i);
      })) (eq_or_ne (id_of p i) id)

  module _ (id : ℕ) where
    pub index_of_lem : known p p.activities id ≡ true → FirstWith p.activities 0 id (index_of p id)
    unfolding index_of
    index_of_lem e =
        let r = known_has p.activities id e in index_first p.activities 0 id r.0 (omega arith) (omega (arith, r.1)) r.2

    pub index_below : known p p.activities id ≡ true → index_of p id < p.activities
    index_below e = omega (arith, (index_of_lem e).below)

    pub index_id : known p p.activities id ≡ true → id_of p (index_of p id) ≡ id
    index_id e = (index_of_lem e).has

  -- where ids are distinct, the activity with activity i's id is i
  -- a clause, and no type's field: it is of the plan that a sheet holds, and the sheet is handed on before and after it is judged
  abbrev pub DistinctIds : Type 0
  DistinctIds = (i j : ℕ) → i < p.activities → j < p.activities → id_of p i ≡ id_of p j → i ≡ j

  pub index_of_id : DistinctIds → (i : ℕ) → i < p.activities → index_of p (id_of p i) ≡ i
  index_of_id d i l =
      let e : known p p.activities (id_of p i) ≡ true = has_known p.activities (id_of p i) i l refl in
      d (index_of p (id_of p i)) i (index_below (id_of p i) e) l (index_id (id_of p i) e)

  -- ids are distinct where none was met before
  pub distinct_ids_lem : ((i : ℕ) → i < p.activities → known p i (id_of p i) ≡ false) → DistinctIds
  distinct_ids_lem h i j a b e =
      ⊎_elim (λ (l : i < j). absurd ((unknown_iff j (id_of p j)).0 (h j b) i l e))
      (λ l.
      ⊎_elim (λ (m : j < i). absurd ((unknown_iff i (id_of p i)).0 (h i a) j m (sym e))) (λ m. omega arith) (lt_or_le j i)) (lt_or_le i j)
