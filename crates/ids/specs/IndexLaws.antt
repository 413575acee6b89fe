-- What is found by an id: the last of the first activities that has it.
use Rattle.std.specs.Prelude.{◌≡◌, ◌≢◌}
use Rattle.std.proofs.Math.Path.{refl}
use Rattle.std.proofs.Common.{sym, ap, ◌∙◌, ⊎_elim, arith}
use Rattle.std.proofs.Math.Bool.{true, false}
use Prim.Native.Nat.{ℕ, zero, suc, ◌≤◌, ◌<◌}
use borrow.Author.Tests.{eq-eqb, ne_eqb}
use Rattle.std.proofs.Math.Dec.{eqb}
use Rattle.number.specs.Order.{cases, eq_or_ne}
use Rattle.order.specs.Plan.{Plan}
use Rattle.order.specs.Ids.{id_of, known, index_of}
use Rattle.order.specs.IdLaws.{DistinctIds, known_has, unknown_iff, index_of_id}
use Rattle.ids.specs.Index.{found_in}

module _ (p : Plan) where
  -- ---- the search
  found_suc_hit : (n id : ℕ) → id_of p n ≡ id → found_in p (suc n) id ≡ n
  unfolding found_in
  found_suc_hit n id h = let e : eqb (id_of p n) id ≡ true = eq-eqb (id_of p n) id h in simp (e, found_in)

  found_suc_miss : (n id : ℕ) → id_of p n ≢ id → found_in p (suc n) id ≡ found_in p n id
  unfolding found_in
  found_suc_miss n id h = let e : eqb (id_of p n) id ≡ false = ne_eqb (id_of p n) id h in simp (e, found_in)

  pub found_at : (n id j : ℕ) → j < n → id_of p j ≡ id → ((m : ℕ) → suc j ≤ m → m < n → id_of p m ≢ id) → found_in p n id ≡ j
  found_at zero id j l e h = absurd (omega arith)
  found_at (suc n) id j l e h =
      ⊎_elim (λ (q : n ≡ j). found_suc_hit n id (ap (id_of p) q ∙ e) ∙ q)
      (λ (q : n ≢ j). found_suc_miss n id (h n (omega arith) (omega arith)) ∙ found_at n id j (omega arith) e (λ m a b. h m a (omega arith)))
      (eq_or_ne n j)

  pub found_none : (n id : ℕ) → ((m : ℕ) → m < n → id_of p m ≢ id) → found_in p n id ≡ p.activities
  unfolding found_in
  found_none zero id h = refl
  found_none (suc n) id h = found_suc_miss n id (h n (omega arith)) ∙ found_none n id (λ m l. h m (omega arith))

  -- ---- what is found
  pub record Found (n id r : ℕ) : Type 0 where
    pub below : r < n
    pub has : id_of p r ≡ id

  pub known_found : (n id : ℕ) → known p n id ≡ true → Found n id (found_in p n id)
  known_found n id e = let r = known_has p n id e in go n r.0 r.1 r.2
    where
      go : (n j : ℕ) → j < n → id_of p j ≡ id → Found n id (found_in p n id)
      go zero j l h = absurd (omega arith)
      go (suc n) j l h =
          ⊎_elim (λ (q : id_of p n ≡ id). rw (found_suc_hit n id q) (record { below = omega arith; has = q }))
          (λ (q : id_of p n ≢ id).
          let m : j < n = ⊎_elim (λ (z : j ≡ n). absurd (q (ap (id_of p) (sym z) ∙ h))) (λ z. omega arith) (eq_or_ne j n) in
          let r = go n j m h in rw (found_suc_miss n id q) (record { below = omega (arith, r.below); has = r.has })) (eq_or_ne (id_of p n) id)

  pub unknown_found : (n id : ℕ) → known p n id ≡ false → found_in p n id ≡ p.activities
  unknown_found n id e = found_none n id ((unknown_iff p n id).0 e)

  module _ (n id : ℕ) (within : n ≤ p.activities) where
    pub found_known : found_in p n id < p.activities → known p n id ≡ true
    found_known l = ⊎_elim (λ e. e) (λ e. absurd (omega (arith, unknown_found n id e))) (cases (known p n id))

    pub found_unknown : found_in p n id ≡ p.activities → known p n id ≡ false
    found_unknown h = ⊎_elim (λ e. absurd (omega (arith, (known_found n id e).below))) (λ e. e) (cases (known p n id))

    pub found_le : found_in p n id ≤ p.activities
    found_le =
        ⊎_elim (λ e. omega (arith, (known_found n id e).below)) (λ e. omega (arith, unknown_found n id e)) (cases (known p n id))

  -- where ids are distinct, it is the activity with the id
  pub found_index : DistinctIds p → (id : ℕ) → known p p.activities id ≡ true → found_in p p.activities id ≡ index_of p id
  found_index d id e =
      let f = known_found p.activities id e in
      sym (index_of_id p d (found_in p p.activities id) f.below) ∙ ap (index_of p) f.has
