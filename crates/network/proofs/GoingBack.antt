-- The way back from an activity that waits, along predecessors that wait: each step is a link, and in n steps one comes again.
use Rattle.std.specs.Prelude.{◌≡◌, refl, true, false, ◌⊎◌, ◌≢◌}
use Rattle.std.proofs.Common.{sym, ◌∙◌, arith}
use Rattle.std.proofs.Math.Path.{ap}
use Rattle.std.proofs.Math.Logic.{inl, inr, ⊎_elim}
use mathlib.Core.List.{List, [], ◌∷◌}
use Prim.Native.Nat.{ℕ, zero, suc, ◌+◌, ◌≤◌, ◌<◌}
use borrow.Author.Tests.{eq-eqb, ne_eqb}
use Rattle.number.specs.Order.{eq_or_ne, zero_or_pos}
use Rattle.network.specs.Links.{Link, Linked}
use Rattle.network.specs.Kahn.{first_waiting, waiting_before, member, up_to}
use Rattle.network.specs.Times.{same, same_eq, same_ne, same_cases, times}
use Rattle.network.specs.Pending.{sent}
use Rattle.network.specs.PendingLaws.{gate_one, gate_zero, linked_cons}

-- what follows of the first that waits, over any links
module _ (links : List Link) (c : ℕ → ℕ) where
  pub first_waiting_skip : (k i : ℕ) → c i ≡ 0 → first_waiting links c (suc k) i ≡ first_waiting links c k (suc i)
  unfolding first_waiting
  first_waiting_skip k i e = simp (first_waiting, eq-eqb (c i) 0 e)

  pub first_waiting_here : (k i : ℕ) → 0 < c i → first_waiting links c (suc k) i ≡ i
  unfolding first_waiting
  first_waiting_here k i p = simp (first_waiting, ne_eqb (c i) 0 (λ e. omega arith))

  pub record First (k i r : ℕ) : Type 0 where
    pub waits : 0 < c r
    pub from : i ≤ r
    pub below : r < i + k
    pub first : (j : ℕ) → i ≤ j → j < r → c j ≡ 0

  -- where one of the k from i on waits, the first of them is found
  pub first_waiting_first : (k i j : ℕ) → i ≤ j → j < i + k → 0 < c j → First k i (first_waiting links c k i)
  first_waiting_first zero i j a b p = absurd (omega arith)
  first_waiting_first (suc k) i j a b p =
      ⊎_elim
      (λ (z : c i ≡ 0).
      let n : j ≢ i = λ e. omega (arith, ap c e) in
      let r = first_waiting_first k (suc i) j (omega arith) (omega arith) p in
      rw (first_waiting_skip k i z) (record {
        waits = r.waits;
        from = omega (arith, r.from);
        below = omega (arith, r.below);
        first = λ m g h. ⊎_elim (λ (e : m ≡ i). ap c e ∙ z) (λ (e : m ≢ i). r.first m (omega arith) h) (eq_or_ne m i);
      }))
      (λ (z : 0 < c i). rw (first_waiting_here k i z) (record { waits = z; from = omega arith; below = omega arith; first = λ m g h. absurd (omega arith) }))
      (zero_or_pos (c i))

  -- what is found waits, or none of them does
  pub first_waiting_none : (k i : ℕ) → (0 < c (first_waiting links c k i)) ⊎ (first_waiting links c k i ≡ i + k)
  unfolding first_waiting
  first_waiting_none zero i = inr (omega arith)
  first_waiting_none (suc k) i =
      ⊎_elim
      (λ (z : c i ≡ 0).
      ⊎_elim (λ p. inl (rw (first_waiting_skip k i z) p)) (λ e. inr (first_waiting_skip k i z ∙ e ∙ omega arith)) (first_waiting_none k (suc i)))
      (λ (z : 0 < c i). inl (rw (first_waiting_here k i z) z)) (zero_or_pos (c i))

  -- ---- the first predecessor that waits

  pub waiting_before_here : (l : Link) (ls : List Link) (x : ℕ) → l.to ≡ x → 0 < c l.from → waiting_before links c (l ∷ ls) x ≡ l.from
  unfolding waiting_before
  waiting_before_here l ls x e p = simp (waiting_before, eq-eqb l.to x e, ne_eqb (c l.from) 0 (λ z. omega arith))

  pub waiting_before_other : (l : Link) (ls : List Link) (x : ℕ) → l.to ≢ x → waiting_before links c (l ∷ ls) x ≡ waiting_before links c ls x
  unfolding waiting_before
  waiting_before_other l ls x e = simp (waiting_before, ne_eqb l.to x e)

  pub waiting_before_out : (l : Link) (ls : List Link) (x : ℕ) → l.to ≡ x → c l.from ≡ 0 → waiting_before links c (l ∷ ls) x ≡ waiting_before links c ls x
  unfolding waiting_before
  waiting_before_out l ls x e z = simp (waiting_before, eq-eqb l.to x e, eq-eqb (c l.from) 0 z)

  -- where some predecessor of x waits, one is found that does
  pub waiting_before_linked : (ls : List Link) (x i : ℕ) → 0 < sent i ls x → 0 < c i → Linked ls (waiting_before links c ls x) x × (0 < c (waiting_before links c ls x))
  unfolding sent
  waiting_before_linked [] x i s p = absurd (omega arith)
  waiting_before_linked (l ∷ ls) x i s p =
      let m = same l.from i in
      ⊎_elim
      (λ (t : l.to ≡ x).
      ⊎_elim
      (λ (z : c l.from ≡ 0).
      let n : l.from ≢ i = λ e. omega (arith, ap c e) in
      let r = waiting_before_linked ls x i (omega (arith, gate_one m (same_eq (sym t)), same_ne n)) p in
      rw (waiting_before_out l ls x t z) (linked_cons r.0, r.1))
      (λ (z : 0 < c l.from). rw (waiting_before_here l ls x t z) (record { place = 0; within = omega arith; leaves = refl; enters = t }, z)) (zero_or_pos (c l.from)))
      (λ (t : l.to ≢ x).
      let r = waiting_before_linked ls x i (omega (arith, gate_zero m (same_ne (λ (e : x ≡ l.to). t (sym e))))) p in
      rw (waiting_before_other l ls x t) (linked_cons r.0, r.1)) (eq_or_ne l.to x)

  -- ---- members, and the row up to one

  pub member_times : (x : ℕ) (ys : List ℕ) → ((member links c x ys ≡ true) × (0 < times x ys)) ⊎ ((member links c x ys ≡ false) × (times x ys ≡ 0))
  unfolding member times
  member_times x [] = inr (refl, refl)
  member_times x (y ∷ ys) =
      ⊎_elim (λ e. inl (simp (member, eq-eqb x y e.0), omega arith))
      (λ e.
      ⊎_elim (λ r. inl (simp (member, ne_eqb x y e.0) r.0, omega arith)) (λ r. inr (simp (member, ne_eqb x y e.0) r.0, omega arith))
      (member_times x ys)) (same_cases x y)

  pub up_to_here : (x y : ℕ) (ys : List ℕ) → x ≡ y → up_to links c x (y ∷ ys) ≡ y ∷ []
  unfolding up_to
  up_to_here x y ys e = simp (eq-eqb x y e)

  pub up_to_on : (x y : ℕ) (ys : List ℕ) → x ≢ y → up_to links c x (y ∷ ys) ≡ y ∷ up_to links c x ys
  unfolding up_to
  up_to_on x y ys e = simp (ne_eqb x y e)
