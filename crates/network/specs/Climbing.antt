-- Steps up from an activity to its parents: steps add up, none stays none, and n activities leave room for n different ones.
use Rattle.std.specs.Prelude.{◌≡◌, ◌⊎◌, ◌≢◌, List, [], ◌∷◌, length}
use Rattle.std.proofs.Math.Path.{refl, sym, ap}
use Rattle.std.proofs.Common.{◌∙◌}
use Rattle.std.proofs.Math.Logic.{inl, inr, ⊎_elim}
use Prim.Native.Nat.{ℕ, zero, suc, ◌+◌, ◌-◌, ◌≤◌, ◌<◌}
use native.Mathlib.Omega.{arith}
use borrow.Author.Tests.{eq-eqb, ne_eqb}
use Rattle.number.specs.Order.{lt_or_le, eq_or_ne, zero_or_pos}
use Rattle.network.specs.Parents.{above, climb, steps_back}
use Rattle.network.specs.Times.{same_cases, times, times_nil, times_cons, Distinct, distinct_nil, distinct_cons}

pub pos_suc : (m : ℕ) → 0 < m → m ≡ suc (m - 1)
pos_suc m p = omega arith

module _ (parent : ℕ → ℕ) where
  pub climb_zero : (i : ℕ) → climb parent 0 i ≡ suc i
  unfolding climb
  climb_zero i = refl

  pub climb_suc : (k i : ℕ) → climb parent (suc k) i ≡ above parent (climb parent k i)
  unfolding climb
  climb_suc k i = refl

  pub climb_one : (i : ℕ) → climb parent 1 i ≡ parent i
  unfolding climb above
  climb_one i = refl

  -- one more step, from where there is an activity
  pub climb_next : (k i j : ℕ) → climb parent k i ≡ suc j → climb parent (suc k) i ≡ parent j
  unfolding above
  climb_next k i j e = climb_suc k i ∙ ap (above parent) e

  -- and from none
  pub climb_end : (k i : ℕ) → climb parent k i ≡ 0 → climb parent (suc k) i ≡ 0
  unfolding above
  climb_end k i e = climb_suc k i ∙ ap (above parent) e

  pub climb_add : (a b i j : ℕ) → climb parent b i ≡ suc j → climb parent (a + b) i ≡ climb parent a j
  climb_add zero b i j e = ap (λ (k : ℕ). climb parent k i) (omega arith) ∙ e ∙ sym (climb_zero j)
  climb_add (suc a) b i j e =
      let s : suc a + b ≡ suc (a + b) = omega arith in
      ap (λ (k : ℕ). climb parent k i) s ∙ climb_suc (a + b) i ∙ ap (above parent) (climb_add a b i j e) ∙ sym (climb_suc a j)

  -- the first step first
  pub climb_first : (k i j : ℕ) → parent i ≡ suc j → climb parent (suc k) i ≡ climb parent k j
  climb_first k i j e =
      let s : suc k ≡ k + 1 = omega arith in ap (λ (m : ℕ). climb parent m i) s ∙ climb_add k 1 i j (climb_one i ∙ e)

  pub climb_none : (a b i : ℕ) → climb parent b i ≡ 0 → climb parent (a + b) i ≡ 0
  climb_none zero b i e = ap (λ (k : ℕ). climb parent k i) (omega arith) ∙ e
  climb_none (suc a) b i e =
      let s : suc a + b ≡ suc (a + b) = omega arith in ap (λ (k : ℕ). climb parent k i) s ∙ climb_end (a + b) i (climb_none a b i e)

  pub climb_none_le : (a b i : ℕ) → a ≤ b → climb parent a i ≡ 0 → climb parent b i ≡ 0
  climb_none_le a b i l e =
      let s : b ≡ (b - a) + a = omega arith in ap (λ (k : ℕ). climb parent k i) s ∙ climb_none (b - a) a i e

  pub climb_pos : (a b i : ℕ) → a ≤ b → 0 < climb parent b i → 0 < climb parent a i
  climb_pos a b i l p = ⊎_elim (λ z. absurd (omega (arith, climb_none_le a b i l z))) (λ q. q) (zero_or_pos (climb parent a i))

  -- where two counts of steps lead to the same, so do they with as many more
  pub climb_same : (a b k i : ℕ) → climb parent a i ≡ climb parent b i → climb parent (k + a) i ≡ climb parent (k + b) i
  climb_same a b k i e =
      ⊎_elim (λ z. climb_none k a i z ∙ sym (climb_none k b i (sym e ∙ z)))
      (λ p.
      let s = pos_suc (climb parent a i) p in
      climb_add k a i (climb parent a i - 1) s ∙ sym (climb_add k b i (climb parent a i - 1) (sym e ∙ s))) (zero_or_pos (climb parent a i))

  -- ---- the search for the steps of a loop

  pub steps_back_hit : (f k i : ℕ) → climb parent k i ≡ suc i → steps_back parent (suc f) k i ≡ k
  unfolding steps_back
  steps_back_hit f k i e = simp (steps_back, eq-eqb (climb parent k i) (suc i) e)

  pub steps_back_miss : (f k i : ℕ) → climb parent k i ≢ suc i → steps_back parent (suc f) k i ≡ steps_back parent f (suc k) i
  unfolding steps_back
  steps_back_miss f k i e = simp (steps_back, ne_eqb (climb parent k i) (suc i) e)

  -- r is the least of the f numbers of steps from k on that leads back
  pub record Least (f k i r : ℕ) : Type 0 where
    pub from : k ≤ r
    pub below : r < k + f
    pub back : climb parent r i ≡ suc i
    pub least : (j : ℕ) → k ≤ j → j < r → climb parent j i ≢ suc i

  pub record Never (f k i : ℕ) : Type 0 where
    pub never : (j : ℕ) → k ≤ j → j < k + f → climb parent j i ≢ suc i

  pub steps_back_cases : (f k i : ℕ) → Least f k i (steps_back parent f k i) ⊎ (Never f k i × (steps_back parent f k i ≡ 0))
  unfolding steps_back
  steps_back_cases zero k i = inr (record { never = λ j a b. absurd (omega arith) }, refl)
  steps_back_cases (suc f) k i =
      ⊎_elim
      (λ e. inl (rw (steps_back_hit f k i e) (record { from = omega arith; below = omega arith; back = e; least = λ j a b. absurd (omega arith) })))
      (λ e.
      ⊎_elim
      (λ (r : Least f (suc k) i (steps_back parent f (suc k) i)).
      inl (rw (steps_back_miss f k i e) (record {
        from = omega (arith, r.from);
        below = omega (arith, r.below);
        back = r.back;
        least = λ j a b. ⊎_elim (λ (q : j ≡ k). rw q e) (λ (q : j ≢ k). r.least j (omega arith) b) (eq_or_ne j k);
      })))
      (λ (r : Never f (suc k) i × (steps_back parent f (suc k) i ≡ 0)).
      inr (
        record { never = λ j a b. ⊎_elim (λ (q : j ≡ k). rw q e) (λ (q : j ≢ k). r.0.never j (omega arith) (omega arith)) (eq_or_ne j k) },
        steps_back_miss f k i e ∙ r.1,
      )) (steps_back_cases f (suc k) i)) (eq_or_ne (climb parent k i) (suc i))

  -- ---- the activities passed in m steps, the last one first

  unfoldable pub passed : ℕ → ℕ → List ℕ
  passed zero i = []
  passed (suc m) i = (climb parent m i - 1) ∷ passed m i

  pub length_passed : (m i : ℕ) → length (passed m i) ≡ m
  unfolding passed
  length_passed zero i = refl
  length_passed (suc m) i = ap suc (length_passed m i)

  pub passed_place : (m i x : ℕ) → 0 < times x (passed m i) → (a : ℕ) × (a < m) × (climb parent a i - 1 ≡ x)
  unfolding passed
  passed_place zero i x h = absurd (omega (arith, times_nil x))
  passed_place (suc m) i x h =
      ⊎_elim (λ c. (m, omega arith, sym c.0))
      (λ c. let r = passed_place m i x (omega (arith, times_cons x (climb parent m i - 1) (passed m i))) in (r.0, omega arith, r.2))
      (same_cases x (climb parent m i - 1))

  -- with each parent one of n activities
  module _ {n : ℕ} (below : (i : ℕ) → i < n → parent i ≤ n) where
    pub climb_le : (k i : ℕ) → i < n → climb parent k i ≤ n
    climb_le zero i l = omega (arith, climb_zero i)
    climb_le (suc k) i l =
        ⊎_elim (λ z. omega (arith, climb_end k i z))
        (λ p.
        let s = pos_suc (climb parent k i) p in
        omega (arith, climb_next k i (climb parent k i - 1) s, below (climb parent k i - 1) (omega (arith, climb_le k i l)))) (zero_or_pos (climb parent k i))

    -- m activities passed, no two the same
    pub passed_distinct : (m i : ℕ) → i < n → ((a : ℕ) → a < m → 0 < climb parent a i)
        → ((a b : ℕ) → a < b → b < m → climb parent a i ≢ climb parent b i) → Distinct n (passed m i)
    unfolding passed
    passed_distinct zero i l p d = distinct_nil n
    passed_distinct (suc m) i l p d =
        distinct_cons (omega (arith, climb_le m i l, p m (omega arith)))
        (⊎_elim (λ h. let r = passed_place m i (climb parent m i - 1) h in
        absurd (d r.0 m r.1 (omega arith) (omega (arith, r.2, p r.0 (omega arith), p m (omega arith))))) (λ z. omega arith)
        (lt_or_le 0 (times (climb parent m i - 1) (passed m i))))
        (passed_distinct m i l (λ a h. p a (omega arith)) (λ a b g h. d a b g (omega arith)))
