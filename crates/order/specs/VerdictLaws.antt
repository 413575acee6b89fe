-- The first refusal of two, and of a row of checks: it is there exactly where one of them refuses, and none before it does.
use Rattle.std.specs.Prelude.{◌≡◌, refl, ◌⊎◌, ◌≢◌, ◌↔◌}
use Rattle.std.proofs.Common.{sym, ap, ◌∙◌, add-one}
use Rattle.std.proofs.Math.Bool.{true, false}
use Rattle.std.proofs.Math.Logic.{inl, inr, ⊎_elim}
use Prim.Native.Nat.{ℕ, zero, suc, ◌+◌, ◌-◌, ◌≤◌, ◌<◌}
use native.Mathlib.Omega.{arith}
use borrow.Author.Tests.{eq-eqb, ne_eqb}
use Rattle.std.proofs.Math.Dec.{eqb}
use Rattle.number.specs.Order.{eq_or_ne}
use Rattle.order.specs.Checks.{Verdict, fine, or_else, first_of}

-- ---- of two
module _ (v w : Verdict) where
  pub or_first : v.number ≢ 0 → or_else v w ≡ v
  unfolding or_else
  or_first h = let e : eqb v.number 0 ≡ false = ne_eqb v.number 0 h in simp (e, or_else)

  pub or_second : v.number ≡ 0 → or_else v w ≡ w
  unfolding or_else
  or_second h = let e : eqb v.number 0 ≡ true = eq-eqb v.number 0 h in simp (e, or_else)

  pub or_fine : ((or_else v w).number ≡ 0) ↔ ((v.number ≡ 0) × (w.number ≡ 0))
  or_fine = (
    λ h.
        ⊎_elim (λ z. (z, ap (λ (u : Verdict). u.number) (sym (or_second z)) ∙ h))
        (λ n. absurd (n (ap (λ (u : Verdict). u.number) (sym (or_first n)) ∙ h))) (eq_or_ne v.number 0),
    λ h. ap (λ (u : Verdict). u.number) (or_second h.0) ∙ h.1,
  )

  -- a row that the first never gives is the second's, and one that the second never gives is the first's
  pub or_skips : (n : ℕ) → v.number ≢ n → (or_else v w).number ≡ n → (v.number ≡ 0) × (or_else v w ≡ w)
  or_skips n h e =
      ⊎_elim (λ z. (z, or_second z)) (λ m. absurd (h (ap (λ (u : Verdict). u.number) (sym (or_first m)) ∙ e))) (eq_or_ne v.number 0)

  pub or_stays : (n : ℕ) → w.number ≢ n → (or_else v w).number ≡ n → or_else v w ≡ v
  or_stays n h e =
      ⊎_elim (λ z. absurd (h (ap (λ (u : Verdict). u.number) (sym (or_second z)) ∙ e))) (λ m. or_first m) (eq_or_ne v.number 0)

  -- what holds of both holds of it
  pub or_both : (P : Verdict → Type 0) → P v → P w → P (or_else v w)
  or_both P a b =
      ⊎_elim (λ (z : v.number ≡ 0). rw (or_second z) b) (λ (n : v.number ≢ 0). rw (or_first n) a) (eq_or_ne v.number 0)

-- ---- of a row
module _ (judge : ℕ → Verdict) where
  first_suc_fine : (k i : ℕ) → (judge i).number ≡ 0 → first_of judge (suc k) i ≡ first_of judge k (suc i)
  unfolding first_of
  first_suc_fine k i h = let e : eqb (judge i).number 0 ≡ true = eq-eqb (judge i).number 0 h in simp (e, first_of)

  first_suc_refuses : (k i : ℕ) → (judge i).number ≢ 0 → first_of judge (suc k) i ≡ judge i
  unfolding first_of
  first_suc_refuses k i h = let e : eqb (judge i).number 0 ≡ false = ne_eqb (judge i).number 0 h in simp (e, first_of)

  -- what remains of n checks from i on: before the first, past the last, and over one that is fine or refuses
  pub first_start : (n : ℕ) → first_of judge (n - 0) 0 ≡ first_of judge n 0
  first_start n = let e : n - 0 ≡ n = omega arith in rw e

  pub first_end : (n i : ℕ) → n ≤ i → first_of judge (n - i) i ≡ fine
  unfolding first_of
  first_end n i h = let e : n - i ≡ 0 = omega arith in rw e

  pub first_passes : (n i : ℕ) → i < n → (judge i).number ≡ 0 → first_of judge (n - i) i ≡ first_of judge (n - (i + 1)) (i + 1)
  first_passes n i l h =
      let e : n - i ≡ suc (n - (i + 1)) = omega arith in
      ap (λ (k : ℕ). first_of judge k i) e ∙ first_suc_fine (n - (i + 1)) i h
      ∙ ap (λ (j : ℕ). first_of judge (n - (i + 1)) j) (sym (add-one i))

  pub first_stops : (n i : ℕ) → i < n → (judge i).number ≢ 0 → first_of judge (n - i) i ≡ judge i
  first_stops n i l h =
      let e : n - i ≡ suc (n - (i + 1)) = omega arith in
      ap (λ (k : ℕ). first_of judge k i) e ∙ first_suc_refuses (n - (i + 1)) i h

  -- the first refusal among k from i on is that of `place`
  pub record Refusal (k i : ℕ) (v : Verdict) : Type 0 where
    pub place : ℕ
    pub from : i ≤ place
    pub below : place < i + k
    pub refuses : (judge place).number ≢ 0
    pub first : (j : ℕ) → i ≤ j → j < place → (judge j).number ≡ 0
    pub is : v ≡ judge place

  abbrev pub AllFine : ℕ → ℕ → Type 0
  AllFine k i = (j : ℕ) → i ≤ j → j < i + k → (judge j).number ≡ 0

  pub first_cases_from : (k i : ℕ) → (AllFine k i × (first_of judge k i ≡ fine)) ⊎ Refusal k i (first_of judge k i)
  unfolding first_of
  first_cases_from zero i = inl (λ j a b. absurd (omega arith), refl)
  first_cases_from (suc k) i =
      ⊎_elim
      (λ z.
      ⊎_elim
      (λ a. inl (
        λ j g h. ⊎_elim (λ (e : j ≡ i). rw e z) (λ n. a.0 j (omega arith) (omega arith)) (eq_or_ne j i),
        first_suc_fine k i z ∙ a.1,
      ))
      (λ r. inr (record {
        place = r.place;
        from = omega (arith, r.from);
        below = omega (arith, r.below);
        refuses = r.refuses;
        first = λ j g h. ⊎_elim (λ (e : j ≡ i). rw e z) (λ n. r.first j (omega arith) h) (eq_or_ne j i);
        is = first_suc_fine k i z ∙ r.is;
      })) (first_cases_from k (suc i)))
      (λ n. inr (record {
        place = i;
        from = omega arith;
        below = omega arith;
        refuses = n;
        first = λ j g h. absurd (omega arith);
        is = first_suc_refuses k i n;
      })) (eq_or_ne (judge i).number 0)

  module _ (n : ℕ) where
    abbrev pub EachFine : Type 0
    EachFine = (i : ℕ) → i < n → (judge i).number ≡ 0

    -- each is fine, or the first refusal is given
    pub first_cases : (EachFine × (first_of judge n 0 ≡ fine)) ⊎ Refusal n 0 (first_of judge n 0)
    first_cases =
        ⊎_elim (λ a. inl (λ i l. a.0 i (omega arith) (omega arith), a.1)) (λ r. inr r) (first_cases_from n 0)

    pub first_fine : ((first_of judge n 0).number ≡ 0) ↔ EachFine
    first_fine = (
      λ h.
          ⊎_elim (λ a. a.0) (λ r. absurd (r.refuses (ap (λ (u : Verdict). u.number) (sym r.is) ∙ h))) first_cases,
      λ h.
          ⊎_elim (λ a. ap (λ (u : Verdict). u.number) a.1)
          (λ r. absurd (r.refuses (h r.place (omega (arith, r.below))))) first_cases,
    )

    -- what holds of each holds of the first refusal
    pub first_each : (P : Verdict → Type 0) → P fine → ((i : ℕ) → i < n → P (judge i)) → P (first_of judge n 0)
    first_each P f h =
        ⊎_elim (λ a. rw a.1 f)
        (λ (r : Refusal n 0 (first_of judge n 0)). rw r.is (h r.place (omega (arith, r.below)))) first_cases
