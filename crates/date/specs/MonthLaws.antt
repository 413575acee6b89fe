-- The months of a year that begins in March: the days before the m-th, and its length.
use Rattle.std.specs.Prelude.{◌≡◌, refl, Bool, true, false, ◌&&◌, ℕ, zero, suc, ◌+◌, ◌-◌, ◌*◌, ◌/◌, ◌≤◌, ◌<◌, eqb, get_or, take}
use Rattle.std.proofs.Common.{⊎_elim, arith, eqb-true}
use Rattle.number.specs.Order.{eq_or_ne}
use Rattle.number.specs.Tests.{and_both}
use Rattle.date.specs.Gregorian.{lengths, sum}
use Rattle.number.specs.Bit.{bit}
use Rattle.date.specs.March.{days_from_march}

-- ---- a test of each number below n, by evaluation
all_below : ℕ → (ℕ → Bool) → Bool
all_below zero p = true
all_below (suc n) p = p n && all_below n p

each : (n : ℕ) (p : ℕ → Bool) → all_below n p ≡ true → (m : ℕ) → m < n → p m ≡ true
unfolding all_below
each zero p e m h = absurd (omega arith)
each (suc n) p e m h =
    ⊎_elim (λ k. rw k (and_both (p n) (all_below n p) e).0) (λ k. each n p ((and_both (p n) (all_below n p) e).1) m (omega arith)) (eq_or_ne m n)

-- ---- March to December
pub spring_before : (l : Bool) (m : ℕ) → m < 10 → sum (take (m + 3 - 1) (lengths l)) ≡ 59 + bit l + days_from_march m
unfolding all_below lengths sum
spring_before true m h = eqb-true _ _ (each 10 (λ m. eqb (sum (take (m + 3 - 1) (lengths true))) (59 + 1 + days_from_march m)) refl m h)
spring_before false m h = eqb-true _ _ (each 10 (λ m. eqb (sum (take (m + 3 - 1) (lengths false))) (59 + 0 + days_from_march m)) refl m h)

pub spring_length : (l : Bool) (m : ℕ) → m < 10 → get_or (lengths l) (m + 3 - 1) 0 + days_from_march m ≡ days_from_march (m + 1)
unfolding all_below lengths
spring_length true m h = eqb-true _ _ (each 10 (λ m. eqb (get_or (lengths true) (m + 3 - 1) 0 + days_from_march m) (days_from_march (m + 1))) refl m h)
spring_length false m h = eqb-true _ _ (each 10 (λ m. eqb (get_or (lengths false) (m + 3 - 1) 0 + days_from_march m) (days_from_march (m + 1))) refl m h)

-- ---- the month of day d of the year, where its days begin
pub month_begun : (d : ℕ) → days_from_march ((5 * d + 2) / 153) ≤ d
month_begun d = omega arith

pub month_ends : (d : ℕ) → d < days_from_march ((5 * d + 2) / 153 + 1)
month_ends d = omega arith
