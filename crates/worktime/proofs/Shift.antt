-- Advance, retreat and shift agree with the relations wherever they answer, and are refused with 8 just where they meet the limit of years.
use Rattle.std.specs.Prelude.{◌≡◌, Bool, true, false, ◌⊎◌, ℕ, zero, suc, ◌+◌, ◌-◌, ◌/◌, ◌≤◌, ◌<◌, eqb, ℤ, pos, negsuc, neg_ℤ, Ok, Err}
use Rattle.worktime.specs.declared.ClockError.{ClockError}
use Rattle.worktime.specs.declared.ClockError.TheVariants.{TooLong}
use Rattle.std.proofs.Math.Path.{refl}
use Rattle.std.proofs.Common.{sym, ap, ◌∙◌, inl, inr, ⊎_elim, arith, eq-eqb, ne_eqb}
use Rattle.date.specs.Years.{in_years}
use Rattle.std.proofs.lemmas.Bool.{cases_lt}
use Rattle.worktime.specs.Worked.{count, closing, IsAdvance, IsRetreat}
use Rattle.worktime.specs.Walks.{first_minute, end_minute, reads, forward, backward, advance, retreat, shift}
use Rattle.worktime.specs.Count.{count_worked, count_lt_lt, closing_suc, start_le, reach}
use Rattle.worktime.specs.Relations.{advance_of, advance_by_zero, retreat_of, retreat_by_zero}
use Rattle.worktime.specs.Search.{forward_at, forward_none, backward_at, backward_none}
use Rattle.worktime.specs.Reads.{Ways, answers, refuses, ways_sound, ways_number, ways_refused, at_or_refused, minute_in, minute_cases, on_true, on_false, reads_in, reads_out}

module _ (w : ℕ → Bool) where
  -- ---- advance

  pub advance_zero : (t : ℕ) → advance w t 0 ≡ Ok t
  unfolding advance
  advance_zero t = on_true (eqb 0 0) (Ok t) (reads Err (t / 1440) (forward w (end_minute - t) t 0)) (eq-eqb 0 0 refl)

  advance_walk : (t n : ℕ) → 0 < n → advance w t n ≡ reads Err (t / 1440) (forward w (end_minute - t) t n)
  unfolding advance
  advance_walk t n p =
      on_false (eqb n 0) (Ok t) (reads Err (t / 1440) (forward w (end_minute - t) t n)) (ne_eqb n 0 (λ e. omega arith))

  pub advance_out : (t n : ℕ) → 0 < n → in_years (t / 1440) ≡ false → advance w t n ≡ Err TooLong
  advance_out t n p e = advance_walk t n p ∙ reads_out Err _ _ e

  advance_in : (t n : ℕ) → 0 < n → first_minute ≤ t → t < end_minute → advance w t n ≡ forward w (end_minute - t) t n
  advance_in t n p a b = advance_walk t n p ∙ reads_in Err _ _ (minute_in t a b)

  pub advance_at : {t n u : ℕ} → 0 < n → first_minute ≤ t → u ≤ end_minute → closing w u ≡ true → count w u ≡ count w t + n
      → advance w t n ≡ Ok u
  advance_at {t} {n} {u} p a b h c =
      let l = count_lt_lt w {s = t} {t = u} (omega arith) in
      advance_in t n p a (omega arith) ∙ forward_at w (end_minute - t) t n u p h c (omega arith)

  pub advance_at_is : {t n u : ℕ} → IsAdvance w t n u → 0 < n → first_minute ≤ t → u ≤ end_minute → advance w t n ≡ Ok u
  advance_at_is s p a b = advance_at p a b (s.closes p) s.total

  pub advance_none : (t n : ℕ) → 0 < n → count w end_minute < count w t + n → advance w t n ≡ Err TooLong
  advance_none t n p c = ⊎_elim inside (advance_out t n p) (minute_cases t)
    where
      inside : (first_minute ≤ t) × (t < end_minute) → advance w t n ≡ Err TooLong
      inside q =
          let e : t + (end_minute - t) ≡ end_minute = omega arith in
          advance_in t n p q.0 q.1 ∙ forward_none w (end_minute - t) t n (omega (arith, ap (count w) e))

  pub advance_ways : (t n : ℕ) → 0 < n → Ways (advance w t n) (λ u. IsAdvance w t n u × (first_minute ≤ t) × (u ≤ end_minute))
      ((in_years (t / 1440) ≡ false) ⊎ (count w end_minute < count w t + n))
  advance_ways t n p =
      ⊎_elim
      (λ q.
      ⊎_elim (λ l. refuses (advance_none t n p l) (inr l))
      (λ l.
      let r = reach w end_minute (count w t + n - 1) (omega arith) in
      let s : IsAdvance w t n (suc r.0) =
      advance_of w p (closing_suc w r.0 ∙ r.2) (omega (arith, count_worked w r.0 r.2)) in
      answers (suc r.0) (advance_at_is s p q.0 r.1) (s, q.0, r.1)) (cases_lt (count w end_minute) (count w t + n)))
      (λ e. refuses (advance_out t n p e) (inl e)) (minute_cases t)

  pub advance_sound : {t n u : ℕ} → advance w t n ≡ Ok u → IsAdvance w t n u × (0 < n → (first_minute ≤ t) × (u ≤ end_minute))
  advance_sound {t = t} {n = zero} {u = u} e =
      let same : u ≡ t = (let f = advance_zero t in cc) in ((advance_by_zero w).1 same, λ p. absurd (omega arith))
  advance_sound {t = t} {n = suc n} e = let r = ways_sound (advance_ways t (suc n) (omega arith)) e in (r.0, λ p. (r.1, r.2))

  pub advance_why : (t n : ℕ) (k : ClockError) → advance w t n ≡ Err k
      → (k ≡ TooLong) × (0 < n) × ((in_years (t / 1440) ≡ false) ⊎ (count w end_minute < count w t + n))
  advance_why t zero k e = absurd (at_or_refused (advance_zero t) e)
  advance_why t (suc n) k e =
      let a = advance_ways t (suc n) (omega arith) in (ways_number a e, omega arith, ways_refused a e)

  pub advance_refused : (t n : ℕ) (k : ClockError) → advance w t n ≡ Err k → k ≡ TooLong
  advance_refused t n k e = (advance_why t n k e).0

  -- ---- retreat

  pub retreat_zero : (t : ℕ) → retreat w t 0 ≡ Ok t
  unfolding retreat
  retreat_zero t = on_true (eqb 0 0) (Ok t) (reads Err (t / 1440) (backward w (t - first_minute) t 0)) (eq-eqb 0 0 refl)

  retreat_walk : (t n : ℕ) → 0 < n → retreat w t n ≡ reads Err (t / 1440) (backward w (t - first_minute) t n)
  unfolding retreat
  retreat_walk t n p =
      on_false (eqb n 0) (Ok t) (reads Err (t / 1440) (backward w (t - first_minute) t n)) (ne_eqb n 0 (λ e. omega arith))

  pub retreat_out : (t n : ℕ) → 0 < n → in_years (t / 1440) ≡ false → retreat w t n ≡ Err TooLong
  retreat_out t n p e = retreat_walk t n p ∙ reads_out Err _ _ e

  retreat_in : (t n : ℕ) → 0 < n → first_minute ≤ t → t < end_minute → retreat w t n ≡ backward w (t - first_minute) t n
  retreat_in t n p a b = retreat_walk t n p ∙ reads_in Err _ _ (minute_in t a b)

  pub retreat_at : {t n u : ℕ} → 0 < n → first_minute ≤ u → t < end_minute → w u ≡ true → count w u + n ≡ count w t
      → retreat w t n ≡ Ok u
  retreat_at {t} {n} {u} p a b h c =
      let l = count_lt_lt w {s = u} {t = t} (omega arith) in
      retreat_in t n p (omega arith) b ∙ backward_at w (t - first_minute) t n u p h c (omega arith)

  pub retreat_at_is : {t n u : ℕ} → IsRetreat w t n u → 0 < n → first_minute ≤ u → t < end_minute → retreat w t n ≡ Ok u
  retreat_at_is s p a b = retreat_at p a b (s.worked p) s.total

  pub retreat_none : (t n : ℕ) → 0 < n → count w t < count w first_minute + n → retreat w t n ≡ Err TooLong
  retreat_none t n p c = ⊎_elim inside (retreat_out t n p) (minute_cases t)
    where
      inside : (first_minute ≤ t) × (t < end_minute) → retreat w t n ≡ Err TooLong
      inside q =
          let e : t - (t - first_minute) ≡ first_minute = omega arith in
          retreat_in t n p q.0 q.1 ∙ backward_none w (t - first_minute) t n (omega arith) (omega (arith, ap (count w) e))

  pub retreat_ways : (t n : ℕ) → 0 < n → Ways (retreat w t n) (λ u. IsRetreat w t n u × (first_minute ≤ u) × (t < end_minute))
      ((in_years (t / 1440) ≡ false) ⊎ (count w t < count w first_minute + n))
  retreat_ways t n p =
      ⊎_elim
      (λ q.
      ⊎_elim (λ l. refuses (retreat_none t n p l) (inr l))
      (λ l.
      let r = reach w t (count w t - n) (omega arith) in
      let s : IsRetreat w t n r.0 = retreat_of w p r.2 (omega arith) in
      let a : first_minute ≤ r.0 = (start_le w r.2).1 (omega arith) in
      answers r.0 (retreat_at_is s p a q.1) (s, a, q.1)) (cases_lt (count w t) (count w first_minute + n)))
      (λ e. refuses (retreat_out t n p e) (inl e)) (minute_cases t)

  pub retreat_sound : {t n u : ℕ} → retreat w t n ≡ Ok u → IsRetreat w t n u × (0 < n → (first_minute ≤ u) × (t < end_minute))
  retreat_sound {t = t} {n = zero} {u = u} e =
      let same : u ≡ t = (let f = retreat_zero t in cc) in ((retreat_by_zero w).1 same, λ p. absurd (omega arith))
  retreat_sound {t = t} {n = suc n} e = let r = ways_sound (retreat_ways t (suc n) (omega arith)) e in (r.0, λ p. (r.1, r.2))

  pub retreat_why : (t n : ℕ) (k : ClockError) → retreat w t n ≡ Err k
      → (k ≡ TooLong) × (0 < n) × ((in_years (t / 1440) ≡ false) ⊎ (count w t < count w first_minute + n))
  retreat_why t zero k e = absurd (at_or_refused (retreat_zero t) e)
  retreat_why t (suc n) k e =
      let a = retreat_ways t (suc n) (omega arith) in (ways_number a e, omega arith, ways_refused a e)

  pub retreat_refused : (t n : ℕ) (k : ClockError) → retreat w t n ≡ Err k → k ≡ TooLong
  retreat_refused t n k e = (retreat_why t n k e).0

  -- ---- shift

  pub shift_forward : (t n : ℕ) → shift w t (pos n) ≡ advance w t n
  unfolding shift
  shift_forward t n = refl

  pub shift_back : (t n : ℕ) → shift w t (negsuc n) ≡ retreat w t (suc n)
  unfolding shift
  shift_back t n = refl

  pub shift_neg : (t n : ℕ) → shift w t (neg_ℤ (pos n)) ≡ retreat w t n
  shift_neg t zero = shift_forward t 0 ∙ advance_zero t ∙ sym (retreat_zero t)
  shift_neg t (suc n) = shift_back t n

  pub shift_zero : (t : ℕ) → shift w t (pos 0) ≡ Ok t
  shift_zero t = shift_forward t 0 ∙ advance_zero t

  pub shift_refused : (t : ℕ) (k : ClockError) (z : ℤ) → shift w t z ≡ Err k → k ≡ TooLong
  shift_refused t k (pos n) e = advance_refused t n k (sym (shift_forward t n) ∙ e)
  shift_refused t k (negsuc n) e = retreat_refused t (suc n) k (sym (shift_back t n) ∙ e)
