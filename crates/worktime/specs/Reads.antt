-- The limit of years in minutes: which times a walk may read, and the ways of an answer.
use Rattle.std.specs.Prelude.{◌≡◌, Bool, true, false, ◌⊎◌, ℕ, ◌/◌, ◌≤◌, ◌<◌, Result, Ok, Err}
use Rattle.worktime.specs.declared.ClockError.{ClockError}
use Rattle.worktime.specs.declared.ClockError.TheVariants.{TooLong}
use Rattle.std.proofs.Common.{◌∙◌, inl, inr, ⊎_elim, arith}
use Rattle.std.proofs.lemmas.Bool.{cases_Bool}
use Rattle.date.specs.Years.{in_years, years_before, years_after, years_within, years_in}
use Rattle.number.specs.Order.{lt_or_le}
use Rattle.worktime.specs.Walks.{first_minute, end_minute, reads}

-- ---- the days of times

pub minute_in : (t : ℕ) → first_minute ≤ t → t < end_minute → in_years (t / 1440) ≡ true
minute_in t a b = years_within (t / 1440) (omega arith) (omega arith)

pub minute_before_lem : (t : ℕ) → t < first_minute → in_years (t / 1440) ≡ false
minute_before_lem t a = years_before (t / 1440) (omega arith)

pub minute_after : (t : ℕ) → end_minute ≤ t → in_years (t / 1440) ≡ false
minute_after t a = years_after (t / 1440) (omega arith)

pub minute_range : (t : ℕ) → in_years (t / 1440) ≡ true → (first_minute ≤ t) × (t < end_minute)
minute_range t e = let p = years_in (t / 1440) e in omega arith

pub minute_cases : (t : ℕ) → ((first_minute ≤ t) × (t < end_minute)) ⊎ (in_years (t / 1440) ≡ false)
minute_cases t =
    ⊎_elim (λ l. inr (minute_before_lem t l)) (λ l. ⊎_elim (λ r. inl (l, r)) (λ r. inr (minute_after t r)) (lt_or_le t end_minute))
    (lt_or_le t first_minute)

-- ---- what is read

pub on_true : {A : Type 0} (b : Bool) (x y : A) → b ≡ true → elim b [ true ↦ x | false ↦ y ] ≡ x
on_true b x y e = rw e

pub on_false : {A : Type 0} (b : Bool) (x y : A) → b ≡ false → elim b [ true ↦ x | false ↦ y ] ≡ y
on_false b x y e = rw e

module _ {A : Type 0} (refused : ClockError → A) where
  pub reads_in : (d : ℕ) (x : A) → in_years d ≡ true → reads refused d x ≡ x
  unfolding reads
  reads_in d x e = rw (e, reads)

  pub reads_out : (d : ℕ) (x : A) → in_years d ≡ false → reads refused d x ≡ refused TooLong
  unfolding reads
  reads_out d x e = rw (e, reads)

-- ---- the two ways of a walk: it answers a time of which P holds, or it is refused with 8 since R holds

pub data Ways (x : Result ℕ ClockError) (P : ℕ → Type 0) (R : Type 0) : Type 0 where
  answers : (u : ℕ) → x ≡ Ok u → P u → Ways x P R
  refuses : x ≡ Err TooLong → R → Ways x P R

pub at_or_refused : {x : Result ℕ ClockError} {u : ℕ} {k : ClockError} → x ≡ Ok u → x ≡ Err k → ⊥
at_or_refused p q = let z : ◌≡◌ {A = ℕ} 0 1 = cc in omega arith

module _ {x : Result ℕ ClockError} {P : ℕ → Type 0} {R : Type 0} where
  pub ways_sound : {u : ℕ} → Ways x P R → x ≡ Ok u → P u
  ways_sound {u} (answers v e p) f = let same : v ≡ u = cc in rw same at p
  ways_sound (refuses e r) f = absurd (at_or_refused f e)

  pub ways_number : {k : ClockError} → Ways x P R → x ≡ Err k → k ≡ TooLong
  ways_number (answers v e p) f = absurd (at_or_refused e f)
  ways_number (refuses e r) f = cc

  pub ways_refused : {k : ClockError} → Ways x P R → x ≡ Err k → R
  ways_refused (answers v e p) f = absurd (at_or_refused e f)
  ways_refused (refuses e r) f = r

-- ---- whether a day is read, by the answer
module _ (d : ℕ) (r : Result ℕ ClockError) (e : r ≡ reads Err d (Ok d)) where
  pub day_read : {u : ℕ} → r ≡ Ok u → in_years d ≡ true
  day_read f = ⊎_elim (λ y. y) (λ n. absurd (at_or_refused f (e ∙ reads_out Err d (Ok d) n))) (cases_Bool (in_years d))

  pub day_refused : {k : ClockError} → r ≡ Err k → (k ≡ TooLong) × (in_years d ≡ false)
  day_refused f = ⊎_elim (λ y. absurd (at_or_refused (e ∙ reads_in Err d (Ok d) y) f)) (λ n. let g : r ≡ Err TooLong = e ∙ reads_out Err d (Ok d) n in (cc, n)) (cases_Bool (in_years d))
