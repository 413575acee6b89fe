-- Whether a minute is worked, and the walks to a start or a finish: they agree with the relations wherever they answer, and are refused with 8 just where they meet the limit of years.
use Rattle.std.specs.Prelude.{◌≡◌, refl, Bool, true, false, ◌⊎◌, ℕ, suc, ◌+◌, ◌-◌, ◌/◌, ◌≤◌, ◌<◌, Result, Ok, Err}
use Rattle.worktime.specs.declared.ClockError.{ClockError}
use Rattle.worktime.specs.declared.ClockError.TheVariants.{TooLong}
use Rattle.std.proofs.Math.Path.{sym}
use Rattle.std.proofs.Common.{ap, ◌∙◌, inl, inr, arith}
use Rattle.std.proofs.Math.Logic.{⊎_elim}
use Rattle.date.specs.Years.{in_years}
use Rattle.std.proofs.lemmas.Bool.{cases_Bool, cases_lt}
use Rattle.worktime.specs.Worked.{count, closing, IsNextStart, IsPreviousFinish, IsNextFinish}
use Rattle.worktime.specs.Walks.{first_minute, end_minute, least, greatest, next_start, previous_finish, next_finish, working_at, previous_start, start_by, minute_before}
use Rattle.worktime.specs.Count.{count_mono, count_worked, count_idle, closing_suc, start_le, close_le, start_unique, gap, reach}
use Rattle.worktime.specs.Relations.{next_start_of, next_start_count, next_start_here, previous_finish_of, previous_finish_count, next_finish_here, next_finish_later, next_finish_after}
use Rattle.worktime.specs.Search.{least_at, least_none, greatest_at, greatest_none}
use Rattle.worktime.specs.Reads.{Ways, answers, refuses, ways_sound, ways_number, ways_refused, minute_in, minute_before_lem, minute_after, minute_cases, on_true, on_false, reads_in, reads_out}

is_or_refused : {x : Result Bool ClockError} {b : Bool} {k : ClockError} → x ≡ Ok b → x ≡ Err k → ⊥
is_or_refused p q = let e : ◌≡◌ {A = ℕ} 0 1 = cc in omega arith

module _ (w : ℕ → Bool) where
  -- ---- whether a minute is worked

  pub working_at_out : (t : ℕ) → in_years (t / 1440) ≡ false → working_at w t ≡ Err TooLong
  unfolding working_at
  working_at_out t e = reads_out Err _ _ e

  pub working_at_in : (t : ℕ) → in_years (t / 1440) ≡ true → working_at w t ≡ Ok (w t)
  unfolding working_at
  working_at_in t e = reads_in Err _ _ e

  pub working_at_sound : (t : ℕ) (b : Bool) → working_at w t ≡ Ok b → (b ≡ w t) × (in_years (t / 1440) ≡ true)
  working_at_sound t b e =
      ⊎_elim (λ x. let f = working_at_in t x in (cc, x)) (λ x. absurd (is_or_refused e (working_at_out t x))) (cases_Bool (in_years (t / 1440)))

  pub working_at_why : (t : ℕ) (k : ClockError) → working_at w t ≡ Err k → (k ≡ TooLong) × (in_years (t / 1440) ≡ false)
  working_at_why t k e =
      ⊎_elim (λ x. absurd (is_or_refused (working_at_in t x) e)) (λ x. let f = working_at_out t x in (cc, x)) (cases_Bool (in_years (t / 1440)))

  pub working_at_refused : (t : ℕ) (k : ClockError) → working_at w t ≡ Err k → k ≡ TooLong
  working_at_refused t k e = (working_at_why t k e).0

  -- ---- next start

  pub next_start_out : (t : ℕ) → in_years (t / 1440) ≡ false → next_start w t ≡ Err TooLong
  unfolding next_start
  next_start_out t e = reads_out Err _ _ e

  next_start_in : (t : ℕ) → first_minute ≤ t → t < end_minute → next_start w t ≡ least w (end_minute - t) t
  unfolding next_start
  next_start_in t a b = reads_in Err _ _ (minute_in t a b)

  pub next_start_at : {t u : ℕ} → first_minute ≤ t → u < end_minute → w u ≡ true → count w u ≡ count w t → next_start w t ≡ Ok u
  next_start_at {t} {u} a b h c =
      let l : t ≤ u = (start_le w h).1 (omega arith) in
      next_start_in t a (omega arith) ∙ least_at w (end_minute - t) t u l (omega arith) h c

  pub next_start_at_is : {t u : ℕ} → IsNextStart w t u → first_minute ≤ t → u < end_minute → next_start w t ≡ Ok u
  next_start_at_is s a b = next_start_at a b s.worked (next_start_count w s)

  pub next_start_none : (t : ℕ) → count w end_minute ≤ count w t → next_start w t ≡ Err TooLong
  next_start_none t c = ⊎_elim inside (next_start_out t) (minute_cases t)
    where
      inside : (first_minute ≤ t) × (t < end_minute) → next_start w t ≡ Err TooLong
      inside p =
          let e : t + (end_minute - t) ≡ end_minute = omega arith in
          next_start_in t p.0 p.1 ∙ least_none w (end_minute - t) t (omega (arith, ap (count w) e))

  pub next_start_none_idle : (t : ℕ) → ((v : ℕ) → t ≤ v → v < end_minute → w v ≡ false) → next_start w t ≡ Err TooLong
  next_start_none_idle t h = next_start_none t (⊎_elim (λ l. count_mono w (omega arith)) (λ l. omega (arith, gap w l h)) (cases_lt end_minute t))

  pub next_start_ways : (t : ℕ) → Ways (next_start w t) (λ u. IsNextStart w t u × (first_minute ≤ t) × (u < end_minute))
      ((in_years (t / 1440) ≡ false) ⊎ (count w end_minute ≤ count w t))
  next_start_ways t =
      ⊎_elim
      (λ p.
      ⊎_elim
      (λ l.
      let r = reach w end_minute (count w t) l in
      let s = next_start_of w r.2 r.3 in
      answers r.0 (next_start_at_is s p.0 r.1) (s, p.0, r.1)) (λ l. refuses (next_start_none t l) (inr l))
      (cases_lt (count w t) (count w end_minute))) (λ e. refuses (next_start_out t e) (inl e)) (minute_cases t)

  pub next_start_sound : {t u : ℕ} → next_start w t ≡ Ok u → IsNextStart w t u × (first_minute ≤ t) × (u < end_minute)
  next_start_sound {t} e = ways_sound (next_start_ways t) e

  pub next_start_refused : (t : ℕ) (k : ClockError) → next_start w t ≡ Err k → k ≡ TooLong
  next_start_refused t k e = ways_number (next_start_ways t) e

  pub next_start_why : (t : ℕ) (k : ClockError) → next_start w t ≡ Err k → (in_years (t / 1440) ≡ false) ⊎ (count w end_minute ≤ count w t)
  next_start_why t k e = ways_refused (next_start_ways t) e

  pub next_start_worked : (t : ℕ) → w t ≡ true → first_minute ≤ t → t < end_minute → next_start w t ≡ Ok t
  next_start_worked t h a b = next_start_at_is (next_start_here w h) a b

  -- ---- previous finish

  pub previous_finish_out : (t : ℕ) → in_years (t / 1440) ≡ false → previous_finish w t ≡ Err TooLong
  unfolding previous_finish
  previous_finish_out t e = reads_out Err _ _ e

  previous_finish_in : (t : ℕ) → first_minute ≤ t → t < end_minute → previous_finish w t ≡ greatest w (t - first_minute) t
  unfolding previous_finish
  previous_finish_in t a b = reads_in Err _ _ (minute_in t a b)

  pub previous_finish_at : {t u : ℕ} → first_minute < u → t < end_minute → closing w u ≡ true → count w u ≡ count w t
      → previous_finish w t ≡ Ok u
  previous_finish_at {t} {u} a b h c =
      let l : u ≤ t = (close_le w h).1 (omega arith) in
      previous_finish_in t (omega arith) b ∙ greatest_at w (t - first_minute) t u l (omega arith) h c

  pub previous_finish_at_is : {t u : ℕ} → IsPreviousFinish w t u → first_minute < u → t < end_minute → previous_finish w t ≡ Ok u
  previous_finish_at_is s a b = previous_finish_at a b s.closes (previous_finish_count w s)

  pub previous_finish_none : (t : ℕ) → count w t ≤ count w first_minute → previous_finish w t ≡ Err TooLong
  previous_finish_none t c = ⊎_elim inside (previous_finish_out t) (minute_cases t)
    where
      inside : (first_minute ≤ t) × (t < end_minute) → previous_finish w t ≡ Err TooLong
      inside p =
          let e : t - (t - first_minute) ≡ first_minute = omega arith in
          previous_finish_in t p.0 p.1 ∙ greatest_none w (t - first_minute) t (omega arith) (omega (arith, ap (count w) e))

  pub previous_finish_none_idle : (t : ℕ) → ((v : ℕ) → first_minute ≤ v → v < t → w v ≡ false) → previous_finish w t ≡ Err TooLong
  previous_finish_none_idle t h =
      previous_finish_none t (⊎_elim (λ l. count_mono w (omega arith)) (λ l. omega (arith, gap w l h)) (cases_lt t first_minute))

  pub previous_finish_ways : (t : ℕ) → Ways (previous_finish w t) (λ u. IsPreviousFinish w t u × (first_minute < u) × (t < end_minute))
      ((in_years (t / 1440) ≡ false) ⊎ (count w t ≤ count w first_minute))
  previous_finish_ways t =
      ⊎_elim
      (λ p.
      ⊎_elim
      (λ l.
      let r = reach w t (count w t - 1) (omega arith) in
      let s : IsPreviousFinish w t (suc r.0) =
      previous_finish_of w (closing_suc w r.0 ∙ r.2) (omega (arith, count_worked w r.0 r.2)) in
      let a : first_minute ≤ r.0 = (start_le w r.2).1 (omega arith) in
      answers (suc r.0) (previous_finish_at_is s (omega arith) p.1) (s, omega arith, p.1))
      (λ l. refuses (previous_finish_none t l) (inr l)) (cases_lt (count w first_minute) (count w t)))
      (λ e. refuses (previous_finish_out t e) (inl e)) (minute_cases t)

  pub previous_finish_sound : {t u : ℕ} → previous_finish w t ≡ Ok u → IsPreviousFinish w t u × (first_minute < u) × (t < end_minute)
  previous_finish_sound {t} e = ways_sound (previous_finish_ways t) e

  pub previous_finish_refused : (t : ℕ) (k : ClockError) → previous_finish w t ≡ Err k → k ≡ TooLong
  previous_finish_refused t k e = ways_number (previous_finish_ways t) e

  pub previous_finish_why : (t : ℕ) (k : ClockError) → previous_finish w t ≡ Err k → (in_years (t / 1440) ≡ false) ⊎ (count w t ≤ count w first_minute)
  previous_finish_why t k e = ways_refused (previous_finish_ways t) e

  pub previous_finish_closing : (t : ℕ) → closing w t ≡ true → first_minute < t → t < end_minute → previous_finish w t ≡ Ok t
  previous_finish_closing t h a b = previous_finish_at a b h refl

  -- ---- next finish

  pub next_finish_out : (t : ℕ) → in_years (t / 1440) ≡ false → next_finish w t ≡ Err TooLong
  unfolding next_finish
  next_finish_out t e = reads_out Err _ _ e

  -- the day of the minute before is read too
  pub next_finish_out_before : (t : ℕ) → in_years ((t - 1) / 1440) ≡ false → next_finish w t ≡ Err TooLong
  unfolding next_finish
  next_finish_out_before t e =
      ⊎_elim (λ p. reads_in Err _ _ (minute_in t p.0 p.1) ∙ reads_out Err _ _ e) (λ o. next_finish_out t o) (minute_cases t)

  pub next_finish_out_range : (t : ℕ) → (t ≤ first_minute) ⊎ (end_minute ≤ t) → next_finish w t ≡ Err TooLong
  next_finish_out_range t (inl l) = next_finish_out_before t (minute_before_lem (t - 1) (omega arith))
  next_finish_out_range t (inr l) = next_finish_out t (minute_after t l)

  pub next_finish_closing : (t : ℕ) → first_minute < t → t < end_minute → closing w t ≡ true → next_finish w t ≡ Ok t
  unfolding next_finish
  next_finish_closing t a b h =
      reads_in Err _ _ (minute_in t (omega arith) b) ∙ reads_in Err _ _ (minute_in (t - 1) (omega arith) (omega arith))
      ∙ on_true (closing w t) (Ok t) (next_start w t) h

  pub next_finish_else : (t : ℕ) → first_minute < t → t < end_minute → closing w t ≡ false → next_finish w t ≡ next_start w t
  unfolding next_finish
  next_finish_else t a b h =
      reads_in Err _ _ (minute_in t (omega arith) b) ∙ reads_in Err _ _ (minute_in (t - 1) (omega arith) (omega arith))
      ∙ on_false (closing w t) (Ok t) (next_start w t) h

  pub next_finish_at_is : {t u : ℕ} → IsNextFinish w t u → first_minute < t → u < end_minute → next_finish w t ≡ Ok u
  next_finish_at_is {t} {u} f a b =
      let l = next_finish_after w f in
      ⊎_elim (λ h. next_finish_closing t a (omega arith) h ∙ ap Ok (sym (f.here h)))
      (λ h. next_finish_else t a (omega arith) h ∙ next_start_at_is (f.later h) (omega arith) b) (cases_Bool (closing w t))

  pub next_finish_at : {t u : ℕ} → first_minute < t → u < end_minute → closing w t ≡ false → w u ≡ true
      → count w u ≡ count w t → next_finish w t ≡ Ok u
  next_finish_at a b h k c = next_finish_at_is (next_finish_later w h (next_start_of w k c)) a b

  pub next_finish_none : (t : ℕ) → closing w t ≡ false → count w end_minute ≤ count w t → next_finish w t ≡ Err TooLong
  next_finish_none t h c =
      ⊎_elim (λ l. ⊎_elim (λ r. next_finish_else t l r h ∙ next_start_none t c) (λ r. next_finish_out_range t (inr r)) (cases_lt t end_minute))
      (λ l. next_finish_out_range t (inl l)) (cases_lt first_minute t)

  pub next_finish_ways : (t : ℕ) → Ways (next_finish w t) (λ u. IsNextFinish w t u × (first_minute < t) × (u < end_minute))
      ((t ≤ first_minute) ⊎ (end_minute ≤ t) ⊎ ((closing w t ≡ false) × (count w end_minute ≤ count w t)))
  next_finish_ways t =
      ⊎_elim
      (λ l.
      ⊎_elim
      (λ r.
      ⊎_elim (λ h. answers t (next_finish_closing t l r h) (next_finish_here w h, l, r))
      (λ h.
      ⊎_elim
      (λ c.
      let x = reach w end_minute (count w t) c in
      let f = next_finish_later w h (next_start_of w x.2 x.3) in
      answers x.0 (next_finish_at_is f l x.1) (f, l, x.1)) (λ c. refuses (next_finish_none t h c) (inr (inr (h, c))))
      (cases_lt (count w t) (count w end_minute))) (cases_Bool (closing w t)))
      (λ r. refuses (next_finish_out_range t (inr r)) (inr (inl r))) (cases_lt t end_minute))
      (λ l. refuses (next_finish_out_range t (inl l)) (inl l)) (cases_lt first_minute t)

  pub next_finish_sound : {t u : ℕ} → next_finish w t ≡ Ok u → IsNextFinish w t u × (first_minute < t) × (u < end_minute)
  next_finish_sound {t} e = ways_sound (next_finish_ways t) e

  pub next_finish_refused : (t : ℕ) (k : ClockError) → next_finish w t ≡ Err k → k ≡ TooLong
  next_finish_refused t k e = ways_number (next_finish_ways t) e

  pub next_finish_why : (t : ℕ) (k : ClockError) → next_finish w t ≡ Err k
      → (t ≤ first_minute) ⊎ (end_minute ≤ t) ⊎ ((closing w t ≡ false) × (count w end_minute ≤ count w t))
  next_finish_why t k e = ways_refused (next_finish_ways t) e

  -- ---- previous start: "`previous_start` goes forward"

  pub previous_start_out : (t : ℕ) → in_years (t / 1440) ≡ false → previous_start w t ≡ Err TooLong
  unfolding previous_start
  previous_start_out t e = reads_out Err _ _ e

  pub previous_start_next : (t : ℕ) → previous_start w t ≡ next_start w t
  unfolding previous_start
  previous_start_next t =
      ⊎_elim
      (λ p.
      reads_in Err _ _ (minute_in t p.0 p.1)
      ∙ ⊎_elim (λ h. on_true (w t) (Ok t) (next_start w t) h ∙ sym (next_start_worked t h p.0 p.1))
      (λ h. on_false (w t) (Ok t) (next_start w t) h) (cases_Bool (w t)))
      (λ o. reads_out Err _ _ o ∙ sym (next_start_out t o)) (minute_cases t)

  -- ---- start by: the greatest worked minute at or before t

  pub start_by_out : (t : ℕ) → in_years (t / 1440) ≡ false → start_by w t ≡ Err TooLong
  unfolding start_by
  start_by_out t e = reads_out Err _ _ e

  pub start_by_worked : (t : ℕ) → w t ≡ true → first_minute ≤ t → t < end_minute → start_by w t ≡ Ok t
  unfolding start_by
  start_by_worked t h a b =
      reads_in Err _ _ (minute_in t a b) ∙ on_true (w t) (Ok t) (minute_before (previous_finish w t)) h

  pub start_by_else : (t : ℕ) → w t ≡ false → start_by w t ≡ minute_before (previous_finish w t)
  unfolding start_by
  start_by_else t h =
      ⊎_elim (λ p. reads_in Err _ _ (minute_in t p.0 p.1) ∙ on_false (w t) (Ok t) (minute_before (previous_finish w t)) h)
      (λ o. reads_out Err _ _ o ∙ sym (ap minute_before (previous_finish_out t o))) (minute_cases t)

  pub start_by_at : {t u : ℕ} → first_minute ≤ u → t < end_minute → w u ≡ true → count w (suc u) ≡ count w (suc t) → start_by w t ≡ Ok u
  start_by_at {t} {u} a b h c = ⊎_elim here before (cases_Bool (w t))
    where
      here : w t ≡ true → start_by w t ≡ Ok u
      here e =
          let same : t ≡ u = start_unique w e h (omega (arith, count_worked w t e, count_worked w u h)) in
          start_by_worked t e (omega arith) b ∙ ap Ok same

      before : w t ≡ false → start_by w t ≡ Ok u
      before e =
          let less : suc u - 1 ≡ u = omega arith in
          start_by_else t e
          ∙ ap minute_before (previous_finish_at {u = suc u} (omega arith) b (closing_suc w u ∙ h) (c ∙ count_idle w t e))
          ∙ ap Ok less

  pub start_by_none : (t : ℕ) → count w (suc t) ≤ count w first_minute → start_by w t ≡ Err TooLong
  start_by_none t c =
      ⊎_elim
      (λ h.
      ⊎_elim (λ l. start_by_out t (minute_before_lem t l))
      (λ l. absurd (let m = count_mono w l in omega (arith, count_worked w t h))) (cases_lt t first_minute))
      (λ h. start_by_else t h ∙ ap minute_before (previous_finish_none t (omega (arith, count_idle w t h)))) (cases_Bool (w t))

  pub start_by_ways : (t : ℕ) → Ways (start_by w t)
      (λ u. (w u ≡ true) × (u ≤ t) × ((v : ℕ) → v ≤ t → w v ≡ true → v ≤ u) × (first_minute ≤ u) × (t < end_minute))
      ((in_years (t / 1440) ≡ false) ⊎ (count w (suc t) ≤ count w first_minute))
  start_by_ways t =
      ⊎_elim
      (λ p.
      ⊎_elim
      (λ l.
      let r = reach w (suc t) (count w (suc t) - 1) (omega arith) in
      let a : first_minute ≤ r.0 = (start_le w r.2).1 (omega arith) in
      answers r.0 (start_by_at a p.1 r.2 (omega (arith, count_worked w r.0 r.2))) (
        r.2,
        omega (arith, r.1),
        λ v b h. (start_le w r.2).1 (omega (arith, r.3, count_worked w v h, count_mono w {s = suc v} {t = suc t} (omega arith))),
        a,
        p.1,
      )) (λ l. refuses (start_by_none t l) (inr l)) (cases_lt (count w first_minute) (count w (suc t))))
      (λ e. refuses (start_by_out t e) (inl e)) (minute_cases t)

  pub start_by_sound : (t u : ℕ) → start_by w t ≡ Ok u
      → (w u ≡ true) × (u ≤ t) × ((v : ℕ) → v ≤ t → w v ≡ true → v ≤ u) × (first_minute ≤ u) × (t < end_minute)
  start_by_sound t u e = ways_sound (start_by_ways t) e

  pub start_by_refused : (t : ℕ) (k : ClockError) → start_by w t ≡ Err k → k ≡ TooLong
  start_by_refused t k e = ways_number (start_by_ways t) e

  pub start_by_why : (t : ℕ) (k : ClockError) → start_by w t ≡ Err k → (in_years (t / 1440) ≡ false) ⊎ (count w (suc t) ≤ count w first_minute)
  start_by_why t k e = ways_refused (start_by_ways t) e
