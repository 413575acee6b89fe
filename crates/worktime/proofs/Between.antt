-- The worked minutes between two times, on a day and before a time of it are differences of counts, refused with 8 just outside the years.
use Rattle.std.specs.Prelude.{◌≡◌, Bool, true, false, ◌⊎◌, ℕ, zero, suc, ◌+◌, ◌-◌, ◌*◌, ◌/◌, ◌%◌, ◌≤◌, ◌<◌, leb, ℤ, pos, negsuc, neg_ℤ, ◌+ℤ◌, ◌-ℤ◌, Result, Ok, Err}
use Rattle.worktime.specs.declared.ClockError.{ClockError}
use Rattle.worktime.specs.declared.ClockError.TheVariants.{TooLong}
use Rattle.std.proofs.Common.{sym, ap, ◌∙◌, inl, inr, arith, le-leb, lt-ltb, le-ltb}
use Rattle.std.proofs.Math.Logic.{⊎_elim}
use Rattle.std.proofs.lemmas.Bool.{lt-leb}
use Rattle.std.proofs.Math.IntN.{neg_ℤ-neg_ℤ, +ℤ_comm, +ℤ_assoc, -ℤ-+ℤ_cancel}
use Rattle.date.specs.Years.{in_years}
use Rattle.std.proofs.lemmas.Bool.{cases_Bool, cases_lt}
use Rattle.worktime.specs.Worked.{count, IsAdvance, IsRetreat}
use Rattle.worktime.specs.Walks.{first_minute, end_minute, spanned, work_from, between, day_work, worked_before}
use Rattle.worktime.specs.Count.{count_mono, count_spanned, spanned_to}
use Rattle.worktime.specs.Reads.{minute_in, on_true, on_false, reads_in, reads_out}

-- ---- differences of ℤ

less_up : (x y n : ℕ) → x + n ≡ y → pos y -ℤ pos x ≡ pos n
less_up zero y n e = let z : y + 0 ≡ n = omega arith in ap pos z
less_up (suc x) y n e = let z : y - suc x ≡ n = omega arith in rw (le-ltb y (suc x) (omega arith)) (ap pos z)

less_down : (x y n : ℕ) → y + n ≡ x → pos y -ℤ pos x ≡ neg_ℤ (pos n)
less_down x y zero e = less_up x y 0 (omega arith)
less_down zero y (suc n) e = absurd (omega arith)
less_down (suc x) y (suc n) e = let z : suc x - suc y ≡ n = omega arith in rw (lt-ltb y (suc x) (omega arith)) (ap negsuc z)

less_add : (a b c : ℤ) → (b -ℤ a) +ℤ (c -ℤ b) ≡ c -ℤ a
less_add a b c = +ℤ_comm (b -ℤ a) (c -ℤ b) ∙ sym (+ℤ_assoc (c -ℤ b) b (neg_ℤ a)) ∙ ap (λ x. x +ℤ neg_ℤ a) (-ℤ-+ℤ_cancel c b)

minutes_or_refused : {x : Result ℤ ClockError} {z : ℤ} {k : ClockError} → x ≡ Ok z → x ≡ Err k → ⊥
minutes_or_refused p q = let e : ◌≡◌ {A = ℕ} 0 1 = cc in omega arith

module _ (w : ℕ → Bool) where
  -- ---- from one time to another

  work_from_le : (a b : ℕ) → a ≤ b → work_from w a b ≡ pos (spanned w a (b - a))
  unfolding work_from
  work_from_le a b l = on_true (leb a b) _ (neg_ℤ (pos (spanned w b (a - b)))) (le-leb a b l)

  work_from_lt : (a b : ℕ) → b < a → work_from w a b ≡ neg_ℤ (pos (spanned w b (a - b)))
  unfolding work_from
  work_from_lt a b l = on_false (leb a b) (pos (spanned w a (b - a))) _ (lt-leb a b l)

  pub work_from_up : (a b n : ℕ) → count w a + n ≡ count w b → work_from w a b ≡ pos n
  work_from_up a b n c =
      ⊎_elim
      (λ l.
      let e : spanned w b (a - b) ≡ 0 = omega (arith, spanned_to w {t = b} {u = a} (omega arith), count_mono w {s = b} {t = a} (omega arith)) in
      let z : 0 ≡ n = omega (arith, count_mono w {s = b} {t = a} (omega arith)) in
      work_from_lt a b l ∙ ap (λ x. neg_ℤ (pos x)) e ∙ ap pos z)
      (λ l. let e : spanned w a (b - a) ≡ n = omega (arith, spanned_to w l) in work_from_le a b l ∙ ap pos e) (cases_lt b a)

  pub work_from_down : (a b n : ℕ) → count w b + n ≡ count w a → work_from w a b ≡ neg_ℤ (pos n)
  work_from_down a b n c =
      ⊎_elim
      (λ l.
      let e : spanned w b (a - b) ≡ n = omega (arith, spanned_to w {t = b} {u = a} (omega arith)) in
      work_from_lt a b l ∙ ap (λ x. neg_ℤ (pos x)) e)
      (λ l.
      let e : spanned w a (b - a) ≡ 0 = omega (arith, spanned_to w l, count_mono w l) in
      let z : 0 ≡ n = omega (arith, count_mono w l) in
      work_from_le a b l ∙ ap pos e ∙ ap (λ x. neg_ℤ (pos x)) z) (cases_lt b a)

  pub work_from_forward : (a b : ℕ) → a ≤ b → work_from w a b ≡ pos (count w b - count w a)
  work_from_forward a b l = work_from_up a b (count w b - count w a) (omega (arith, count_mono w l))

  pub work_from_back : (a b : ℕ) → b ≤ a → work_from w a b ≡ neg_ℤ (pos (count w a - count w b))
  work_from_back a b l = work_from_down a b (count w a - count w b) (omega (arith, count_mono w l))

  -- whichever comes first
  pub work_from_less : (a b : ℕ) → work_from w a b ≡ pos (count w b) -ℤ pos (count w a)
  work_from_less a b =
      ⊎_elim
      (λ l.
      let c : count w b + (count w a - count w b) ≡ count w a = omega (arith, count_mono w {s = b} {t = a} (omega arith)) in
      work_from_down a b _ c ∙ sym (less_down _ _ _ c))
      (λ l.
      let c : count w a + (count w b - count w a) ≡ count w b = omega (arith, count_mono w l) in
      work_from_up a b _ c ∙ sym (less_up _ _ _ c)) (cases_lt b a)

  -- by way of another time it is the sum
  pub work_from_add : (a b c : ℕ) → work_from w a b +ℤ work_from w b c ≡ work_from w a c
  work_from_add a b c =
      rw (work_from_less a b, work_from_less b c, work_from_less a c) (less_add (pos (count w a)) (pos (count w b)) (pos (count w c)))

  -- the other way round it is the same with the other sign
  pub work_from_neg : (a b : ℕ) → work_from w b a ≡ neg_ℤ (work_from w a b)
  work_from_neg a b =
      ⊎_elim
      (λ l.
      let c : count w b + (count w a - count w b) ≡ count w a = omega (arith, count_mono w {s = b} {t = a} (omega arith)) in
      work_from_up b a _ c ∙ sym (ap neg_ℤ (work_from_down a b _ c) ∙ neg_ℤ-neg_ℤ _))
      (λ l.
      let c : count w a + (count w b - count w a) ≡ count w b = omega (arith, count_mono w l) in
      work_from_down b a _ c ∙ sym (ap neg_ℤ (work_from_up a b _ c))) (cases_lt b a)

  -- what the relations say in worked minutes
  pub work_from_advance : {t n u : ℕ} → IsAdvance w t n u → work_from w t u ≡ pos n
  work_from_advance {t} {n} {u} a = work_from_up t u n (sym a.total)

  pub work_from_retreat : {t n u : ℕ} → IsRetreat w t n u → work_from w u t ≡ pos n
  work_from_retreat {t} {n} {u} a = work_from_up u t n a.total

  -- ---- between

  pub between_out_first : (a b : ℕ) → in_years (a / 1440) ≡ false → between w a b ≡ Err TooLong
  unfolding between
  between_out_first a b e = reads_out Err _ _ e

  pub between_out_second : (a b : ℕ) → in_years (b / 1440) ≡ false → between w a b ≡ Err TooLong
  unfolding between
  between_out_second a b e =
      ⊎_elim (λ h. reads_in Err _ _ h ∙ reads_out Err _ _ e) (λ h. between_out_first a b h) (cases_Bool (in_years (a / 1440)))

  pub between_in : (a b : ℕ) → in_years (a / 1440) ≡ true → in_years (b / 1440) ≡ true → between w a b ≡ Ok (work_from w a b)
  unfolding between
  between_in a b e f = reads_in Err _ _ e ∙ reads_in Err _ _ f

  pub between_up : (a b n : ℕ) → in_years (a / 1440) ≡ true → in_years (b / 1440) ≡ true → count w a + n ≡ count w b
      → between w a b ≡ Ok (pos n)
  between_up a b n e f c = between_in a b e f ∙ ap Ok (work_from_up a b n c)

  pub between_down : (a b n : ℕ) → in_years (a / 1440) ≡ true → in_years (b / 1440) ≡ true → count w b + n ≡ count w a
      → between w a b ≡ Ok (neg_ℤ (pos n))
  between_down a b n e f c = between_in a b e f ∙ ap Ok (work_from_down a b n c)

  pub between_forward : (a b : ℕ) → first_minute ≤ a → a ≤ b → b < end_minute → between w a b ≡ Ok (pos (count w b - count w a))
  between_forward a b x l y =
      between_in a b (minute_in a x (omega arith)) (minute_in b (omega arith) y) ∙ ap Ok (work_from_forward a b l)

  pub between_back : (a b : ℕ) → first_minute ≤ b → b ≤ a → a < end_minute
      → between w a b ≡ Ok (neg_ℤ (pos (count w a - count w b)))
  between_back a b x l y =
      between_in a b (minute_in a (omega arith) y) (minute_in b x (omega arith)) ∙ ap Ok (work_from_back a b l)

  pub between_sound : (a b : ℕ) (z : ℤ) → between w a b ≡ Ok z
      → (z ≡ work_from w a b) × (in_years (a / 1440) ≡ true) × (in_years (b / 1440) ≡ true)
  between_sound a b z e =
      ⊎_elim
      (λ x.
      ⊎_elim (λ y. let f = between_in a b x y in (cc, x, y))
      (λ y. absurd (minutes_or_refused e (between_out_second a b y))) (cases_Bool (in_years (b / 1440))))
      (λ x. absurd (minutes_or_refused e (between_out_first a b x))) (cases_Bool (in_years (a / 1440)))

  pub between_why : (a b : ℕ) (k : ClockError) → between w a b ≡ Err k
      → (k ≡ TooLong) × ((in_years (a / 1440) ≡ false) ⊎ (in_years (b / 1440) ≡ false))
  between_why a b k e =
      ⊎_elim
      (λ x.
      ⊎_elim (λ y. absurd (minutes_or_refused (between_in a b x y) e)) (λ y. let f = between_out_second a b y in (cc, inr y))
      (cases_Bool (in_years (b / 1440)))) (λ x. let f = between_out_first a b x in (cc, inl x)) (cases_Bool (in_years (a / 1440)))

  pub between_refused : (a b : ℕ) (k : ClockError) → between w a b ≡ Err k → k ≡ TooLong
  between_refused a b k e = (between_why a b k e).0

  -- ---- the minutes worked on a day

  pub day_work_out : (d : ℕ) → in_years d ≡ false → day_work w d ≡ Err TooLong
  unfolding day_work
  day_work_out d e = reads_out Err _ _ e

  day_work_in : (d : ℕ) → in_years d ≡ true → day_work w d ≡ Ok (pos (spanned w (d * 1440) 1440))
  unfolding day_work
  day_work_in d e = reads_in Err _ _ e

  pub day_work_at : (d n : ℕ) → in_years d ≡ true → count w (d * 1440) + n ≡ count w (d * 1440 + 1440) → day_work w d ≡ Ok (pos n)
  day_work_at d n e c =
      let s : spanned w (d * 1440) 1440 ≡ n = omega (arith, count_spanned w (d * 1440) 1440) in
      day_work_in d e ∙ ap (λ x. Ok (pos x)) s

  pub day_work_sound : (d : ℕ) (z : ℤ) → day_work w d ≡ Ok z
      → (z ≡ pos (count w (d * 1440 + 1440) - count w (d * 1440))) × (in_years d ≡ true)
  day_work_sound d z e =
      let c : count w (d * 1440) + (count w (d * 1440 + 1440) - count w (d * 1440)) ≡ count w (d * 1440 + 1440) =
      omega (arith, count_mono w {s = d * 1440} {t = d * 1440 + 1440} (omega arith)) in
      ⊎_elim (λ x. let f = day_work_at d (count w (d * 1440 + 1440) - count w (d * 1440)) x c in (cc, x))
      (λ x. absurd (minutes_or_refused e (day_work_out d x))) (cases_Bool (in_years d))

  pub day_work_why : (d : ℕ) (k : ClockError) → day_work w d ≡ Err k → (k ≡ TooLong) × (in_years d ≡ false)
  day_work_why d k e =
      ⊎_elim (λ x. absurd (minutes_or_refused (day_work_in d x) e)) (λ x. let f = day_work_out d x in (cc, x)) (cases_Bool (in_years d))

  pub day_work_refused : (d : ℕ) (k : ClockError) → day_work w d ≡ Err k → k ≡ TooLong
  day_work_refused d k e = (day_work_why d k e).0

  -- ---- the minutes worked on t's day before t

  pub worked_before_out : (t : ℕ) → in_years (t / 1440) ≡ false → worked_before w t ≡ Err TooLong
  unfolding worked_before
  worked_before_out t e = reads_out Err _ _ e

  worked_before_in : (t : ℕ) → in_years (t / 1440) ≡ true → worked_before w t ≡ Ok (pos (spanned w (t / 1440 * 1440) (t % 1440)))
  unfolding worked_before
  worked_before_in t e = reads_in Err _ _ e

  pub worked_before_at : (t n : ℕ) → in_years (t / 1440) ≡ true → count w (t / 1440 * 1440) + n ≡ count w t
      → worked_before w t ≡ Ok (pos n)
  worked_before_at t n e c =
      let m : t / 1440 * 1440 + t % 1440 ≡ t = omega arith in
      let s : spanned w (t / 1440 * 1440) (t % 1440) ≡ n = omega (arith, count_spanned w (t / 1440 * 1440) (t % 1440), ap (count w) m) in
      worked_before_in t e ∙ ap (λ x. Ok (pos x)) s

  pub worked_before_sound : (t : ℕ) (z : ℤ) → worked_before w t ≡ Ok z
      → (z ≡ pos (count w t - count w (t / 1440 * 1440))) × (in_years (t / 1440) ≡ true)
  worked_before_sound t z e =
      let c : count w (t / 1440 * 1440) + (count w t - count w (t / 1440 * 1440)) ≡ count w t =
      omega (arith, count_mono w {s = t / 1440 * 1440} {t = t} (omega arith)) in
      ⊎_elim (λ x. let f = worked_before_at t (count w t - count w (t / 1440 * 1440)) x c in (cc, x))
      (λ x. absurd (minutes_or_refused e (worked_before_out t x))) (cases_Bool (in_years (t / 1440)))

  pub worked_before_why : (t : ℕ) (k : ClockError) → worked_before w t ≡ Err k → (k ≡ TooLong) × (in_years (t / 1440) ≡ false)
  worked_before_why t k e =
      ⊎_elim (λ x. absurd (minutes_or_refused (worked_before_in t x) e)) (λ x. let f = worked_before_out t x in (cc, x))
      (cases_Bool (in_years (t / 1440)))

  pub worked_before_refused : (t : ℕ) (k : ClockError) → worked_before w t ≡ Err k → k ≡ TooLong
  worked_before_refused t k e = (worked_before_why t k e).0
