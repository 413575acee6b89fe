-- The E records of a day stand together, and its hours are theirs or the week's.
use Rattle.std.specs.Prelude.{◌≡◌, refl, List, [], ◌∷◌, ◌++◌, length, get_or}
use Rattle.std.proofs.Common.{sym, ap, ◌∙◌, ⊎_elim, add-one, length-append}
use Prim.Native.Nat.{ℕ, zero, suc, ◌+◌, ◌-◌, ◌*◌, ◌≤◌, ◌<◌}
use native.Mathlib.Omega.{arith}
use Rattle.std.proofs.Math.Nat.{add-zero}
use borrow.Author.Tests.{eq-eqb, ne_eqb}
use Rattle.std.proofs.Math.ListN.{get_or-append}
use Rattle.std.proofs.lemmas.List.{get_or_at}
use Rattle.number.specs.Order.{lt_or_le, zero_or_pos}
use Rattle.number.specs.Bytes.{u16_at}
use Rattle.calendar.specs.declared.Period.{Period}
use Rattle.calendar.specs.declared.hours.Hours.{Hours}
use Rattle.calendar.specs.Hours.{none}
use Rattle.calendar.specs.Records.{exception_day, exception_period, exceptions_on, hours_on, FirstFrom, record_periods, periods_of, InHand}
use Rattle.date.specs.Days.{weekday}

-- ---- exceptions_on, a record at a time
module _ (s : List ℕ) (at d i : ℕ) where
  pub on_take : exception_day s at i ≡ d → exceptions_on s at d (i + 1) ≡ exceptions_on s at d i ++ (exception_period s at i ∷ [])
  unfolding exceptions_on
  on_take e = rw (add-one i, eq-eqb (exception_day s at i) d e, exceptions_on)

  pub on_skip : (exception_day s at i ≡ d → ⊥) → exceptions_on s at d (i + 1) ≡ exceptions_on s at d i
  unfolding exceptions_on
  on_skip e = rw (add-one i, ne_eqb (exception_day s at i) d e, exceptions_on)

-- records of other days add nothing
pub on_rest : (s : List ℕ) (at d i k : ℕ) → ((j : ℕ) → i ≤ j → j < i + k → exception_day s at j ≡ d → ⊥) → exceptions_on s at d (i + k) ≡ exceptions_on s at d i
on_rest s at d i zero f = rw add-zero
on_rest s at d i (suc k) f =
    let e : i + suc k ≡ i + k + 1 = omega arith in
    rw e (on_skip s at d (i + k) (f (i + k) (omega arith) (omega arith)) ∙ on_rest s at d i k (λ j x y. f j x (omega arith)))

-- ---- the two ways of a day's hours
module _ (week : List (List Period)) (s : List ℕ) (at n d : ℕ) where
  pub hours_week : exceptions_on s at d n ≡ [] → hours_on week s at n d ≡ get_or week (weekday d) []
  unfolding hours_on
  hours_week e = rw (e, hours_on)

  pub hours_own : 0 < length (exceptions_on s at d n) → hours_on week s at n d ≡ exceptions_on s at d n
  unfolding hours_on
  hours_own l = rw (ne_eqb (length (exceptions_on s at d n)) 0 (omega arith), hours_on)

pub hours_plain : (week : List (List Period)) (s : List ℕ) (at d : ℕ) → hours_on week s at 0 d ≡ get_or week (weekday d) []
unfolding exceptions_on
hours_plain week s at d = hours_week week s at 0 d refl

-- ---- record_periods
pub records_step : (s : List ℕ) (at i : ℕ) → record_periods s at (i + 1) ≡ record_periods s at i ++ (exception_period s at i ∷ [])
unfolding record_periods
records_step s at i = rw (add-one i)

pub records_length : (s : List ℕ) (at n : ℕ) → length (record_periods s at n) ≡ n
unfolding record_periods
records_length s at zero = refl
records_length s at (suc n) = omega (arith, length-append (record_periods s at n) (exception_period s at n ∷ []), records_length s at n)

pub records_get : (s : List ℕ) (at n i : ℕ) → i < n → get_or (record_periods s at n) i none ≡ exception_period s at i
unfolding record_periods
records_get s at zero i l = absurd (omega arith)
records_get s at (suc n) i l =
    ⊎_elim (λ h. get_or-append (record_periods s at n) (exception_period s at n ∷ []) none i (omega (arith, records_length s at n)) ∙ records_get s at n i h)
    (λ h. let e : i ≡ n = omega arith in rw e (get_or_at (record_periods s at n) (exception_period s at n) [] none n (records_length s at n)))
    (lt_or_le i n)

-- the record that a loop over them reads
pub record_get : (s : List ℕ) (at n i : ℕ) (p : Period) → i < n → p ≡ exception_period s at i → (p ≡ get_or (record_periods s at n) i none) × (i < length (record_periods s at n))
record_get s at n i p l e = (e ∙ sym (records_get s at n i l), omega (arith, records_length s at n))

pub records_none : (s : List ℕ) (at : ℕ) → record_periods s at 0 ≡ []
unfolding record_periods
records_none s at = refl

-- ---- the two ways of hours in hand
module _ (h : Hours) where
  pub of_row : h.records.n ≡ 0 → periods_of h ≡ h.row
  unfolding periods_of
  of_row e = rw (eq-eqb h.records.n 0 e, periods_of)

  pub of_records : 0 < h.records.n → periods_of h ≡ record_periods h.records.sheet.now h.records.at h.records.n
  unfolding periods_of
  of_records l = rw (ne_eqb h.records.n 0 (omega arith), periods_of)

-- ---- the records of day d are those from `from` up to `to`
exception_shift : (s : List ℕ) (at f i : ℕ) → exception_period s (at + 9 * f) i ≡ exception_period s at (f + i)
exception_shift s at f i =
    let a : at + 9 * f + 9 * i + 5 ≡ at + 9 * (f + i) + 5 = omega arith in
    let b : at + 9 * f + 9 * i + 7 ≡ at + 9 * (f + i) + 7 = omega arith in
    λ x. record { from = u16_at s (a x); to = u16_at s (b x) }

module _ (s : List ℕ) (at n d from to : ℕ) (lo : FirstFrom s at n d from) (hi : FirstFrom s at n (d + 1) to) where
  pub day_in : (j : ℕ) → from ≤ j → j < to → exception_day s at j ≡ d
  day_in j x y = omega (arith, lo.above j x (omega (arith, hi.within)), hi.below j y)

  pub on_first : exceptions_on s at d from ≡ []
  unfolding exceptions_on
  on_first = let e : 0 + from ≡ from = omega arith in rw e at (on_rest s at d 0 from (λ j x y z. omega (arith, lo.below j (omega arith))))

  pub on_last : exceptions_on s at d n ≡ exceptions_on s at d to
  on_last =
      let e : to + (n - to) ≡ n = omega (arith, hi.within) in
      rw e at (on_rest s at d to (n - to) (λ j x y z. omega (arith, hi.within, hi.above j x (omega (arith, hi.within)))))

  pub from_to : from ≤ to
  from_to = ⊎_elim (λ q. absurd (omega (arith, lo.below to q, hi.above to (omega arith) (omega (arith, lo.within))))) (λ q. q) (lt_or_le to from)

  on_records : (k : ℕ) → from + k ≤ to → exceptions_on s at d (from + k) ≡ record_periods s (at + 9 * from) k
  unfolding record_periods
  on_records zero l = rw add-zero on_first
  on_records (suc k) l =
      let e : from + suc k ≡ from + k + 1 = omega arith in
      rw (e, on_take s at d (from + k) (day_in (from + k) (omega arith) (omega arith)), on_records k (omega arith), exception_shift s at from k)

  pub on_all : exceptions_on s at d n ≡ record_periods s (at + 9 * from) (to - from)
  on_all = let e : from + (to - from) ≡ to = omega (arith, from_to) in on_last ∙ (rw e at (on_records (to - from) (omega (arith, from_to))))

  -- the hours of day d, its row and where its records stand
  pub hours_in_hand : (week : List (List Period)) (h : Hours) → h.row ≡ get_or week (weekday d) [] → h.records.sheet.now ≡ s → h.records.at ≡ at + 9 * from → h.records.n ≡ to - from
      → periods_of h ≡ hours_on week s at n d
  hours_in_hand week h r t a m =
      let l : length (exceptions_on s at d n) ≡ to - from = rw on_all (records_length s (at + 9 * from) (to - from)) in
      ⊎_elim
      (λ z. of_row h (omega arith) ∙ r ∙ sym (hours_week week s at n d (on_all ∙ (ap (record_periods s (at + 9 * from)) z ∙ records_none s (at + 9 * from)))))
      (λ z. of_records h (omega arith) ∙ rw (t, a, m) (sym on_all) ∙ sym (hours_own week s at n d (omega arith)))
      (zero_or_pos (to - from))

  -- and so in every week with that row
  pub in_hand : (h : Hours) → h.records.sheet.now ≡ s → h.records.at ≡ at + 9 * from → h.records.n ≡ to - from → InHand h.row s at n d h
  in_hand h t a m =
      record {
        within = h.records.within;
        is = λ week r. hours_in_hand week h (sym r) t a m;
      }

  -- where the next day's records begin, and where the day's own do
  pub next_from : FirstFrom s at n (d + 1) (from + (to - from))
  next_from = let e : from + (to - from) ≡ to = omega (arith, from_to) in rw e hi

  pub day_from : FirstFrom s at n d (to - (to - from))
  day_from = let e : to - (to - from) ≡ from = omega (arith, from_to) in rw e lo
