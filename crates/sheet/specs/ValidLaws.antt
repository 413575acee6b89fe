-- What is known of a calendar once its W and E records are counted: just what the crate `calendar` asks of one.
use Rattle.std.specs.Prelude.{◌≡◌, refl, true, false, List, [], ◌∷◌, ◌++◌, eqb, get_or}
use Rattle.std.proofs.Math.Path.{ap}
use Rattle.std.proofs.Common.{◌∙◌}
use Rattle.std.proofs.Math.Logic.{⊎_elim}
use Prim.Native.Nat.{ℕ, zero, suc, ◌-◌, ◌≤◌, ◌<◌}
use native.Mathlib.Omega.{arith}
use Rattle.std.proofs.Math.ListN.{length, length-append}
use Rattle.number.specs.Order.{lt_or_le, eq_or_ne, zero_or_pos}
use Rattle.calendar.specs.declared.Period.{Period}
use Rattle.calendar.specs.Hours.{Ordered}
use Rattle.calendar.specs.Records.{weekday_at, week_period_at, week_periods, week_of, exception_day, exception_period, exceptions_on, Valid}
use Rattle.date.specs.Days.{weekday}
use Rattle.calendar.specs.WeekLaws.{week_row}
use Rattle.calendar.specs.DayLaws.{hours_week, hours_own}
use Rattle.sheet.specs.declared.runs.RecordKind.TheVariants.{Week, Exception}
use Rattle.sheet.specs.RunLaws.{Counted}
use Rattle.sheet.specs.JudgeLaws.{WeekStands, week_stands, week_after_lem, ExceptionStands, exception_stands, exception_after_lem}
use Rattle.sheet.specs.InOrder.{InOrder, chosen, chosen_take, chosen_skip, keys_sorted, chosen_ordered, ordered_pad}

abbrev pub WeeksCounted : List ℕ → ℕ → ℕ → Type 0
WeeksCounted s at w = Counted s Week at w

abbrev pub ExceptionsCounted : List ℕ → ℕ → ℕ → Type 0
ExceptionsCounted s at e = Counted s Exception at e

-- ---- W
week_chosen : (s : List ℕ) (at k n : ℕ) → week_periods s at k n ≡ chosen (weekday_at s at) (week_period_at s at) k n
unfolding week_periods chosen
week_chosen s at k zero = refl
week_chosen s at k (suc n) = ap (λ (ps : List Period). elim (eqb (weekday_at s at n) k) [ true ↦ ps ++ (week_period_at s at n ∷ []) | false ↦ ps ]) (week_chosen s at k n)

module _ (s : List ℕ) (at w : ℕ) (counted : WeeksCounted s at w) where
  stands : (i : ℕ) → i < w → WeekStands s at i
  stands i l = week_stands s at i (counted.stands i l)

  weeks_in_order : InOrder (weekday_at s at) (week_period_at s at) w
  weeks_in_order =
      record {
        midnight = λ i l. (stands i l).midnight;
        forward = λ i l. omega (arith, (stands i l).hours);
        hours = λ i l z. (stands i l).hours;
        after = λ i l. week_after_lem s at i (stands (suc i) l).after;
      }

  pub weekdays : (i : ℕ) → i < w → weekday_at s at i < 7
  weekdays i l = (stands i l).weekday

  pub week_ordered : (k : ℕ) → Ordered 0 (week_periods s at k w)
  week_ordered k = rw (week_chosen s at k w) (chosen_ordered (weekday_at s at) (week_period_at s at) w weeks_in_order k w (omega arith))

  -- "at most 8 a weekday"
  few : (k n : ℕ) → n ≤ w → length (chosen (weekday_at s at) (week_period_at s at) k n) ≤ 8
  unfolding chosen
  few k zero l = omega arith
  few k (suc n) l =
      ⊎_elim
      (λ q.
      let p = chosen (weekday_at s at) (week_period_at s at) k n in
      let e : length (week_periods s at (weekday_at s at n) n) ≡ length p = ap length (ap (λ (j : ℕ). week_periods s at j n) q ∙ week_chosen s at k n) in
      let f : length (p ++ (week_period_at s at n ∷ [])) ≤ 8 = omega (arith, length-append p (week_period_at s at n ∷ []), (stands n l).few) in
      rw (chosen_take (weekday_at s at) (week_period_at s at) k n q) f)
      (λ q. rw (chosen_skip (weekday_at s at) (week_period_at s at) k n q) (few k n (omega arith))) (eq_or_ne (weekday_at s at n) k)

  pub week_few : (k : ℕ) → length (week_periods s at k w) ≤ 8
  week_few k = rw (week_chosen s at k w) (few k w (omega arith))

  -- every row of the week is in order
  pub row_ordered : (k : ℕ) → k < 7 → Ordered 0 (get_or (week_of s at w) k [])
  row_ordered k l = rw (week_row s at w k l) (ordered_pad 0 (week_periods s at k w) (8 - length (week_periods s at k w)) (week_ordered k))

-- ---- E
exceptions_chosen : (s : List ℕ) (at d n : ℕ) → exceptions_on s at d n ≡ chosen (exception_day s at) (exception_period s at) d n
unfolding exceptions_on chosen
exceptions_chosen s at d zero = refl
exceptions_chosen s at d (suc n) = ap (λ (ps : List Period). elim (eqb (exception_day s at n) d) [ true ↦ ps ++ (exception_period s at n ∷ []) | false ↦ ps ]) (exceptions_chosen s at d n)

module _ (s : List ℕ) (at e : ℕ) (counted : ExceptionsCounted s at e) where
  exception_at : (i : ℕ) → i < e → ExceptionStands s at i
  exception_at i l = exception_stands s at i (counted.stands i l)

  exceptions_in_order : InOrder (exception_day s at) (exception_period s at) e
  exceptions_in_order =
      record {
        midnight = λ i l. (exception_at i l).midnight;
        forward = λ i l. (exception_at i l).forward;
        hours = λ i l. (exception_at i l).hours;
        after = λ i l. exception_after_lem s at i (exception_at (suc i) l).after;
      }

  -- "At most 256 a calendar"
  pub exceptions_few : e ≤ 256
  exceptions_few = ⊎_elim (λ l. omega (arith, (exception_at (e - 1) (omega arith)).few)) (λ l. omega arith) (lt_or_le 256 e)

  pub days_sorted : (i j : ℕ) → i ≤ j → j < e → exception_day s at i ≤ exception_day s at j
  days_sorted = keys_sorted (exception_day s at) (exception_period s at) e exceptions_in_order

  pub exceptions_ordered : (d : ℕ) → Ordered 0 (exceptions_on s at d e)
  exceptions_ordered d = rw (exceptions_chosen s at d e) (chosen_ordered (exception_day s at) (exception_period s at) e exceptions_in_order d e (omega arith))

-- ---- together
pub read_valid : (s : List ℕ) (weeks w at e : ℕ) → WeeksCounted s weeks w → ExceptionsCounted s at e → Valid (week_of s weeks w) s at e
read_valid s weeks w at e p q =
    record {
      long = q.within;
      sorted = days_sorted s at e q;
      ordered = λ d. ⊎_elim (λ z. rw (hours_week (week_of s weeks w) s at e d (none_on d z)) (row_ordered s weeks w p (weekday d) (omega arith)))
          (λ z. rw (hours_own (week_of s weeks w) s at e d z) (exceptions_ordered s at e q d)) (zero_or_pos (length (exceptions_on s at d e)));
    }
  where
    empty : (ps : List Period) → length ps ≡ 0 → ps ≡ []
    empty [] l = refl
    empty (p ∷ ps) l = absurd (omega arith)

    none_on : (d : ℕ) → length (exceptions_on s at d e) ≡ 0 → exceptions_on s at d e ≡ []
    none_on d = empty (exceptions_on s at d e)
