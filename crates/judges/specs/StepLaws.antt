-- The judges' tests one record at a time, as the code makes them.
use Rattle.std.specs.Prelude.{◌≡◌, Bool, true, cond, map, ◌&&◌, ◌||◌, not, List, [], ◌∷◌, ℕ, zero, suc, ◌+◌, eqb, leb, ltb, length}
use Rattle.std.proofs.Math.Path.{refl}
use Rattle.std.specs.List.{filter, range_with_len}
use Rattle.std.proofs.Common.{sym, ap, ◌∙◌, ⊎_elim, eq-eqb, ne_eqb, length-append, arith}
use Rattle.std.proofs.lemmas.List.{map-id}
use Rattle.std.proofs.lemmas.List.FromFn.{filter_of_map_range_with_len_more}
use Rattle.number.specs.Order.{eq_or_ne}
use Rattle.calendar.specs.Records.{weekday_at, week_period_at, week_periods, exception_day, exception_period}
use Rattle.calendar.specs.WeekLaws.{week_take, week_skip}
use Rattle.judges.specs.Judging.{week_after, no_work, exception_after}

module _ (s : List ℕ) (at i : ℕ) where
  pub week_first : i ≡ 0 → week_after s at i ≡ true
  unfolding week_after
  week_first e = rw e

  pub week_next : (j : ℕ) → i ≡ suc j → week_after s at i ≡ (ltb (weekday_at s at j) (weekday_at s at i) || (eqb (weekday_at s at j) (weekday_at s at i) && leb (week_period_at s at j).to (week_period_at s at i).from))
  unfolding week_after
  week_next j e = rw e

  pub exception_first : i ≡ 0 → exception_after s at i ≡ true
  unfolding exception_after
  exception_first e = rw e

  pub exception_next : (j : ℕ) → i ≡ suc j
      → exception_after s at i
      ≡ (ltb (exception_day s at j) (exception_day s at i)
      || (eqb (exception_day s at j) (exception_day s at i) && not (no_work (exception_period s at j)) && not (no_work (exception_period s at i))
      && leb (exception_period s at j).to (exception_period s at i).from))
  unfolding exception_after
  exception_next j e = rw e

-- how many of the first i W records have weekday k
module _ (s : List ℕ) (at k i : ℕ) where
  pub count_none : length (week_periods s at k 0) ≡ 0
  unfolding week_periods
  count_none = refl

  pub count_take : weekday_at s at i ≡ k → length (week_periods s at k (i + 1)) ≡ length (week_periods s at k i) + 1
  count_take e = ap length (week_take s at k i e) ∙ length-append (week_periods s at k i) (week_period_at s at i ∷ [])

  pub count_skip : (weekday_at s at i ≡ k → ⊥) → length (week_periods s at k (i + 1)) ≡ length (week_periods s at k i)
  count_skip e = ap length (week_skip s at k i e)

-- the same by a filter of their numbers
module _ (s : List ℕ) (at k : ℕ) where
  one_more : (i : ℕ) → length (week_periods s at k i) + length (cond (eqb (weekday_at s at i) k) (i ∷ []) []) ≡ length (week_periods s at k (i + 1))
  one_more i =
      ⊎_elim (λ e. rw (eq-eqb (weekday_at s at i) k e) (sym (count_take s at k i e)))
      (λ e. rw (ne_eqb (weekday_at s at i) k e) (omega (arith, count_skip s at k i e))) (eq_or_ne (weekday_at s at i) k)

  filtered : (n : ℕ) → length (filter (λ (j : ℕ). eqb (weekday_at s at j) k) (map (λ (j : ℕ). j) (range_with_len 0 n))) ≡ length (week_periods s at k n)
  filtered zero = sym (count_none s at k 0)
  filtered (suc i) =
      let t : ℕ → Bool = λ j. eqb (weekday_at s at j) k in
      let on : suc i ≡ i + 1 = omega arith in
      ap (λ (m : ℕ). length (filter t (map (λ (j : ℕ). j) (range_with_len 0 m)))) on
      ∙ ap length (filter_of_map_range_with_len_more t (λ (j : ℕ). j) 0 i i (omega arith))
      ∙ length-append (filter t (map (λ (j : ℕ). j) (range_with_len 0 i))) (cond (t i) (i ∷ []) [])
      ∙ ap (λ (m : ℕ). m + length (cond (t i) (i ∷ []) [])) (filtered i) ∙ one_more i ∙ ap (λ (m : ℕ). length (week_periods s at k m)) (sym on)

  pub count_filtered : (n : ℕ) → length (filter (λ (j : ℕ). eqb (weekday_at s at j) k) (range_with_len 0 n)) ≡ length (week_periods s at k n)
  count_filtered n = ap (λ (xs : List ℕ). length (filter (λ (j : ℕ). eqb (weekday_at s at j) k) xs)) (sym (map-id (range_with_len 0 n))) ∙ filtered n
