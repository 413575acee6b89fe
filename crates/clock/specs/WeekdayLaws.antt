-- The day that has one of the minutes counted by weekdays, and what is counted up to it where no E record comes between.
use Rattle.std.specs.Prelude.{◌≡◌, List, [], ℕ, ◌+◌, ◌-◌, ◌*◌, ◌/◌, ◌%◌, ◌≤◌, ◌<◌, get_or}
use Rattle.std.proofs.Common.{sym, ap, ◌∙◌, ⊎_elim, arith}
use Rattle.number.specs.Order.{lt_or_le}
use Rattle.date.specs.Days.{weekday}
use Rattle.calendar.specs.declared.Period.{Period}
use Rattle.calendar.specs.Hours.{rank}
use Rattle.calendar.specs.Records.{exception_day, hours_on}
use Rattle.calendar.specs.DayLaws.{hours_week}
use Rattle.worktime.specs.Worked.{count}
use Rattle.clock.specs.On.{worked_on}
use Rattle.clock.specs.Regular.{Sums, regular}
use Rattle.clock.specs.RegularOrder.{regular_is, regular_end, regular_lt_lt}
use Rattle.clock.specs.Stands.{Ahead, Behind}

-- the minutes of the days before the day before r by the sums, and with that day
abbrev pub sums_before : List ℕ → ℕ → ℕ
sums_before ss r = get_or ss 7 0 * (r / 7) + get_or ss (r % 7) 0

abbrev pub sums_with : List ℕ → ℕ → ℕ
sums_with ss r = get_or ss 7 0 * (r / 7) + get_or ss (r % 7 + 1) 0

module _ {week : List (List Period)} {ss : List ℕ} (sums : Sums week ss) (r : ℕ) where
  pub day_high : (p : ℕ) → p < sums_with ss r → p < regular ss r
  day_high p h =
      ⊎_elim
      (λ (z : 0 < r).
      let e : r - 1 + 1 ≡ r = omega arith in
      let f = rw e at (regular_end ss sums.rising sums.none (r - 1)) in
      omega (arith, f))
      (λ (z : r ≤ 0).
      let f : get_or ss 7 0 * (r / 7) ≡ get_or ss 7 0 * ((r + 1) / 7) = ap (λ y. get_or ss 7 0 * y) (omega arith) in
      let g : get_or ss (r % 7 + 1) 0 ≡ get_or ss (weekday r) 0 = ap (λ y. get_or ss y 0) (omega arith) in
      omega (arith, h, f, g, regular_is ss r)) (lt_or_le 0 r)

  pub day_some : sums_before ss r + rank (get_or week (r % 7) []) 1440 ≡ sums_with ss r
  day_some = omega (arith, sums.each (r % 7) (omega arith))

  pub day_low : 0 < r → sums_before ss r ≡ regular ss (r - 1)
  day_low z = let e : r - 1 + 1 ≡ r = omega arith in sym (rw e at (regular_is ss (r - 1)))

-- the day before r goes by its weekday, and c minutes are counted where the days have `over` by theirs
pub record OnWeekday (week : List (List Period)) (s : List ℕ) (at n : ℕ) (ss : List ℕ) (c over r : ℕ) : Type 0 where
  pub low : 0 < r
  pub counted : count (worked_on week s at n) ((r - 1) * 1440) + over ≡ c + sums_before ss r
  pub hours : hours_on week s at n (r - 1) ≡ get_or week (r % 7) []

-- it has minute p, which comes between where the walk stands and the E record that is next
module _ {week : List (List Period)} {s : List ℕ} {at n : ℕ} {ss : List ℕ} (sums : Sums week ss) (j c over p r : ℕ) (a : sums_before ss r ≤ p) (b : p < sums_with ss r) where
  pub ahead_weekday : Ahead week s at n ss j c over → over ≤ p → (j < n → p < regular ss (exception_day s at j)) → OnWeekday week s at n ss c over r
  ahead_weekday stand from to =
      let l : stand.next < r = regular_lt_lt sums (omega (arith, stand.is, day_high sums r p b)) in
      let is = day_low sums r (omega arith) in
      let same : weekday (r - 1) ≡ r % 7 = omega arith in
      let before : j < n → r - 1 < exception_day s at j = λ k. regular_lt_lt sums (omega (arith, to k, is)) in
      record {
        low = omega arith;
        counted = omega (arith, is, stand.days (r - 1) (omega arith) (λ k. omega (arith, before k)));
        hours = hours_week week s at n (r - 1) (stand.none (r - 1) (omega arith) before) ∙ ap (λ x. get_or week x []) same;
      }

  pub behind_weekday : Behind week s at n ss j c over → p < over → (0 < j → regular ss (exception_day s at (j - 1) + 1) ≤ p) → 0 < r → OnWeekday week s at n ss c over r
  behind_weekday stand to from low =
      let is = day_low sums r low in
      let same : weekday (r - 1) ≡ r % 7 = omega arith in
      let l : r - 1 < stand.next = regular_lt_lt sums (omega (arith, is, stand.is)) in
      let after : 0 < j → exception_day s at (j - 1) < r - 1 =
      λ k. let m : exception_day s at (j - 1) + 1 < r = regular_lt_lt sums (omega (arith, from k, day_high sums r p b)) in omega arith in
      record {
        low = low;
        counted = omega (arith, is, stand.days (r - 1) (omega arith) after);
        hours = hours_week week s at n (r - 1) (stand.none (r - 1) l after) ∙ ap (λ x. get_or week x []) same;
      }
