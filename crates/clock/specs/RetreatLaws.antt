-- Where a walk back ends: within an E record, on a day without one, or before the years that may be read.
use Rattle.std.specs.Prelude.{◌≡◌, refl, true, List, [], ℕ, ◌+◌, ◌-◌, ◌*◌, ◌%◌, ◌≤◌, ◌<◌, get_or, Ok, Err}
use Rattle.worktime.specs.declared.ClockError.TheVariants.{TooLong}
use Rattle.std.proofs.Common.{sym, ⊎_elim, arith}
use Rattle.number.specs.Order.{lt_or_le}
use Rattle.date.specs.Years.{first_day}
use Rattle.calendar.specs.declared.Period.{Period}
use Rattle.calendar.specs.Hours.{select}
use Rattle.calendar.specs.Records.{exception_day, exception_period, hours_on, Valid}
use Rattle.worktime.specs.Worked.{count}
use Rattle.worktime.specs.Walks.{first_minute, end_minute, retreat}
use Rattle.worktime.specs.Count.{count_mono}
use Rattle.worktime.proofs.Shift.{retreat_at, retreat_none}
use Rattle.clock.specs.On.{worked_on}
use Rattle.clock.specs.Days.{hand_select}
use Rattle.clock.specs.Regular.{Sums, regular}
use Rattle.clock.specs.Stands.{record_work, Behind}
use Rattle.clock.specs.StandLaws.{record_minute}
use Rattle.clock.specs.RegularOrder.{regular_le, regular_lt_lt}
use Rattle.clock.specs.WeekdayLaws.{sums_before, sums_with, day_high, day_some, behind_weekday}
use Rattle.clock.specs.SameLaws.{retreat_early}

-- with `left` minutes of the record left, all of the work is behind
whole : (before len left work start passed gap c m : ℕ) → m + 1 ≡ before + (left + 1) → before + len + gap ≡ c - passed → passed ≤ c → start ≡ passed + gap → start < work
    → work ≤ start + len → left ≡ len - (work - start) → m + work ≡ c
whole before len left work start passed gap c m a b l e f g h = omega arith

module _ {week : List (List Period)} {s : List ℕ} {at n : ℕ} (valid : Valid week s at n) {ss : List ℕ} (sums : Sums week ss) (d j passed over work : ℕ)
    (fewer : passed ≤ count (worked_on week s at n) (d * 1440)) (less : passed < work) (early : d * 1440 < end_minute)
    (b : Behind week s at n ss j (count (worked_on week s at n) (d * 1440) - passed) over) where
  -- ---- within E record j - 1
  module _ (p : 0 < j) (start : ℕ) (is : start ≡ passed + (over - regular ss (exception_day s at (j - 1) + 1))) (short : start < work) (enough : work ≤ start + record_work s at (j - 1)) where
    record_back : let u = exception_day s at (j - 1) * 1440 + (exception_period s at (j - 1)).from + (record_work s at (j - 1) - (work - start)) in
        (worked_on week s at n u ≡ true) × (count (worked_on week s at n) u + work ≡ count (worked_on week s at n) (d * 1440)) × (exception_day s at (j - 1) * 1440 ≤ u) × (u < exception_day s at (j - 1) * 1440 + 1440)
    record_back =
        let left : ℕ = record_work s at (j - 1) - (work - start) in
        let m = record_minute valid (j - 1) (left + 1) (omega (arith, b.within)) (omega arith) (omega arith) in
        let e : exception_day s at (j - 1) * 1440 + (exception_period s at (j - 1)).from + (left + 1) - 1 ≡ exception_day s at (j - 1) * 1440 + (exception_period s at (j - 1)).from + left = omega arith in
        (rw e at m.opens, whole _ (record_work s at (j - 1)) left work start passed _ _ _ (rw e at m.less) (b.record_last p) fewer is short enough refl, omega arith, omega (arith, m.high))

    module _ (x : ℕ) (ex : x ≡ exception_day s at (j - 1)) where
      pub record_refuses : x < first_day → Err TooLong ≡ retreat (worked_on week s at n) (d * 1440) work
      record_refuses l = let r = record_back in sym (retreat_early (worked_on week s at n) (d * 1440) work _ (omega arith) (omega (arith, r.3)) r.0 r.1)

      pub record_answers : (from len : ℕ) → from ≡ (exception_period s at (j - 1)).from → len ≡ record_work s at (j - 1) → first_day ≤ x
          → Ok (x * 1440 + from + (len - (work - start))) ≡ retreat (worked_on week s at n) (d * 1440) work
      record_answers from len ef el l =
          let r = record_back in
          rw (ex, ef, el) (sym (retreat_at (worked_on week s at n) (omega arith) (omega (arith, r.2)) early r.0 r.1))

  -- ---- on a day after it
  module _ (start : ℕ) (is : 0 < j → start ≡ passed + (over - regular ss (exception_day s at (j - 1) + 1))) (long : 0 < j → work ≤ start) where
    refuses : (0 < j → (exception_day s at (j - 1) < first_day) × (exception_day s at (j - 1) < b.next)) → over < regular ss first_day + (work - passed) → Err TooLong ≡ retreat (worked_on week s at n) (d * 1440) work
    refuses after l =
        sym
        (retreat_none (worked_on week s at n) (d * 1440) work (omega arith)
        (⊎_elim (λ k. omega (arith, b.days b.next (omega arith) (λ p. (after p).1), b.is, count_mono (worked_on week s at n) {s = b.next * 1440} {t = first_minute} (omega arith)))
        (λ k. omega (arith, b.days first_day k (λ p. (after p).0))) (lt_or_le b.next first_day)))

    pub over_refuses : over < work - passed → Err TooLong ≡ retreat (worked_on week s at n) (d * 1440) work
    over_refuses l = refuses (λ p. absurd (omega (arith, is p, long p))) (omega arith)

    module _ (r : ℕ) (enough : work - passed ≤ over) (low : sums_before ss r ≤ over - (work - passed)) (high : over - (work - passed) < sums_with ss r) where
      before_next : over - (work - passed) < regular ss b.next
      before_next = omega (arith, b.is)

      after_record : 0 < j → (exception_day s at (j - 1) + 1 < r) × (exception_day s at (j - 1) + 1 < b.next)
      after_record p =
          let l : regular ss (exception_day s at (j - 1) + 1) ≤ over - (work - passed) = omega (arith, is p, long p) in
          (regular_lt_lt sums (omega (arith, l, day_high sums r (over - (work - passed)) high)), regular_lt_lt sums (omega (arith, l, before_next)))

      pub day_refuses : r ≤ first_day → Err TooLong ≡ retreat (worked_on week s at n) (d * 1440) work
      day_refuses l =
          refuses (λ p. let a = after_record p in (omega (arith, a), omega (arith, a)))
          (omega (arith, day_high sums r (over - (work - passed)) high, regular_le sums l))

      pub day_answers : first_day < r → (k m : ℕ) → k ≡ over - (work - passed) - (sums_before ss r) + 1 → m ≡ select (get_or week (r % 7) []) k
          → Ok ((r - 1) * 1440 + m - 1) ≡ retreat (worked_on week s at n) (d * 1440) work
      day_answers l k m ek em =
          let o = behind_weekday sums j _ over (over - (work - passed)) r low high b (omega arith) (λ p. omega (arith, is p, long p)) (omega arith) in
          let f = hand_select (hours_on week s at n) (r - 1) (valid.ordered (r - 1)) _ (sym o.hours) k m (omega arith) (omega (arith, ek, day_some sums r, high, low)) em in
          sym
          (retreat_at (worked_on week s at n) (omega arith) (omega (arith, f.low)) early f.opens
          (omega (arith, f.less, ek, low, o.counted)))
