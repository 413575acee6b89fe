-- Counting the records of a calendar that was read gives where they stand.
use Rattle.std.specs.Prelude.{◌≡◌, refl, Ok, List, ℕ, ◌+◌, ◌*◌, ◌≤◌, length}
use Rattle.std.proofs.Common.{arith}
use Rattle.sheet.specs.declared.runs.RecordKind.TheVariants.{Week, Exception}
use Rattle.sheet.specs.Reading.{run_of}
use Rattle.sheet.specs.Places.{count_of, week_count, exceptions_at, exception_count, next_calendar, place_at}
use Rattle.sheet.specs.Known.{CalendarRead}

module _ (s : List ℕ) (at : ℕ) (read : CalendarRead s at) where
  pub count_weeks : count_of s Week (at + 3) ≡ week_count s at
  unfolding week_count
  count_weeks = refl

  pub run_weeks : run_of s Week (at + 3) ≡ Ok (count_of s Week (at + 3))
  run_weeks = rw count_weeks read.weeks

  module _ (w : ℕ) (counted : w ≡ week_count s at) where
    from_at : at + 3 + 6 * w ≡ exceptions_at s at
    unfolding exceptions_at
    from_at = rw counted

    pub weeks_end_lem : at + 3 + 6 * w ≤ length s
    weeks_end_lem = omega (arith, read.weeks_within)

    pub count_exceptions : count_of s Exception (at + 3 + 6 * w) ≡ exception_count s at
    unfolding exception_count
    count_exceptions = rw from_at

    pub run_exceptions : run_of s Exception (at + 3 + 6 * w) ≡ Ok (count_of s Exception (at + 3 + 6 * w))
    run_exceptions = rw (count_exceptions, from_at) read.exceptions

    module _ (e : ℕ) (also : e ≡ exception_count s at) where
      pub exceptions_end_lem : at + 3 + 6 * w + 9 * e ≤ length s
      exceptions_end_lem = omega (arith, from_at, read.valid.long)

      pub place_is : record { weeks = w; at = at + 3 + 6 * w; exceptions = e; next = at + 3 + 6 * w + 9 * e } ≡ place_at s at
      unfolding place_at next_calendar
      place_is = λ i. record { weeks = counted i; at = from_at i; exceptions = also i; next = from_at i + 9 * also i }
