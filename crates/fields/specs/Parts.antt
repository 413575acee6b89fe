-- The first parts of the tests `header_ok` and `activity_ok`, which small functions make.
use Rattle.std.specs.Prelude.{Bool, ◌&&◌, ◌||◌, not, List, ℕ, ◌+◌, eqb, leb}
use Rattle.number.specs.Bytes.{byte_at, u32_at, biased_at}
use Rattle.project.specs.Fields.{day_ok, day_or_absent}

abbrev pub header_days : List ℕ → ℕ → Bool
header_days s at = day_ok (biased_at s (at + 1)) && day_or_absent (biased_at s (at + 5)) && day_or_absent (biased_at s (at + 9))

abbrev pub activity_codes : List ℕ → ℕ → Bool
activity_codes s at = not (eqb (u32_at s (at + 1)) 0) && leb (byte_at s (at + 5)) 2 && (eqb (byte_at s (at + 5)) 0 || eqb (u32_at s (at + 11)) 0)

abbrev pub activity_dates : List ℕ → ℕ → Bool
activity_dates s at =
    activity_codes s at && day_or_absent (biased_at s (at + 15)) && day_or_absent (biased_at s (at + 19)) && day_or_absent (biased_at s (at + 27))
