-- Days and minutes as natural numbers, counted from the first day that an i32 can name, and 01's signed numbers of them.
use Rattle.std.specs.Prelude.{true, false, Option, Some, None, ℕ, ◌+◌, ◌-◌, ◌*◌, ◌/◌, ◌%◌, ◌^◌, ℤ, pos, ◌-ℤ◌}
use Rattle.number.specs.Zed.{up, dn}
use Rattle.date.specs.declared.Date.{Date}
use Rattle.date.specs.Years.{in_years}

-- a signed day, and 2 ^ 31
abbrev pub biased : ℤ → ℕ
biased day = up day + 2 ^ 31 - dn day

-- the date of a day whose year is -9999 to 9999
unfoldable pub from_days : ℤ → Option Date
from_days day = elim (in_years (biased day)) [ true ↦ Some (record { 0 = day }) | false ↦ None ]

-- "0 Monday; day 0 is a Thursday"
abbrev pub weekday : ℕ → ℕ
weekday d = (d + 1) % 7

-- the first minute of a day
abbrev pub midnight : ℕ → ℕ
midnight d = d * 1440

-- the signed day of a day so counted, back from `biased`
abbrev pub unbiased : ℕ → ℤ
unbiased d = pos d -ℤ pos (2 ^ 31)

-- "A time is a minute; its day is time / 1,440 rounded down": the signed day of a time
abbrev pub signed_day : ℕ → ℤ
signed_day t = unbiased (t / 1440)

-- the signed minute of a time
abbrev pub signed_minute : ℕ → ℤ
signed_minute t = pos t -ℤ pos (midnight (2 ^ 31))
