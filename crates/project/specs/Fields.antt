-- The records of 01's section The sheet: kinds, lengths and fields, each field as a function of the sheet and the place of its record.
use Rattle.std.specs.Prelude.{Bool, ◌&&◌, ◌||◌, not, List, ℕ, ◌+◌, eqb, leb, ltb}
use Rattle.number.specs.Bytes.{byte_at, u16_at, u32_at, biased_at}

-- ---- a record's byte of kind, and its length with that byte
abbrev pub header_kind : ℕ
header_kind = 0x50

abbrev pub calendar_kind : ℕ
calendar_kind = 0x43

abbrev pub week_kind : ℕ
week_kind = 0x57

abbrev pub exception_kind : ℕ
exception_kind = 0x45

abbrev pub activity_kind : ℕ
activity_kind = 0x41

abbrev pub link_kind : ℕ
link_kind = 0x4C

abbrev pub header_size : ℕ
header_size = 21

abbrev pub calendar_size : ℕ
calendar_size = 3

abbrev pub week_size : ℕ
week_size = 6

abbrev pub exception_size : ℕ
exception_size = 9

abbrev pub activity_size : ℕ
activity_size = 45

abbrev pub link_size : ℕ
link_size = 16

-- ---- days, counted from the first that an i32 can name, so that the absent mark −2,147,483,648 is 0
-- "−135,140 to 376,199 (years 1600 to 2999)"
unfoldable pub day_ok : ℕ → Bool
day_ok d = leb 2147348508 d && leb d 2147859847

-- "−2,147,483,648 means absent, allowed only where "?" stands"
unfoldable pub day_or_absent : ℕ → Bool
day_or_absent d = eqb d 0 || day_ok d

-- "P: start day, data day?, must-finish day?, lag calendar 0 to 3, float kind 0 to 2, progress mode 0 to 1, critical by 0 [..] or 1, threshold"
unfoldable pub header_ok : List ℕ → ℕ → Bool
header_ok s at =
    day_ok (biased_at s (at + 1)) && day_or_absent (biased_at s (at + 5)) && day_or_absent (biased_at s (at + 9)) && leb (byte_at s (at + 13)) 3
    && leb (byte_at s (at + 14)) 2 && leb (byte_at s (at + 15)) 1 && leb (byte_at s (at + 16)) 1

-- "C: day length in minutes, u16, 0 to 1,440"
unfoldable pub calendar_ok : List ℕ → ℕ → Bool
calendar_ok s at = leb (u16_at s (at + 1)) 1440

-- "twice a constraint (u8: 0 none, 1 to 9 in 002's order; then its day, unread for 0 and 9)"
unfoldable pub constraint_ok : List ℕ → ℕ → Bool
constraint_ok s at = eqb (byte_at s at) 0 || eqb (byte_at s at) 9 || (ltb (byte_at s at) 9 && day_ok (biased_at s (at + 1)))

-- "A: id u32 not 0, kind 0 to 2, calendar u8, parent u32, minutes i32 (0 for a milestone, else 3), actual start?, actual finish?,
-- remaining i32, expected finish?, twice a constraint, levelled start?"
unfoldable pub activity_ok : List ℕ → ℕ → Bool
activity_ok s at =
    not (eqb (u32_at s (at + 1)) 0) && leb (byte_at s (at + 5)) 2 && (eqb (byte_at s (at + 5)) 0 || eqb (u32_at s (at + 11)) 0)
    && day_or_absent (biased_at s (at + 15)) && day_or_absent (biased_at s (at + 19)) && day_or_absent (biased_at s (at + 27)) && constraint_ok s (at + 31)
    && constraint_ok s (at + 36) && day_or_absent (biased_at s (at + 41))

-- "L: predecessor u32, successor u32, type 0 to 3, basis 0 working, 1 elapsed, 2 percent, unit 0 days, 1 minutes (unread for percent), lag i32"
unfoldable pub link_ok : List ℕ → ℕ → Bool
link_ok s at =
    leb (byte_at s (at + 9)) 3 && leb (byte_at s (at + 10)) 2 && (eqb (byte_at s (at + 10)) 2 || leb (byte_at s (at + 11)) 1)
