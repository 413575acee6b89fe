-- A calendar as the sheet's W and E records give it: n records from the byte `at` on, each with its byte of kind first.
use Rattle.std.specs.Prelude.{◌≡◌, Bool, true, false, List, [], ◌∷◌, ◌++◌, ℕ, zero, suc, ◌+◌, ◌-◌, ◌*◌, ◌≤◌, ◌<◌, eqb, length, get_or, replicate}
use Rattle.date.specs.Days.{weekday}
use Rattle.number.specs.Bytes.{byte_at, u16_at, biased_at}
use Rattle.calendar.specs.declared.Period.{Period}
use Rattle.calendar.specs.declared.hours.Hours.{Hours}
use Rattle.calendar.specs.Hours.{none, Ordered, works}

-- ---- W (6 bytes with its kind): weekday u8, from and to, u16
abbrev pub weekday_at : List ℕ → ℕ → ℕ → ℕ
weekday_at s at i = byte_at s (at + 6 * i + 1)

abbrev pub week_period_at : List ℕ → ℕ → ℕ → Period
week_period_at s at i = record { from = u16_at s (at + 6 * i + 2); to = u16_at s (at + 6 * i + 4) }

-- the periods of weekday k among n W records, in their order
unfoldable pub week_periods : List ℕ → ℕ → ℕ → ℕ → List Period
week_periods s at k zero = []
week_periods s at k (suc i) = elim (eqb (weekday_at s at i) k) [ true ↦ week_periods s at k i ++ (week_period_at s at i ∷ []) | false ↦ week_periods s at k i ]

-- eight periods, the empty ones last
abbrev pub pad : List Period → List Period
pad ps = ps ++ replicate (8 - length ps) none

-- "a week is seven rows of eight periods", Monday's first
unfoldable pub week_of : List ℕ → ℕ → ℕ → List (List Period)
week_of s at n =
    let row : ℕ → List Period = λ k. pad (week_periods s at k n) in
    row 0 ∷ row 1 ∷ row 2 ∷ row 3 ∷ row 4 ∷ row 5 ∷ row 6 ∷ []

-- "A round-the-clock calendar of 1,440": every minute of every day
unfoldable pub round_the_clock : List (List Period)
round_the_clock = replicate 7 (record { from = 0; to = 1440 } ∷ replicate 7 none)

-- "weekly hours": some weekday has them
unfoldable pub weekly_hours : List (List Period) → Bool
weekly_hours [] = false
weekly_hours (r ∷ rs) = elim (works r) [ true ↦ true | false ↦ weekly_hours rs ]

-- ---- E (9 bytes with its kind): day i32, from and to, u16
abbrev pub exception_day : List ℕ → ℕ → ℕ → ℕ
exception_day s at i = biased_at s (at + 9 * i + 1)

abbrev pub exception_period : List ℕ → ℕ → ℕ → Period
exception_period s at i = record { from = u16_at s (at + 9 * i + 5); to = u16_at s (at + 9 * i + 7) }

-- the periods of day d among n E records, in their order; that of a day without work is 0 to 0, which holds nothing
unfoldable pub exceptions_on : List ℕ → ℕ → ℕ → ℕ → List Period
exceptions_on s at d zero = []
exceptions_on s at d (suc i) =
    elim (eqb (exception_day s at i) d) [ true ↦ exceptions_on s at d i ++ (exception_period s at i ∷ []) | false ↦ exceptions_on s at d i ]

-- the hours of day d: "[E] replaces that day's hours"
unfoldable pub hours_on : List (List Period) → List ℕ → ℕ → ℕ → ℕ → List Period
hours_on week s at n d =
    elim (eqb (length (exceptions_on s at d n)) 0) [ true ↦ get_or week (weekday d) [] | false ↦ exceptions_on s at d n ]

-- what the sheet's reader has shown of a calendar: its E records lie within the sheet and their days do not fall, and every day's hours are in order
pub record Valid (week : List (List Period)) (s : List ℕ) (at n : ℕ) : Type 0 where
  pub long : at + 9 * n ≤ length s
  pub sorted : (i j : ℕ) → i ≤ j → j < n → exception_day s at i ≤ exception_day s at j
  pub ordered : (d : ℕ) → Ordered 0 (hours_on week s at n d)

-- the part of that which a search among the E records needs
abbrev pub Listed : List ℕ → ℕ → ℕ → Type 0
Listed s at n = (at + 9 * n ≤ length s) × ((i j : ℕ) → i ≤ j → j < n → exception_day s at i ≤ exception_day s at j)

-- r is the first of n E records whose day is d or later, or n
pub record FirstFrom (s : List ℕ) (at n d r : ℕ) : Type 0 where
  pub within : r ≤ n
  pub below : (j : ℕ) → j < r → exception_day s at j < d
  pub above : (j : ℕ) → r ≤ j → j < n → d ≤ exception_day s at j

-- ---- a day's hours in hand: its row of the week, or its E records
-- the periods of n E records from the byte `at` on
unfoldable pub record_periods : List ℕ → ℕ → ℕ → List Period
record_periods s at zero = []
record_periods s at (suc i) = record_periods s at i ++ (exception_period s at i ∷ [])

unfoldable pub periods_of : Hours → List Period
periods_of h = elim (eqb h.records.n 0) [ true ↦ h.row | false ↦ record_periods h.records.sheet.now h.records.at h.records.n ]

-- hours whose E records lie within the sheet
abbrev pub Within : Hours → Type 0
Within h = h.records.at + 9 * h.records.n ≤ length h.records.sheet.now

-- hours of day d in hand, by the row of its weekday: in every week with that row they are the day's
pub record InHand (row : List Period) (s : List ℕ) (at n d : ℕ) (h : Hours) : Type 0 where
  pub within : Within h
  pub is : (week : List (List Period)) → get_or week (weekday d) [] ≡ row → periods_of h ≡ hours_on week s at n d
