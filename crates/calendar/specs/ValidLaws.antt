-- Calendars that are valid.
use Rattle.std.specs.Prelude.{◌≡◌, true, List, [], ℕ, ◌/◌, ◌%◌, ◌≤◌, ◌<◌, length, get_or}
use Rattle.std.proofs.Common.{arith}
use Rattle.calendar.specs.declared.Period.{Period}
use Rattle.calendar.specs.declared.hours.Hours.{Hours}
use Rattle.calendar.specs.Hours.{held, worked, Ordered}
use Rattle.calendar.specs.Records.{hours_on, round_the_clock, Valid, periods_of}
use Rattle.date.specs.Days.{weekday}
use Rattle.calendar.specs.WeekLaws.{clock_held, clock_ordered}
use Rattle.calendar.specs.DayLaws.{hours_plain}

-- hours in hand of a valid calendar are in order
pub hand_ordered : {week : List (List Period)} {s : List ℕ} {at n : ℕ} → Valid week s at n → (h : Hours) (d : ℕ) → periods_of h ≡ hours_on week s at n d → Ordered 0 (periods_of h)
hand_ordered v h d e = rw e (v.ordered d)

-- a week in order, and no E records
pub plain_valid : (week : List (List Period)) (s : List ℕ) (at : ℕ) → at ≤ length s → ((d : ℕ) → Ordered 0 (get_or week (weekday d) [])) → Valid week s at 0
plain_valid week s at l o =
    record { long = omega arith; sorted = λ i j x y. absurd (omega arith); ordered = λ d. rw (hours_plain week s at d) (o d) }

pub clock_valid : (s : List ℕ) (at : ℕ) → at ≤ length s → Valid round_the_clock s at 0
clock_valid s at l = plain_valid round_the_clock s at l clock_ordered

-- "A round-the-clock calendar of 1,440": every minute is worked
pub clock_hours : (s : List ℕ) (at d m : ℕ) → m < 1440 → held (hours_on round_the_clock s at 0 d) m ≡ true
clock_hours s at d m l = rw (hours_plain round_the_clock s at d) (clock_held d m l)

pub clock_worked : (s : List ℕ) (at t : ℕ) → worked (hours_on round_the_clock s at 0) t ≡ true
unfolding worked
clock_worked s at t = clock_hours s at (t / 1440) (t % 1440) (omega arith)
