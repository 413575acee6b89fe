-- The tables of the calendars as they are filled: the places, the weeks and the day lengths of those found so far.
use Rattle.std.specs.Prelude.{◌≡◌, refl, List, ℕ, ◌+◌, ◌*◌, ◌≤◌, ◌<◌, ltb, set, replicate}
use Rattle.std.proofs.Math.Path.{sym, ap}
use Rattle.std.proofs.Common.{◌∙◌, add-one, lt-ltb, le-ltb, get_or-set_same, get_or-set_other}
use native.Mathlib.Omega.{arith}
use borrow.Author.Count.{below_more}
use Rattle.std.proofs.lemmas.List.{length-replicate, get_or-replicate}
use Rattle.std.proofs.Math.ListN.{length, get_or, length-set}
use Rattle.std.proofs.Math.Logic.{⊎_elim}
use Rattle.number.specs.Order.{lt_or_le}
use Rattle.worktime.specs.Reads.{on_true, on_false}
use Rattle.project.specs.Records.{day_length_at}
use Rattle.project.specs.RecordLaws.{day_length_in}
use Rattle.sheet.specs.declared.Contents.{Contents}
use Rattle.calendar.specs.declared.Period.{Period}
use Rattle.calendar.specs.Records.{week_of, round_the_clock}
use Rattle.sheet.specs.declared.Place.{Place}
use Rattle.sheet.specs.Known.{SheetRead}
use Rattle.sheet.specs.Places.{weeks_at, week_count, exceptions_at, exception_count, next_calendar, place_at, calendar_at, week_at}
use Rattle.order.specs.Plan.{plan_of, day_length_of_calendar}
use Rattle.calendars.specs.PackedLaws.{earlier}
use Rattle.calendars.specs.declared.plan_calendar.PlanCalendar.{PlanCalendar}
use Rattle.calendars.specs.Calendars.{IsCalendar, Located, Lengths, no_row}
use Rattle.calendars.specs.CalendarLaws.{week_named, place_named, number_named, week_last, place_last, number_last}
use Rattle.calendars.specs.Tables.{WeekPut, CalendarPut}

-- ---- where the next calendar stands
pub calendar_first : (s : List ℕ) → 21 ≡ calendar_at s 0
unfolding calendar_at
calendar_first s = refl

pub calendar_next : (s : List ℕ) (k at : ℕ) (place : Place) → at ≡ calendar_at s k → place ≡ place_at s at → place.next ≡ calendar_at s (k + 1)
unfolding calendar_at place_at
calendar_next s k at place e f = rw add-one (ap (λ (q : Place). q.next) f ∙ ap (next_calendar s) e)

pub place_weeks : (s : List ℕ) (at : ℕ) (place : Place) → place ≡ place_at s at → place.weeks ≡ week_count s at
unfolding place_at
place_weeks s at place e = ap (λ (q : Place). q.weeks) e

-- ---- the table
-- a calendar's two numbers are set, and then its week is put
pub calendar_put : (xs : List ℕ) (k : ℕ) (place : Place) (week : List (List Period)) (ys : List ℕ)
    → WeekPut (set (set xs (30 * k) place.at) (30 * k + 1) place.exceptions) (30 * k + 2) week ys → 30 * k + 30 ≤ length xs
    → CalendarPut xs k place week ys
calendar_put xs k place week ys P l = record {
  size = P.size ∙ simp length-set;
  before = λ j m. P.before j (omega arith) ∙ earlier one (30 * k + 1) j place.exceptions (omega arith) ∙ earlier xs (30 * k) j place.at m;
  at_is = P.before (30 * k) (omega arith) ∙ earlier one (30 * k + 1) (30 * k) place.exceptions (omega arith) ∙ get_or-set_same xs (30 * k) place.at 0 (omega arith);
  exceptions_is = P.before (30 * k + 1) (omega arith) ∙ get_or-set_same one (30 * k + 1) place.exceptions 0 (simp length-set (omega arith));
  holds = P.holds;
}
  where
    one : List ℕ
    one = set xs (30 * k) place.at

pub located_none : (s : List ℕ) (c : Contents) (calendars : List PlanCalendar) → Located s c 0 calendars
located_none s c calendars = record { size = omega arith; row = λ k l. absurd (omega arith) }

-- what stands in other rows than the one that is set is as it was
other : (xs : List PlanCalendar) (i j : ℕ) (a : PlanCalendar) → (j ≡ i → ⊥) → get_or (set xs i a) j no_row ≡ get_or xs j no_row
other xs i j a e = get_or-set_other xs i j a no_row e

-- one calendar more
pub located_more : {s : List ℕ} {c : Contents} {n : ℕ} {xs : List PlanCalendar} → Located s c n xs → n < length xs → (row : PlanCalendar) → IsCalendar s c n row.week row.at row.n
    → Located s c (n + 1) (set xs n row)
located_more {s} {c} {n} {xs} L l row is = record {
  size = simp length-set (omega (arith, l));
  row = below_more (λ k. let r = get_or (set xs n row) k no_row in IsCalendar s c k r.week r.at r.n) n
      (λ k m. rw (other xs n k row (λ e. omega arith)) (L.row k m))
      (rw (get_or-set_same xs n row no_row l) is);
}

-- the round-the-clock calendar stands in every row from n on
abbrev pub Clocks : ℕ → List PlanCalendar → Type 0
Clocks n xs = (k : ℕ) → n ≤ k → k < length xs → let r = get_or xs k no_row in (r.week ≡ round_the_clock) × (r.at ≡ 0) × (r.n ≡ 0) × (r.day_length ≡ 1440)

pub clocks_first : (n : ℕ) (row : PlanCalendar) → row.week ≡ round_the_clock → row.at ≡ 0 → row.n ≡ 0 → row.day_length ≡ 1440 → Clocks 0 (replicate n row)
clocks_first n row week at count day k l m = rw (get_or-replicate n k row no_row (rw (length-replicate n row) at m)) (week, at, count, day)

pub clocks_more : (n : ℕ) (xs : List PlanCalendar) (row : PlanCalendar) → Clocks n xs → Clocks (n + 1) (set xs n row)
clocks_more n xs row C k l m = rw (other xs n k row (λ e. omega arith)) (C k (omega arith) (rw (length-set xs n row) at m))

-- ---- the day lengths
abbrev pub Measured : List ℕ → ℕ → List PlanCalendar → Type 0
Measured s n calendars = (k : ℕ) → k < n → (get_or calendars k no_row).day_length ≡ day_length_at s (calendar_at s k)

pub measured_more : (s : List ℕ) (n : ℕ) (xs : List PlanCalendar) → Measured s n xs → n < length xs
    → (at : ℕ) → at ≡ calendar_at s n → (row : PlanCalendar) → row.day_length ≡ day_length_at s at → Measured s (n + 1) (set xs n row)
measured_more s n xs M l at here row is =
    below_more (λ k. (get_or (set xs n row) k no_row).day_length ≡ day_length_at s (calendar_at s k)) n
    (λ k m. rw (other xs n k row (λ e. omega arith)) (M k m))
    (rw (get_or-set_same xs n row no_row l) is ∙ ap (day_length_at s) here)

module _ (s : List ℕ) (c : Contents) (read : SheetRead s c) where
  pub length_named : (k : ℕ) → k < c.calendars → day_length_of_calendar s c k ≡ day_length_at s (calendar_at s k)
  unfolding day_length_of_calendar
  length_named k l = on_true (ltb k c.calendars) (day_length_at s (calendar_at s k)) 1440 (lt-ltb k c.calendars l)

  length_last : day_length_of_calendar s c c.calendars ≡ 1440
  unfolding day_length_of_calendar
  length_last = on_false (ltb c.calendars c.calendars) (day_length_at s (calendar_at s c.calendars)) 1440 (le-ltb c.calendars c.calendars (omega arith))

  pub measured_all : (xs : List PlanCalendar) → Measured s c.calendars xs → c.calendars < length xs → Clocks c.calendars xs → Lengths (plan_of s c) xs
  unfolding plan_of
  measured_all xs M l C = record {
    size = l;
    is = λ j m.
        ⊎_elim (λ b. M j b ∙ sym (length_named j b))
        (λ b. let e : j ≡ c.calendars = omega arith in rw e ((C c.calendars (omega arith) l).3 ∙ sym length_last)) (lt_or_le j c.calendars);
    low = λ j m.
        ⊎_elim (λ b. rw (length_named j b) (day_length_in s (calendar_at s j) (read.calendar j b).fields))
        (λ (b : c.calendars ≤ j). let e : j ≡ c.calendars = omega arith in rw (e, length_last) (omega arith)) (lt_or_le j c.calendars);
  }

  -- the round-the-clock calendar stands after the sheet's
  pub located_all : (xs : List PlanCalendar) → Located s c c.calendars xs → c.calendars < length xs → Clocks c.calendars xs → Located s c (c.calendars + 1) xs
  located_all xs L l C = record {
    size = omega (arith, l);
    row = below_more (λ k. let r = get_or xs k no_row in IsCalendar s c k r.week r.at r.n) c.calendars L.row
        (let r = C c.calendars (omega arith) l in
        record {
          week_is = r.0 ∙ sym (week_last s c c.calendars (omega arith));
          at_is = r.1 ∙ sym (place_last s c c.calendars (omega arith));
          n_is = r.2 ∙ sym (number_last s c c.calendars (omega arith));
        });
  }

  -- a calendar of the sheet as it was read
  pub read_calendar : (k at : ℕ) (place : Place) → k < c.calendars → at ≡ calendar_at s k → place ≡ place_at s at → (row : PlanCalendar)
      → row.week ≡ week_of s (weeks_at at) (week_count s at) → row.at ≡ place.at → row.n ≡ place.exceptions → IsCalendar s c k row.week row.at row.n
  unfolding place_at week_at
  read_calendar k at place l here is row week at_is n_is = record {
    week_is = week ∙ ap (week_at s) here ∙ sym (week_named s c k l);
    at_is = at_is ∙ ap (λ (q : Place). q.at) is ∙ ap (exceptions_at s) here ∙ sym (place_named s c k l);
    n_is = n_is ∙ ap (λ (q : Place). q.exceptions) is ∙ ap (exception_count s) here ∙ sym (number_named s c k l);
  }
