-- The walks as functions that compute, minute by minute from t on, with 01's limit of years: what the clock's contracts cite.
use Rattle.std.specs.Prelude.{Bool, true, false, ℕ, zero, suc, ◌+◌, ◌-◌, ◌*◌, ◌/◌, ◌%◌, leb, eqb, ℤ, pos, negsuc, neg_ℤ, Result, Ok, Err}
use Rattle.worktime.specs.declared.ClockError.{ClockError}
use Rattle.worktime.specs.declared.ClockError.TheVariants.{TooLong}
use Rattle.date.specs.Years.{first_day, end_day, in_years}
use Rattle.worktime.specs.Worked.{closing}
use Rattle.number.specs.Bit.{bit}

abbrev pub first_minute : ℕ
first_minute = first_day * 1440

abbrev pub end_minute : ℕ
end_minute = end_day * 1440

-- "A walk that reads a day outside years −9999 to 9999 is 8": the answer x of a walk that reads day d, where `refused` gives a refusal its form.
unfoldable pub reads : {A : Type 0} → (ClockError → A) → ℕ → A → A
reads refused d x = elim (in_years d) [ true ↦ x | false ↦ refused TooLong ]

-- the least worked minute among the n minutes from t on
unfoldable pub least : (ℕ → Bool) → ℕ → ℕ → Result ℕ ClockError
least w zero t = Err TooLong
least w (suc n) t = elim (w t) [ true ↦ Ok t | false ↦ least w n (suc t) ]

-- "Next start: least worked minute at or after t."
unfoldable pub next_start : (ℕ → Bool) → ℕ → Result ℕ ClockError
next_start w t = reads Err (t / 1440) (least w (end_minute - t) t)

-- the greatest closing minute among the n minutes from t down
unfoldable pub greatest : (ℕ → Bool) → ℕ → ℕ → Result ℕ ClockError
greatest w zero t = Err TooLong
greatest w (suc n) t = elim (closing w t) [ true ↦ Ok t | false ↦ greatest w n (t - 1) ]

-- "Previous finish: greatest closing minute at or before t." The first minute of all closes a day that may not be read.
unfoldable pub previous_finish : (ℕ → Bool) → ℕ → Result ℕ ClockError
previous_finish w t = reads Err (t / 1440) (greatest w (t - first_minute) t)

-- "Next finish: t if closing, else next start." It reads t's day and that of the minute before.
unfoldable pub next_finish : (ℕ → Bool) → ℕ → Result ℕ ClockError
next_finish w t = reads Err (t / 1440) (reads Err ((t - 1) / 1440) (elim (closing w t) [ true ↦ Ok t | false ↦ next_start w t ]))

-- whether t is worked
unfoldable pub working_at : (ℕ → Bool) → ℕ → Result Bool ClockError
working_at w t = reads Err (t / 1440) (Ok (w t))

-- 001's `previous_start`, which goes forward: t if worked, else next start
unfoldable pub previous_start : (ℕ → Bool) → ℕ → Result ℕ ClockError
previous_start w t = reads Err (t / 1440) (elim (w t) [ true ↦ Ok t | false ↦ next_start w t ])

-- the minute before a walk's answer
abbrev pub minute_before : Result ℕ ClockError → Result ℕ ClockError
minute_before (Ok u) = Ok (u - 1)
minute_before (Err k) = Err k

-- 001's `start_by`: t if worked, else the minute before the previous finish
unfoldable pub start_by : (ℕ → Bool) → ℕ → Result ℕ ClockError
start_by w t = reads Err (t / 1440) (elim (w t) [ true ↦ Ok t | false ↦ minute_before (previous_finish w t) ])

-- the minute by which n of the f minutes from t on are worked
unfoldable pub forward : (ℕ → Bool) → ℕ → ℕ → ℕ → Result ℕ ClockError
forward w f t zero = Ok t
forward w zero t (suc n) = Err TooLong
forward w (suc f) t (suc n) = elim (w t) [ true ↦ forward w f (suc t) n | false ↦ forward w f (suc t) (suc n) ]

-- "Advance n > 0: the closing minute with n worked minutes from t. For n ≤ 0 [..] t."
unfoldable pub advance : (ℕ → Bool) → ℕ → ℕ → Result ℕ ClockError
advance w t n = elim (eqb n 0) [ true ↦ Ok t | false ↦ reads Err (t / 1440) (forward w (end_minute - t) t n) ]

-- the minute from which n of the f minutes up to t are worked
unfoldable pub backward : (ℕ → Bool) → ℕ → ℕ → ℕ → Result ℕ ClockError
backward w f t zero = Ok t
backward w zero t (suc n) = Err TooLong
backward w (suc f) t (suc n) = elim (w (t - 1)) [ true ↦ backward w f (t - 1) n | false ↦ backward w f (t - 1) (suc n) ]

-- "Retreat n > 0: the worked minute with n from it up to t. For n ≤ 0 [..] t."
unfoldable pub retreat : (ℕ → Bool) → ℕ → ℕ → Result ℕ ClockError
retreat w t n = elim (eqb n 0) [ true ↦ Ok t | false ↦ reads Err (t / 1440) (backward w (t - first_minute) t n) ]

-- 001's `shift`: forward for a lag, back for a lead
unfoldable pub shift : (ℕ → Bool) → ℕ → ℤ → Result ℕ ClockError
shift w t (pos n) = advance w t n
shift w t (negsuc n) = retreat w t (suc n)

-- the worked minutes among the n minutes from t on
unfoldable pub spanned : (ℕ → Bool) → ℕ → ℕ → ℕ
spanned w t zero = 0
spanned w t (suc n) = spanned w t n + bit (w (t + n))

-- the worked minutes from a to b, negative where b comes first
unfoldable pub work_from : (ℕ → Bool) → ℕ → ℕ → ℤ
work_from w a b = elim (leb a b) [ true ↦ pos (spanned w a (b - a)) | false ↦ neg_ℤ (pos (spanned w b (a - b))) ]

-- 001's `between`, which reads the days of both times and those between
unfoldable pub between : (ℕ → Bool) → ℕ → ℕ → Result ℤ ClockError
between w a b = reads Err (a / 1440) (reads Err (b / 1440) (Ok (work_from w a b)))

-- 001's `day_work`: the minutes worked on a day
unfoldable pub day_work : (ℕ → Bool) → ℕ → Result ℤ ClockError
day_work w d = reads Err d (Ok (pos (spanned w (d * 1440) 1440)))

-- 001's `worked_before`: the minutes worked on t's day before t
unfoldable pub worked_before : (ℕ → Bool) → ℕ → Result ℤ ClockError
worked_before w t = reads Err (t / 1440) (Ok (pos (spanned w (t / 1440 * 1440) (t % 1440))))
