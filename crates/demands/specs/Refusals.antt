-- Every refusal of a walk, of a count and of recorded work is row 8, "too long": the clock has no other error.
use Rattle.std.specs.Prelude.{◌≡◌, Bool, true, false, ℕ, ℤ, Result, Ok, Err, Option}
use Rattle.std.proofs.Math.Path.{refl}
use Rattle.worktime.specs.declared.ClockError.{ClockError}
use Rattle.worktime.specs.declared.ClockError.TheVariants.{TooLong}
use Rattle.worktime.specs.Number.{clock_number}
use Rattle.worktime.specs.Walks.{reads, next_start, previous_finish, next_finish, previous_start, start_by, advance, retreat, shift, between}
use Rattle.date.specs.declared.Date.{Date}
use Rattle.date.specs.Years.{in_years}
use Rattle.project.specs.declared.ActivityKind.{ActivityKind}
use Rattle.project.specs.declared.End.{End}
use Rattle.placing.specs.Placing.{via, bounded, place_start, start_for_finish, place_finish, finish_for_start, finish_for_start_by, constraint_time, actual}
use Rattle.placing.specs.declared.Actual.{Actual}

pub error_eight : (k : ClockError) → clock_number k ≡ 8
error_eight TooLong = refl

-- what is refused, is refused with 8
abbrev pub Eight : {A : Type 0} → Result A ClockError → Type 0
Eight (Ok x) = Unit {0}
Eight (Err k) = clock_number k ≡ 8

-- so every walk of the clock, every placing, every time of a constraint and what is recorded of every activity, on whatever calendar
pub always_eight : {A : Type 0} (x : Result A ClockError) → Eight x
always_eight (Ok x) = tt
always_eight (Err k) = error_eight k

-- ---- by name: the clock's walks, where work is placed, what is recorded
abbrev pub WalkEight : Result ℕ ClockError → Type 0
WalkEight x = Eight x

abbrev pub WorkEight : Result ℤ ClockError → Type 0
WorkEight x = Eight x

abbrev pub MomentEight : Result (Option ℕ) ClockError → Type 0
MomentEight x = Eight x

abbrev pub ActualEight : Result Actual ClockError → Type 0
ActualEight x = Eight x

pub actual_eight : (x : Result Actual ClockError) → ActualEight x
actual_eight x = always_eight x

module _ (w : ℕ → Bool) where
  pub next_start_eight : (t : ℕ) → WalkEight (next_start w t)
  next_start_eight t = always_eight (next_start w t)

  pub previous_finish_eight : (t : ℕ) → WalkEight (previous_finish w t)
  previous_finish_eight t = always_eight (previous_finish w t)

  pub next_finish_eight : (t : ℕ) → WalkEight (next_finish w t)
  next_finish_eight t = always_eight (next_finish w t)

  pub previous_start_eight : (t : ℕ) → WalkEight (previous_start w t)
  previous_start_eight t = always_eight (previous_start w t)

  pub start_by_eight : (t : ℕ) → WalkEight (start_by w t)
  start_by_eight t = always_eight (start_by w t)

  pub advance_eight : (t n : ℕ) → WalkEight (advance w t n)
  advance_eight t n = always_eight (advance w t n)

  pub retreat_eight : (t n : ℕ) → WalkEight (retreat w t n)
  retreat_eight t n = always_eight (retreat w t n)

  pub shift_eight : (t : ℕ) (lag : ℤ) → WalkEight (shift w t lag)
  shift_eight t lag = always_eight (shift w t lag)

  pub between_eight : (a b : ℕ) → WorkEight (between w a b)
  between_eight a b = always_eight (between w a b)

  pub place_start_eight : (kind : ActivityKind) (t : ℕ) → WalkEight (place_start w kind t)
  place_start_eight kind t = always_eight (place_start w kind t)

  pub start_for_finish_eight : (left t : ℕ) → WalkEight (start_for_finish w left t)
  start_for_finish_eight left t = always_eight (start_for_finish w left t)

  pub place_finish_eight : (kind : ActivityKind) (left t : ℕ) → WalkEight (place_finish w kind left t)
  place_finish_eight kind left t = always_eight (place_finish w kind left t)

  pub finish_for_start_eight : (left t : ℕ) → WalkEight (finish_for_start w left t)
  finish_for_start_eight left t = always_eight (finish_for_start w left t)

  pub finish_for_start_by_eight : (left t : ℕ) → WalkEight (finish_for_start_by w left t)
  finish_for_start_by_eight left t = always_eight (finish_for_start_by w left t)

  pub constraint_eight : (e : Option End) → MomentEight (constraint_time w e)
  constraint_eight e = always_eight (constraint_time w e)

  pub actual_eight_lem : (first last : Option Date) → ActualEight (actual w first last)
  actual_eight_lem first last = actual_eight (actual w first last)

pub bounded_eight : (origin t : ℕ) → WalkEight (bounded origin t)
bounded_eight origin t = always_eight (bounded origin t)

-- ---- of any statement: of a choice, from both
pub either : {A : Type 0} (P : A → Type 0) (b : Bool) (x y : A) → P x → P y → P (elim b [ true ↦ x | false ↦ y ])
either P true x y h k = h
either P false x y h k = k

-- of what follows a walk
pub follows : {A : Type 0} (P : A → Type 0) (refusal : ClockError → A) → P (refusal TooLong) → (w : Result ℕ ClockError) → WalkEight w → (go : ℕ → A) → ((t : ℕ) → P (go t)) → P (via refusal w go)
follows P refusal r (Ok t) h go k = k t
follows P refusal r (Err TooLong) h go k = r

pub then_walk : (w : Result ℕ ClockError) → WalkEight w → (go : ℕ → Result ℕ ClockError) → ((t : ℕ) → WalkEight (go t)) → WalkEight (via Err w go)
then_walk = follows WalkEight Err refl

-- of a day that is read
pub read_day : {A : Type 0} (P : A → Type 0) (refusal : ClockError → A) → P (refusal TooLong) → (d : ℕ) (x : A) → P x → P (reads refusal d x)
unfolding reads
read_day P refusal r d x h = either P (in_years d) x (refusal TooLong) h r
