-- What the judges of one record say: each way of `judged`, and the facts of a record that may stand.
use Rattle.std.specs.Prelude.{◌≡◌, refl, Ok, Err, Bool, true, false, ◌&&◌, ◌||◌, not, ◌⊎◌, List, ℕ, suc, ◌+◌, ◌*◌, ◌≤◌, ◌<◌, eqb, leb, ltb, length}
use Rattle.std.proofs.Common.{inl, inr, ⊎_elim, arith, ltb-true, leb-true, leb-false, eqb-true}
use Rattle.number.specs.Tests.{and_both, or_either}
use Rattle.calendar.specs.declared.Period.{Period}
use Rattle.calendar.specs.Records.{weekday_at, week_period_at, week_periods, exception_day, exception_period}
use Rattle.project.specs.Fields.{activity_size, link_size, day_ok, calendar_ok, activity_ok, link_ok}
use Rattle.judges.specs.declared.SheetError.TheVariants.{OutOfRange, BeyondLimit}
use Rattle.judges.specs.Judging.{judged, judge_calendar, period_ok, week_after, judge_week, no_work, exception_after, judge_exception, judge_activity, judge_link}
use Rattle.sheet.specs.RunLaws.{never_ok}

-- ---- judged
module _ (beyond ok : Bool) where
  pub judged_beyond : beyond ≡ true → judged beyond ok ≡ Err BeyondLimit
  unfolding judged
  judged_beyond e = rw (e, judged)

  pub judged_range : beyond ≡ false → ok ≡ false → judged beyond ok ≡ Err OutOfRange
  unfolding judged
  judged_range e k = rw (e, k, judged)

  pub judged_stands : beyond ≡ false → ok ≡ true → judged beyond ok ≡ Ok tt
  unfolding judged
  judged_stands e k = rw (e, k, judged)

pub judged_ok : (beyond ok : Bool) → judged beyond ok ≡ Ok tt → (beyond ≡ false) × (ok ≡ true)
unfolding judged
judged_ok true ok e = absurd (never_ok e)
judged_ok false true e = (refl, refl)
judged_ok false false e = absurd (never_ok e)

-- ---- a period
pub period_in_lem : (p : Period) → period_ok p ≡ true → (p.from < p.to) × (p.to ≤ 1440)
unfolding period_ok
period_in_lem p e = let (a, b) = and_both (ltb p.from p.to) (leb p.to 1440) e in (ltb-true p.from p.to a, leb-true p.to 1440 b)

pub no_work_in : (p : Period) → no_work p ≡ true → (p.from ≡ 0) × (p.to ≡ 0)
unfolding no_work
no_work_in p e = let (a, b) = and_both (eqb p.from 0) (eqb p.to 0) e in (eqb-true p.from 0 a, eqb-true p.to 0 b)

-- ---- C
pub calendar_stands : (s : List ℕ) (at k : ℕ) → judge_calendar s at k ≡ Ok tt → (k < 15) × (calendar_ok s at ≡ true)
unfolding judge_calendar
calendar_stands s at k e = let (a, b) = judged_ok (leb 15 k) (calendar_ok s at) e in (leb-false 15 k a, b)

-- ---- W
pub record WeekStands (s : List ℕ) (at i : ℕ) : Type 0 where
  pub weekday : weekday_at s at i < 7
  pub few : length (week_periods s at (weekday_at s at i) i) < 8
  pub hours : (week_period_at s at i).from < (week_period_at s at i).to
  pub midnight : (week_period_at s at i).to ≤ 1440
  pub after : week_after s at i ≡ true

pub week_stands : (s : List ℕ) (at i : ℕ) → judge_week s at i ≡ Ok tt → WeekStands s at i
unfolding judge_week
week_stands s at i e =
    let (a, b) =
    judged_ok (ltb (weekday_at s at i) 7 && leb 8 (length (week_periods s at (weekday_at s at i) i)))
    (ltb (weekday_at s at i) 7 && period_ok (week_period_at s at i) && week_after s at i) e
    in
    let (b1, b2) = and_both (ltb (weekday_at s at i) 7 && period_ok (week_period_at s at i)) (week_after s at i) b in
    let (b3, b4) = and_both (ltb (weekday_at s at i) 7) (period_ok (week_period_at s at i)) b1 in
    let (p, q) = period_in_lem (week_period_at s at i) b4 in
    let w : weekday_at s at i < 7 = ltb-true (weekday_at s at i) 7 b3 in
    record { weekday = w; few = leb-false 8 (length (week_periods s at (weekday_at s at i) i)) (rw b3 at a); hours = p; midnight = q; after = b2 }

pub week_after_lem : (s : List ℕ) (at i : ℕ) → week_after s at (suc i) ≡ true
    → (weekday_at s at i < weekday_at s at (suc i))
    ⊎ ((weekday_at s at i ≡ weekday_at s at (suc i)) × ((week_period_at s at i).to ≤ (week_period_at s at (suc i)).from))
unfolding week_after
week_after_lem s at i e =
    ⊎_elim (λ a. inl (ltb-true (weekday_at s at i) (weekday_at s at (suc i)) a))
    (λ a.
    let (b, c) = and_both (eqb (weekday_at s at i) (weekday_at s at (suc i))) (leb (week_period_at s at i).to (week_period_at s at (suc i)).from) a in
    inr (eqb-true (weekday_at s at i) (weekday_at s at (suc i)) b, leb-true (week_period_at s at i).to (week_period_at s at (suc i)).from c))
    (or_either (ltb (weekday_at s at i) (weekday_at s at (suc i)))
    (eqb (weekday_at s at i) (weekday_at s at (suc i)) && leb (week_period_at s at i).to (week_period_at s at (suc i)).from) e)

-- ---- E
pub record ExceptionStands (s : List ℕ) (at i : ℕ) : Type 0 where
  pub few : i < 256
  pub day : day_ok (exception_day s at i) ≡ true
  pub midnight : (exception_period s at i).to ≤ 1440
  pub forward : (exception_period s at i).from ≤ (exception_period s at i).to
  pub hours : 0 < (exception_period s at i).to → (exception_period s at i).from < (exception_period s at i).to
  pub after : exception_after s at i ≡ true

pub exception_stands : (s : List ℕ) (at i : ℕ) → judge_exception s at i ≡ Ok tt → ExceptionStands s at i
unfolding judge_exception
exception_stands s at i e =
    let p = exception_period s at i in
    let (a, b) = judged_ok (leb 256 i) (day_ok (exception_day s at i) && (no_work p || period_ok p) && exception_after s at i) e in
    let (b1, b2) = and_both (day_ok (exception_day s at i) && (no_work p || period_ok p)) (exception_after s at i) b in
    let (b3, b4) = and_both (day_ok (exception_day s at i)) (no_work p || period_ok p) b1 in
    let (m, f, h) = hours p b4 in
    record { few = leb-false 256 i a; day = b3; midnight = m; forward = f; hours = h; after = b2 }
  where
    hours : (p : Period) → (no_work p || period_ok p) ≡ true → (p.to ≤ 1440) × (p.from ≤ p.to) × (0 < p.to → p.from < p.to)
    hours p k =
        ⊎_elim (λ n. let (f, t) = no_work_in p n in (omega arith, omega arith, λ l. absurd (omega arith))) (λ o. let (f, t) = period_in_lem p o in (t, omega arith, λ l. f))
        (or_either (no_work p) (period_ok p) k)

pub exception_after_lem : (s : List ℕ) (at i : ℕ) → exception_after s at (suc i) ≡ true
    → (exception_day s at i < exception_day s at (suc i))
    ⊎ ((exception_day s at i ≡ exception_day s at (suc i)) × ((exception_period s at i).to ≤ (exception_period s at (suc i)).from))
unfolding exception_after
exception_after_lem s at i e =
    let d = exception_day s at i in
    let g = exception_day s at (suc i) in
    let p = exception_period s at i in
    let q = exception_period s at (suc i) in
    ⊎_elim (λ a. inl (ltb-true d g a))
    (λ a.
    let (b, c) = and_both (eqb d g && not (no_work p) && not (no_work q)) (leb p.to q.from) a in
    let (b1, b2) = and_both (eqb d g && not (no_work p)) (not (no_work q)) b in
    let (b3, b4) = and_both (eqb d g) (not (no_work p)) b1 in
    inr (eqb-true d g b3, leb-true p.to q.from c))
    (or_either (ltb d g) (eqb d g && not (no_work p) && not (no_work q) && leb p.to q.from) e)

-- ---- A and L
pub activity_stands : (s : List ℕ) (at i : ℕ) → judge_activity s at i ≡ Ok tt → (i < 4096) × (activity_ok s (at + activity_size * i) ≡ true)
unfolding judge_activity
activity_stands s at i e = let (a, b) = judged_ok (leb 4096 i) (activity_ok s (at + activity_size * i)) e in (leb-false 4096 i a, b)

pub link_stands_lem : (s : List ℕ) (at i : ℕ) → judge_link s at i ≡ Ok tt → (i < 16384) × (link_ok s (at + link_size * i) ≡ true)
unfolding judge_link
link_stands_lem s at i e = let (a, b) = judged_ok (leb 16384 i) (link_ok s (at + link_size * i)) e in (leb-false 16384 i a, b)
