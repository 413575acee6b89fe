-- What holds of a constraint's time and of the times of recorded work, and that every refusal of theirs is row 8.
use Rattle.std.specs.Prelude.{◌≡◌, refl, Bool, true, false, ◌⊎◌, ℕ, ◌+◌, ◌/◌, ◌≤◌, ◌<◌, max, Result, Ok, Err, Option, Some, None}
use Rattle.worktime.specs.declared.ClockError.{ClockError}
use Rattle.worktime.specs.declared.ClockError.TheVariants.{TooLong}
use Rattle.std.proofs.Common.{sym, ◌∙◌, inl, inr, ⊎_elim, arith}
use Rattle.std.proofs.Math.Path.{ap, ap₂}
use Rattle.number.specs.Order.{cases, lt_or_le}
use Rattle.date.specs.declared.Date.{Date}
use Rattle.date.specs.Years.{in_years, years_within}
use Rattle.worktime.specs.Worked.{count, IsNextStart, IsPreviousFinish}
use Rattle.worktime.specs.Walks.{first_minute, end_minute, next_start, previous_finish}
use Rattle.worktime.specs.Count.{start_le, count_mono, reach}
use Rattle.worktime.specs.Reads.{reads_in, reads_out, minute_range}
use Rattle.worktime.specs.Search.{least_at}
use Rattle.worktime.proofs.Answers.{next_start_sound, next_start_refused, previous_finish_sound, previous_finish_refused}
use Rattle.project.specs.declared.End.{End}
use Rattle.project.specs.declared.End.TheVariants.{Start, Finish}
use Rattle.project.specs.declared.Status.TheVariants.{NotStarted, InProgress, Completed as StatusCompleted}
use Rattle.project.specs.Status.{status_of}
use Rattle.project.specs.Ranges.{DayInRange}
use Rattle.placing.specs.declared.Actual.TheVariants.{Unstarted, Begun, Completed}
use Rattle.placing.specs.Placing.{midnight_of, found, moment_of, day_start, constraint_time, actual}
use Rattle.placing.proofs.PlacingLaws.{day_start_none, constraint_time_start, constraint_time_finish, constraint_time_neither, actual_none, actual_finish_only, actual_begun, actual_begun_refuses, actual_start_refuses, actual_finish_refuses, actual_both}
use Rattle.placing.proofs.PlacingSound.{clash, walk_ways}

-- a sheet's days lie in the years that a walk may read
pub day_in_years : (d : Date) → DayInRange d → in_years (midnight_of d / 1440) ≡ true
day_in_years d r = years_within (midnight_of d / 1440) (omega (arith, r.low, r.high)) (omega (arith, r.low, r.high))

-- ---- the start of a day's work

pub record DayStart (w : ℕ → Bool) (t u : ℕ) : Type 0 where
  pub after : t ≤ u
  pub within : u < t + 1440
  pub same : count w u ≡ count w t
  pub worked : count w t < count w (t + 1440) → w u ≡ true
  pub free : count w (t + 1440) ≡ count w t → u ≡ t

module _ (w : ℕ → Bool) where
  day_start_least : (t u : ℕ) → t ≤ u → u < t + 1440 → w u ≡ true → count w u ≡ count w t → day_start w t ≡ u
  unfolding day_start
  day_start_least t u a b h c = ap (found t) (least_at w 1440 t u a b h c)

  pub day_start_sound : (t u : ℕ) → day_start w t ≡ u → DayStart w t u
  day_start_sound t u e =
      ⊎_elim
      (λ l.
      let r = reach w (t + 1440) (count w t) l in
      let a : t ≤ r.0 = (start_le w r.2).1 (omega (arith, r.3)) in
      let s : r.0 ≡ u = sym (day_start_least t r.0 a r.1 r.2 r.3) ∙ e in
      record {
        after = omega arith;
        within = omega (arith, r.1);
        same = sym (ap (count w) s) ∙ r.3;
        worked = λ _. sym (ap w s) ∙ r.2;
        free = λ f. absurd (omega arith);
      })
      (λ l.
      let f : count w (t + 1440) ≡ count w t = omega (arith, count_mono w {s = t} {t = t + 1440} (omega arith)) in
      let s : u ≡ t = sym e ∙ day_start_none w t f in
      record {
        after = omega arith;
        within = omega arith;
        same = ap (count w) s;
        worked = λ k. absurd (omega arith);
        free = λ _. s;
      }) (lt_or_le (count w t) (count w (t + 1440)))

  -- ---- a constraint's time

  moment_at : {x : Result ℕ ClockError} {m : Result (Option ℕ) ClockError} {u : ℕ} → m ≡ moment_of x → m ≡ (Ok (Some u)) → x ≡ Ok u
  moment_at {x} p q = ⊎_elim (λ a. let e : moment_of x ≡ (Ok (Some a.0)) = ap moment_of a.1 in let s : a.0 ≡ _ = cc in a.1 ∙ ap Ok s)
      (λ r. let e : moment_of x ≡ Err r.0 = ap moment_of r.1 in clash (cc)) (walk_ways x)

  moment_refused : {x : Result ℕ ClockError} {m : Result (Option ℕ) ClockError} {k : ClockError} → m ≡ moment_of x → m ≡ Err k → x ≡ Err k
  moment_refused {x} p q = ⊎_elim (λ a. let e : moment_of x ≡ (Ok (Some a.0)) = ap moment_of a.1 in clash (cc))
      (λ r. let e : moment_of x ≡ Err r.0 = ap moment_of r.1 in let s : r.0 ≡ _ = cc in r.1 ∙ ap Err s) (walk_ways x)

  moment_somewhere : (x : Result ℕ ClockError) {m : Result (Option ℕ) ClockError} → m ≡ moment_of x → m ≡ (Ok None) → ⊥
  moment_somewhere x p q = ⊎_elim (λ a. let e : moment_of x ≡ (Ok (Some a.0)) = ap moment_of a.1 in clash (cc))
      (λ r. let e : moment_of x ≡ Err r.0 = ap moment_of r.1 in clash (cc)) (walk_ways x)

  module _ (d : Date) where
    -- a constraint on a start: never refused where its day may be read
    pub constraint_start_in : in_years (midnight_of d / 1440) ≡ true → constraint_time w (Some (Start d)) ≡ (Ok (Some (day_start w (midnight_of d))))
    constraint_start_in y = constraint_time_start w (Some (Start d)) d (Ok (day_start w (midnight_of d))) refl (sym (reads_in Err _ _ y))

    pub constraint_start_out : in_years (midnight_of d / 1440) ≡ false → constraint_time w (Some (Start d)) ≡ Err TooLong
    constraint_start_out n = constraint_time_start w (Some (Start d)) d (Err TooLong) refl (sym (reads_out Err _ _ n))

    pub constraint_start_sound : (u : ℕ) → constraint_time w (Some (Start d)) ≡ (Ok (Some u))
        → (u ≡ day_start w (midnight_of d)) × DayStart w (midnight_of d) u × (first_minute ≤ u) × (u < end_minute)
    constraint_start_sound u e =
        ⊎_elim
        (λ y.
        let f = constraint_start_in y in
        let s : u ≡ day_start w (midnight_of d) = cc in
        let r = day_start_sound (midnight_of d) u (sym s) in
        let m = minute_range (midnight_of d) y in
        (s, r, omega (arith, r.after), omega (arith, r.within)))
        (λ n. let f = constraint_start_out n in clash (cc)) (cases (in_years (midnight_of d / 1440)))

    -- a constraint on a finish
    constraint_finish_is : constraint_time w (Some (Finish d)) ≡ moment_of (previous_finish w (midnight_of d + 1440))
    constraint_finish_is = constraint_time_finish w (Some (Finish d)) d (previous_finish w (midnight_of d + 1440)) refl refl

    pub constraint_finish_sound : (u : ℕ) → constraint_time w (Some (Finish d)) ≡ (Ok (Some u))
        → IsPreviousFinish w (midnight_of d + 1440) u × (first_minute < u) × (u < end_minute)
    constraint_finish_sound u e =
        let s = previous_finish_sound w (moment_at constraint_finish_is e) in (s.0, s.1, omega (arith, s.0.before, s.2))

  pub constraint_time_bound : (end : Option End) (u : ℕ) → constraint_time w end ≡ (Ok (Some u)) → (first_minute ≤ u) × (u < end_minute)
  constraint_time_bound (Some (Start d)) u e = let s = constraint_start_sound d u e in (s.2, s.3)
  constraint_time_bound (Some (Finish d)) u e = let s = constraint_finish_sound d u e in (omega (arith, s.1), s.2)
  constraint_time_bound None u e = let f = constraint_time_neither w None refl in clash (cc)

  pub constraint_time_refused : (end : Option End) (k : ClockError) → constraint_time w end ≡ Err k → k ≡ TooLong
  constraint_time_refused (Some (Start d)) k e =
      ⊎_elim (λ y. let f = constraint_start_in d y in clash (cc))
      (λ n. let f = constraint_start_out d n in cc) (cases (in_years (midnight_of d / 1440)))
  constraint_time_refused (Some (Finish d)) k e = previous_finish_refused w _ k (moment_refused (constraint_finish_is d) e)
  constraint_time_refused None k e = let f = constraint_time_neither w None refl in clash (cc)

  pub constraint_time_nowhere : (end : Option End) → constraint_time w end ≡ (Ok None) → end ≡ None
  constraint_time_nowhere (Some (Start d)) e =
      ⊎_elim (λ y. let f = constraint_start_in d y in clash (cc))
      (λ n. let f = constraint_start_out d n in clash (cc)) (cases (in_years (midnight_of d / 1440)))
  constraint_time_nowhere (Some (Finish d)) e = absurd (moment_somewhere (previous_finish w (midnight_of d + 1440)) (constraint_finish_is d) e)
  constraint_time_nowhere None e = refl

-- ---- recorded work: from the day d on, and to the day e

pub record BegunWork (w : ℕ → Bool) (d : Date) (s : ℕ) : Type 0 where
  pub starts : IsNextStart w (midnight_of d) s
  pub from : first_minute ≤ s
  pub within : s < end_minute

pub record CompletedWork (w : ℕ → Bool) (d e : Date) (s f : ℕ) : Type 0 where
  pub begun : BegunWork w d s
  pub last : ℕ
  pub ends : IsPreviousFinish w (midnight_of e + 1440) last
  pub raised : f ≡ max last s
  pub order : s ≤ f
  pub within : f < end_minute

-- the day that recorded work began on: the finish day where only that is given
abbrev pub FirstDay : Option Date → Date → Date → Type 0
FirstDay first e d = (first ≡ Some d) ⊎ ((first ≡ None) × (d ≡ e))

module _ (w : ℕ → Bool) where
  begun_from : (d : Date) (s : ℕ) → next_start w (midnight_of d) ≡ Ok s → BegunWork w d s
  begun_from d s e = let r = next_start_sound w e in record { starts = r.0; from = omega (arith, r.1, r.0.after); within = r.2 }

  -- the ways of work of which the first day is known
  data BegunWay (d : Date) : Type 0 where
    begins : (s : ℕ) → actual w (Some d) None ≡ Ok (Begun s) → BegunWork w d s → BegunWay d
    refused : actual w (Some d) None ≡ Err TooLong → BegunWay d

  data CompletedWay (d e : Date) : Type 0 where
    completes : (s f : ℕ) → actual w (Some d) (Some e) ≡ Ok (Completed s f) → CompletedWork w d e s f → CompletedWay d e
    refused : actual w (Some d) (Some e) ≡ Err TooLong → CompletedWay d e

  begun_way : (d : Date) → BegunWay d
  begun_way d =
      ⊎_elim (λ a. begins a.0 (actual_begun w d a.0 a.1) (begun_from d a.0 a.1))
      (λ r. refused (actual_begun_refuses w d r.0 r.1 ∙ ap Err (next_start_refused w _ r.0 r.1))) (walk_ways (next_start w (midnight_of d)))

  completed_from : (d e : Date) (s f : ℕ) → next_start w (midnight_of d) ≡ Ok s → previous_finish w (midnight_of e + 1440) ≡ Ok f → CompletedWork w d e s (max f s)
  completed_from d e s f a b =
      let p = previous_finish_sound w b in
      let g = begun_from d s a in
      let l : f < end_minute = omega (arith, p.0.before, p.2) in
      record { begun = g; last = f; ends = p.0; raised = refl; order = omega arith; within = omega (arith, g.within) }

  completed_way : (d e : Date) → CompletedWay d e
  completed_way d e =
      ⊎_elim
      (λ a.
      ⊎_elim (λ b. completes a.0 (max b.0 a.0) (actual_both w d e a.0 b.0 a.1 b.1) (completed_from d e a.0 b.0 a.1 b.1))
      (λ r. refused (actual_finish_refuses w d e a.0 r.0 a.1 r.1 ∙ ap Err (previous_finish_refused w _ r.0 r.1)))
      (walk_ways (previous_finish w (midnight_of e + 1440))))
      (λ r. refused (actual_start_refuses w d e r.0 r.1 ∙ ap Err (next_start_refused w _ r.0 r.1))) (walk_ways (next_start w (midnight_of d)))

  -- ---- what each answer says of the recorded days and of their times

  data ActualWay (first last : Option Date) : Type 0 where
    none : first ≡ None → last ≡ None → actual w first last ≡ Ok Unstarted → ActualWay first last
    some : (d : Date) (s : ℕ) → first ≡ Some d → last ≡ None → actual w first last ≡ Ok (Begun s) → BegunWork w d s → ActualWay first last
    all : (d e : Date) (s f : ℕ) → FirstDay first e d → last ≡ Some e → actual w first last ≡ Ok (Completed s f) → CompletedWork w d e s f → ActualWay first last
    refused : actual w first last ≡ Err TooLong → ActualWay first last

  of_begun : (d : Date) → BegunWay d → ActualWay (Some d) None
  of_begun d (begins s e g) = some d s refl refl e g
  of_begun d (refused e) = refused e

  of_completed : (first : Option Date) (d e : Date) → FirstDay first e d → actual w first (Some e) ≡ actual w (Some d) (Some e) → CompletedWay d e → ActualWay first (Some e)
  of_completed first d e k q (completes s f a g) = all d e s f k refl (q ∙ a) g
  of_completed first d e k q (refused a) = refused (q ∙ a)

  actual_way : (first last : Option Date) → ActualWay first last
  actual_way None None = none refl refl (actual_none w)
  actual_way (Some d) None = of_begun d (begun_way d)
  actual_way None (Some e) = of_completed None e e (inr (refl, refl)) (actual_finish_only w e) (completed_way e e)
  actual_way (Some d) (Some e) = of_completed (Some d) d e (inl refl) refl (completed_way d e)

  module _ (first last : Option Date) where
    pub actual_unstarted_sound : actual w first last ≡ Ok Unstarted → (first ≡ None) × (last ≡ None)
    actual_unstarted_sound q = go (actual_way first last)
      where
        go : ActualWay first last → (first ≡ None) × (last ≡ None)
        go (none a b e) = (a, b)
        go (some d s a b e g) = clash (cc)
        go (all d e s f a b x g) = clash (cc)
        go (refused e) = clash (cc)

    pub actual_begun_sound : (s : ℕ) → actual w first last ≡ Ok (Begun s) → (d : Date) × (first ≡ Some d) × (last ≡ None) × BegunWork w d s
    actual_begun_sound s q = go (actual_way first last)
      where
        go : ActualWay first last → (d : Date) × (first ≡ Some d) × (last ≡ None) × BegunWork w d s
        go (none a b e) = clash (cc)
        go (some d r a b e g) = let same : r ≡ s = cc in (d, a, b, rw same at g)
        go (all d e r f a b x g) = clash (cc)
        go (refused e) = clash (cc)

    pub actual_completed_sound : (s f : ℕ) → actual w first last ≡ Ok (Completed s f) → (d e : Date) × FirstDay first e d × (last ≡ Some e) × CompletedWork w d e s f
    actual_completed_sound s f q = go (actual_way first last)
      where
        go : ActualWay first last → (d e : Date) × FirstDay first e d × (last ≡ Some e) × CompletedWork w d e s f
        go (none a b e) = clash (cc)
        go (some d r a b e g) = clash (cc)
        go (all d e r h a b x g) = let i : r ≡ s = cc in let j : h ≡ f = cc in (d, e, a, b, rw (i, j) at g)
        go (refused e) = clash (cc)

    pub actual_refused : (k : ClockError) → actual w first last ≡ Err k → k ≡ TooLong
    actual_refused k q = go (actual_way first last)
      where
        go : ActualWay first last → k ≡ TooLong
        go (none a b e) = clash (cc)
        go (some d r a b e g) = clash (cc)
        go (all d e r h a b x g) = clash (cc)
        go (refused e) = cc

    -- the answer goes with 000's status, which reads the fields alone
    pub actual_status_unstarted : actual w first last ≡ Ok Unstarted → status_of first last ≡ NotStarted
    unfolding status_of
    actual_status_unstarted q = let r = actual_unstarted_sound q in ap₂ status_of r.0 r.1

    pub actual_status_begun : (s : ℕ) → actual w first last ≡ Ok (Begun s) → status_of first last ≡ InProgress
    unfolding status_of
    actual_status_begun s q = let r = actual_begun_sound s q in ap₂ status_of r.1 r.2

    pub actual_status_completed : (s f : ℕ) → actual w first last ≡ Ok (Completed s f) → status_of first last ≡ StatusCompleted
    unfolding status_of
    actual_status_completed s f q = let r = actual_completed_sound s f q in rw r.3
