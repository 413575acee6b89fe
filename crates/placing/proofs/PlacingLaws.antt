-- One law for each way out of the placings: what the walks on the way make of the answer.
use Rattle.std.specs.Prelude.{◌≡◌, ◌⊎◌, Bool, true, false, List, ℕ, ◌+◌, ◌*◌, ◌/◌, ◌≤◌, ◌<◌, max, eqb, Result, Ok, Err, Option, Some, None}
use Rattle.worktime.specs.declared.ClockError.{ClockError}
use Rattle.worktime.specs.declared.ClockError.TheVariants.{TooLong}
use Rattle.std.proofs.Math.Path.{refl, ap}
use Rattle.std.proofs.Common.{sym, ap₂, ◌∙◌, inl, inr, arith, eq-eqb, ne_eqb, le-leb, unwrap_or, add-zero}
use Rattle.std.proofs.Math.Bool.{◌&&◌}
use Rattle.std.proofs.lemmas.Bool.{lt-leb}
use Rattle.std.proofs.Math.Dec.{leb}
use Rattle.date.specs.declared.Date.{Date}
use Rattle.calendar.specs.declared.Period.{Period}
use Rattle.calendar.specs.Hours.{worked, Ordered, next_in}
use Rattle.clock.specs.Days.{day_next_at, day_next_none}
use Rattle.worktime.specs.Worked.{count}
use Rattle.worktime.specs.Walks.{reads, next_start, previous_finish, next_finish, previous_start, start_by, advance, retreat}
use Rattle.worktime.specs.Reads.{on_true, on_false}
use Rattle.worktime.specs.Search.{least_at, least_none}
use Rattle.project.specs.declared.ActivityKind.{ActivityKind}
use Rattle.project.specs.declared.ActivityKind.TheVariants.{Task, StartMilestone, FinishMilestone}
use Rattle.project.specs.declared.End.{End}
use Rattle.project.specs.declared.End.TheVariants.{Start, Finish}
use Rattle.placing.specs.declared.Actual.TheVariants.{Unstarted, Begun, Completed}
use Rattle.placing.specs.Placing.{midnight_of, via, bounded, is_moment, found, moment_of, completed, place_start, start_for_finish, place_finish, finish_for_start, finish_for_start_by, day_start, constraint_time, actual}

-- ---- a walk that answers, and one that is refused
module _ {A : Type 0} (refused : ClockError → A) (x : Result ℕ ClockError) (go : ℕ → A) where
  pub via_at : (u : ℕ) → x ≡ Ok u → via refused x go ≡ go u
  via_at u e = rw e

  pub via_refused : (k : ClockError) → x ≡ Err k → via refused x go ≡ refused k
  via_refused k e = rw e

-- ---- bounded
module _ (origin t : ℕ) where
  pub bounded_in : t ≤ origin + 288000000 → origin ≤ t + 288000000 → bounded origin t ≡ Ok t
  unfolding bounded
  bounded_in a b = on_true _ (Ok t) (Err TooLong) (ap₂ ◌&&◌ (le-leb t (origin + 288000000) a) (le-leb origin (t + 288000000) b))

  pub bounded_after : origin + 288000000 < t → bounded origin t ≡ Err TooLong
  unfolding bounded
  bounded_after a =
      on_false _ (Ok t) (Err TooLong) (ap (λ (x : Bool). x && leb origin (t + 288000000)) (lt-leb t (origin + 288000000) a))

  pub bounded_before : t + 288000000 < origin → bounded origin t ≡ Err TooLong
  unfolding bounded
  bounded_before a =
      on_false _ (Ok t) (Err TooLong) (ap₂ ◌&&◌ (le-leb t (origin + 288000000) (omega arith)) (lt-leb origin (t + 288000000) a))

module _ (w : ℕ → Bool) where
  -- ---- place start, by the activity's kind
  pub place_start_at_start : (kind : ActivityKind) (t : ℕ) → (kind ≡ Task) ⊎ (kind ≡ StartMilestone) → place_start w kind t ≡ next_start w t
  unfolding place_start
  place_start_at_start kind t (inl e) = rw e
  place_start_at_start kind t (inr e) = rw e

  pub place_start_finish : (kind : ActivityKind) (t : ℕ) → kind ≡ FinishMilestone → place_start w kind t ≡ next_finish w t
  unfolding place_start
  place_start_finish kind t e = rw e

  module _ (left t : ℕ) where
    -- ---- start for finish: with no work left t itself, else on from a walk
    pub start_for_finish_none : left ≡ 0 → start_for_finish w left t ≡ Ok t
    unfolding start_for_finish
    start_for_finish_none z = on_true (eqb left 0) (Ok t) _ (eq-eqb left 0 z)

    pub start_for_finish_some : (left ≡ 0 → ⊥) → start_for_finish w left t ≡ via Err (next_finish w t) (λ f. retreat w f left)
    unfolding start_for_finish
    start_for_finish_some p = on_false (eqb left 0) (Ok t) _ (ne_eqb left 0 p)

    pub start_for_finish_at : (left ≡ 0 → ⊥) → (f : ℕ) → next_finish w t ≡ Ok f → start_for_finish w left t ≡ retreat w f left
    start_for_finish_at p f e = start_for_finish_some p ∙ via_at Err _ _ f e

    pub start_for_finish_refuses : (left ≡ 0 → ⊥) → (k : ClockError) → next_finish w t ≡ Err k → start_for_finish w left t ≡ Err k
    start_for_finish_refuses p k e = start_for_finish_some p ∙ via_refused Err _ _ k e

    -- ---- finish for start
    pub finish_for_start_none : left ≡ 0 → finish_for_start w left t ≡ Ok t
    unfolding finish_for_start
    finish_for_start_none z = on_true (eqb left 0) (Ok t) _ (eq-eqb left 0 z)

    pub finish_for_start_some : (left ≡ 0 → ⊥) → finish_for_start w left t ≡ via Err (previous_start w t) (λ s. advance w s left)
    unfolding finish_for_start
    finish_for_start_some p = on_false (eqb left 0) (Ok t) _ (ne_eqb left 0 p)

    pub finish_for_start_at : (left ≡ 0 → ⊥) → (s : ℕ) → previous_start w t ≡ Ok s → finish_for_start w left t ≡ advance w s left
    finish_for_start_at p s e = finish_for_start_some p ∙ via_at Err _ _ s e

    pub finish_for_start_refuses : (left ≡ 0 → ⊥) → (k : ClockError) → previous_start w t ≡ Err k → finish_for_start w left t ≡ Err k
    finish_for_start_refuses p k e = finish_for_start_some p ∙ via_refused Err _ _ k e

    -- ---- finish for start, by a date
    pub finish_for_start_by_none : left ≡ 0 → finish_for_start_by w left t ≡ Ok t
    unfolding finish_for_start_by
    finish_for_start_by_none z = on_true (eqb left 0) (Ok t) _ (eq-eqb left 0 z)

    pub finish_for_start_by_some : (left ≡ 0 → ⊥) → finish_for_start_by w left t ≡ via Err (start_by w t) (λ s. advance w s left)
    unfolding finish_for_start_by
    finish_for_start_by_some p = on_false (eqb left 0) (Ok t) _ (ne_eqb left 0 p)

    pub finish_for_start_by_at : (left ≡ 0 → ⊥) → (s : ℕ) → start_by w t ≡ Ok s → finish_for_start_by w left t ≡ advance w s left
    finish_for_start_by_at p s e = finish_for_start_by_some p ∙ via_at Err _ _ s e

    pub finish_for_start_by_refuses : (left ≡ 0 → ⊥) → (k : ClockError) → start_by w t ≡ Err k → finish_for_start_by w left t ≡ Err k
    finish_for_start_by_refuses p k e = finish_for_start_by_some p ∙ via_refused Err _ _ k e

  -- ---- place finish
  module _ (kind : ActivityKind) (left t : ℕ) where
    pub place_finish_refuses : (k : ClockError) → previous_finish w t ≡ Err k → place_finish w kind left t ≡ Err k
    unfolding place_finish
    place_finish_refuses k e = via_refused Err _ _ k e

    pub place_finish_here : (f : ℕ) → previous_finish w t ≡ Ok f → is_moment kind left ≡ false → place_finish w kind left t ≡ Ok f
    unfolding place_finish
    place_finish_here f e m = via_at Err _ _ f e ∙ on_false (is_moment kind left) _ (Ok f) m

    place_finish_moment : (f : ℕ) → previous_finish w t ≡ Ok f → is_moment kind left ≡ true
        → place_finish w kind left t ≡ via Err (next_start w f) (λ s. elim (leb s t) [ true ↦ Ok s | false ↦ Ok f ])
    unfolding place_finish
    place_finish_moment f e m = via_at Err _ _ f e ∙ on_true (is_moment kind left) _ (Ok f) m

    pub place_finish_start : (f s : ℕ) → previous_finish w t ≡ Ok f → is_moment kind left ≡ true → next_start w f ≡ Ok s → s ≤ t
        → place_finish w kind left t ≡ Ok s
    place_finish_start f s e m n l = place_finish_moment f e m ∙ via_at Err _ _ s n ∙ on_true (leb s t) (Ok s) (Ok f) (le-leb s t l)

    pub place_finish_before : (f s : ℕ) → previous_finish w t ≡ Ok f → is_moment kind left ≡ true → next_start w f ≡ Ok s → t < s
        → place_finish w kind left t ≡ Ok f
    place_finish_before f s e m n l = place_finish_moment f e m ∙ via_at Err _ _ s n ∙ on_false (leb s t) (Ok s) (Ok f) (lt-leb s t l)

    pub place_finish_start_refuses : (f : ℕ) (k : ClockError) → previous_finish w t ≡ Ok f → is_moment kind left ≡ true → next_start w f ≡ Err k
        → place_finish w kind left t ≡ Err k
    place_finish_start_refuses f k e m n = place_finish_moment f e m ∙ via_refused Err _ _ k n

  -- ---- the start of a day's work, by counts
  pub day_start_at : (t m : ℕ) → m < 1440 → w (t + m) ≡ true → count w (t + m) ≡ count w t → day_start w t ≡ t + m
  unfolding day_start
  day_start_at t m l h e = ap (found t) (least_at w 1440 t (t + m) (omega arith) (omega arith) h e)

  pub day_start_none : (t : ℕ) → count w (t + 1440) ≡ count w t → day_start w t ≡ t
  unfolding day_start
  day_start_none t e = ap (found t) (least_none w 1440 t (omega arith))

  -- ---- a constraint's time, by the end that it bounds
  pub constraint_time_start : (end : Option End) (d : Date) (x : Result ℕ ClockError) → end ≡ Some (Start d) → x ≡ reads Err (midnight_of d / 1440) (Ok (day_start w (midnight_of d)))
      → constraint_time w end ≡ moment_of x
  unfolding constraint_time
  constraint_time_start end d x e f = ap (constraint_time w) e ∙ ap moment_of (sym f)

  pub constraint_time_finish : (end : Option End) (d : Date) (x : Result ℕ ClockError) → end ≡ Some (Finish d) → x ≡ previous_finish w (midnight_of d + 1440) → constraint_time w end ≡ moment_of x
  unfolding constraint_time
  constraint_time_finish end d x e f = ap (constraint_time w) e ∙ ap moment_of (sym f)

  pub constraint_time_neither : (end : Option End) → end ≡ None → constraint_time w end ≡ (Ok None)
  unfolding constraint_time
  constraint_time_neither end e = ap (constraint_time w) e

  -- ---- recorded work
  pub actual_none : actual w None None ≡ Ok Unstarted
  unfolding actual
  actual_none = refl

  pub actual_finish_only : (e : Date) → actual w None (Some e) ≡ actual w (Some e) (Some e)
  unfolding actual
  actual_finish_only e = refl

  module _ (d : Date) where
    pub actual_begun : (s : ℕ) → next_start w (midnight_of d) ≡ Ok s → actual w (Some d) None ≡ Ok (Begun s)
    unfolding actual
    actual_begun s a = via_at Err _ _ s a

    pub actual_begun_refuses : (k : ClockError) → next_start w (midnight_of d) ≡ Err k → actual w (Some d) None ≡ Err k
    unfolding actual
    actual_begun_refuses k a = via_refused Err _ _ k a

    module _ (e : Date) where
      pub actual_start_refuses : (k : ClockError) → next_start w (midnight_of d) ≡ Err k → actual w (Some d) (Some e) ≡ Err k
      unfolding actual
      actual_start_refuses k a = via_refused Err _ _ k a

      pub actual_finish_refuses : (s : ℕ) (k : ClockError) → next_start w (midnight_of d) ≡ Ok s → previous_finish w (midnight_of e + 1440) ≡ Err k
          → actual w (Some d) (Some e) ≡ Err k
      unfolding actual
      actual_finish_refuses s k a b = via_at Err _ _ s a ∙ ap (completed s) b

      pub actual_both : (s f : ℕ) → next_start w (midnight_of d) ≡ Ok s → previous_finish w (midnight_of e + 1440) ≡ Ok f
          → actual w (Some d) (Some e) ≡ Ok (Completed s (max f s))
      unfolding actual
      actual_both s f a b = via_at Err _ _ s a ∙ ap (completed s) b

      pub actual_finished : (s f : ℕ) → next_start w (midnight_of d) ≡ Ok s → previous_finish w (midnight_of e + 1440) ≡ Ok f → s ≤ f
          → actual w (Some d) (Some e) ≡ Ok (Completed s f)
      actual_finished s f a b l = let m : max f s ≡ f = omega arith in actual_both s f a b ∙ ap (λ (x : ℕ). Ok (Completed s x)) m

      pub actual_raised : (s f : ℕ) → next_start w (midnight_of d) ≡ Ok s → previous_finish w (midnight_of e + 1440) ≡ Ok f → f < s
          → actual w (Some d) (Some e) ≡ Ok (Completed s s)
      actual_raised s f a b l = let m : max f s ≡ s = omega arith in actual_both s f a b ∙ ap (λ (x : ℕ). Ok (Completed s x)) m

-- ---- the start of a day's work, by the day's hours: `h` is the hours of each day
module _ (h : ℕ → List Period) (d : ℕ) (o : Ordered 0 (h d)) where
  midnight_count : count (worked h) (d * 1440 + 0) ≡ count (worked h) (d * 1440)
  midnight_count = ap (count (worked h)) (omega arith)

  pub day_start_found : (m : ℕ) → next_in (h d) 0 ≡ Some m → (day_start (worked h) (d * 1440) ≡ d * 1440 + m) × (m < 1440)
  day_start_found m e = let n = day_next_at h d o 0 m e in (day_start_at (worked h) (d * 1440) m n.1 n.2 (n.3 ∙ midnight_count), n.1)

  pub day_start_free : next_in (h d) 0 ≡ None → day_start (worked h) (d * 1440) ≡ d * 1440
  day_start_free e = day_start_none (worked h) (d * 1440) (day_next_none h d o 0 (omega arith) e ∙ midnight_count)

  pub day_start_tells : (f : Option ℕ) → next_in (h d) 0 ≡ f → (day_start (worked h) (d * 1440) ≡ d * 1440 + unwrap_or f 0) × (unwrap_or f 0 < 1440)
  day_start_tells None e = (day_start_free e ∙ sym (add-zero (d * 1440)), omega arith)
  day_start_tells (Some m) e = day_start_found m e
