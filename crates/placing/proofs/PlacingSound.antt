-- What holds of the times that the placings answer, and that every refusal of theirs is row 8.
use Rattle.std.specs.Prelude.{◌≡◌, refl, Bool, true, false, ◌⊎◌, ℕ, ◌+◌, ◌≤◌, ◌<◌, Result, Ok, Err}
use Rattle.worktime.specs.declared.ClockError.{ClockError}
use Rattle.worktime.specs.declared.ClockError.TheVariants.{TooLong}
use Rattle.std.proofs.Common.{sym, ap, ◌∙◌, true≢false, inl, inr, ⊎_elim, arith}
use Rattle.number.specs.Order.{cases, lt_or_le, zero_or_pos}
use Rattle.worktime.specs.Worked.{count, closing, IsNextStart, IsNextFinish, IsAdvance, IsRetreat}
use Rattle.worktime.specs.Walks.{first_minute, end_minute, next_start, previous_finish, next_finish, previous_start, start_by}
use Rattle.worktime.specs.Count.{count_mono, start_le, closing_pred}
use Rattle.worktime.specs.Relations.{next_start_count, next_finish_count, next_finish_after, previous_finish_count, advance_from, retreat_before}
use Rattle.worktime.specs.Adjoint.{finish_galois}
use Rattle.worktime.specs.Reads.{at_or_refused}
use Rattle.worktime.proofs.Answers.{next_start_sound, next_start_refused, previous_finish_sound, previous_finish_refused, next_finish_sound, next_finish_refused, previous_start_next, start_by_sound, start_by_refused}
use Rattle.worktime.proofs.Shift.{advance_sound, advance_refused, retreat_sound, retreat_refused}
use Rattle.project.specs.declared.ActivityKind.{ActivityKind}
use Rattle.project.specs.declared.ActivityKind.TheVariants.{Task, StartMilestone, FinishMilestone}
use Rattle.placing.specs.Placing.{bounded, is_moment, place_start, finish_of, start_for_finish, place_finish, latest_same, start_of, finish_for_start, finish_for_start_by}
use Rattle.placing.proofs.PlacingLaws.{bounded_in, bounded_after, bounded_before, place_start_at_start, place_start_finish, start_for_finish_none, start_for_finish_at, start_for_finish_refuses, finish_for_start_none, finish_for_start_at, finish_for_start_refuses, finish_for_start_by_none, finish_for_start_by_at, finish_for_start_by_refuses, place_finish_refuses, place_finish_here, place_finish_start, place_finish_before, place_finish_start_refuses}

-- ---- walks

-- answers of two forms are not equal: `cc` has 0 ≡ 1 from them
pub clash : {X : Type 0} → ◌≡◌ {A = ℕ} 0 1 → X
clash z = absurd (omega arith)

pub same_time : {x : Result ℕ ClockError} {u v : ℕ} → x ≡ Ok u → x ≡ Ok v → u ≡ v
same_time p q = cc

pub same_refusal : {x : Result ℕ ClockError} {j k : ClockError} → x ≡ Err j → x ≡ Err k → k ≡ j
same_refusal p q = cc

-- a walk answers or is refused
pub walk_ways : (x : Result ℕ ClockError) → ((u : ℕ) × (x ≡ Ok u)) ⊎ ((k : ClockError) × (x ≡ Err k))
walk_ways (Ok u) = inl (u, refl)
walk_ways (Err k) = inr (k, refl)

some : {n : ℕ} → 0 < n → n ≡ 0 → ⊥
some p z = omega arith

-- ---- bounded: the time itself, at most the span from the start

module _ (origin t : ℕ) where
  bounded_ways : ((bounded origin t ≡ Ok t) × (t ≤ origin + 288000000) × (origin ≤ t + 288000000))
      ⊎ ((bounded origin t ≡ Err TooLong) × ((origin + 288000000 < t) ⊎ (t + 288000000 < origin)))
  bounded_ways =
      ⊎_elim (λ l. inr (bounded_after origin t l, inl l))
      (λ l. ⊎_elim (λ r. inr (bounded_before origin t r, inr r)) (λ r. inl (bounded_in origin t l r, l, r)) (lt_or_le (t + 288000000) origin))
      (lt_or_le (origin + 288000000) t)

  pub bounded_sound : (u : ℕ) → bounded origin t ≡ Ok u → (u ≡ t) × (t ≤ origin + 288000000) × (origin ≤ t + 288000000)
  bounded_sound u e = ⊎_elim (λ p. (same_time e p.0, p.1, p.2)) (λ p. absurd (at_or_refused e p.0)) bounded_ways

  pub bounded_why : (k : ClockError) → bounded origin t ≡ Err k → (k ≡ TooLong) × ((origin + 288000000 < t) ⊎ (t + 288000000 < origin))
  bounded_why k e = ⊎_elim (λ p. absurd (at_or_refused p.0 e)) (λ p. (same_refusal p.0 e, p.1)) bounded_ways

  pub bounded_refused : (k : ClockError) → bounded origin t ≡ Err k → k ≡ TooLong
  bounded_refused k e = (bounded_why k e).0

-- ---- place start: "start is worked (finish milestone: worked or closing)", the least such at or after t

abbrev pub MayStart : (ℕ → Bool) → ActivityKind → ℕ → Type 0
MayStart w kind u = (w u ≡ true) ⊎ ((kind ≡ FinishMilestone) × (closing w u ≡ true))

pub record PlacedStart (w : ℕ → Bool) (kind : ActivityKind) (t u : ℕ) : Type 0 where
  pub after : t ≤ u
  pub may : MayStart w kind u
  pub least : (v : ℕ) → t ≤ v → MayStart w kind v → u ≤ v
  pub same : count w u ≡ count w t
  pub from : first_minute ≤ t
  pub within : u < end_minute

module _ (w : ℕ → Bool) where
  other_kind : {kind : ActivityKind} {v : ℕ} → (kind ≡ FinishMilestone → ⊥) → MayStart w kind v → w v ≡ true
  other_kind n (inl h) = h
  other_kind n (inr p) = absurd (n p.0)

  at_start : (kind : ActivityKind) (t u : ℕ) → (kind ≡ FinishMilestone → ⊥) → next_start w t ≡ Ok u → PlacedStart w kind t u
  at_start kind t u n e =
      let s = next_start_sound w e in record {
        after = s.0.after;
        may = inl s.0.worked;
        least = λ v a m. s.0.least v a (other_kind n m);
        same = next_start_count w s.0;
        from = s.1;
        within = s.2;
      }

  -- a finish milestone may start at a closing minute too
  finish_may : {t u : ℕ} → IsNextFinish w t u → (w u ≡ true) ⊎ (closing w u ≡ true)
  finish_may {t} f = ⊎_elim (λ h. inr (ap (closing w) (f.here h) ∙ h)) (λ h. inl (f.later h).worked) (cases (closing w t))

  finish_least : {t u : ℕ} → IsNextFinish w t u → (v : ℕ) → t ≤ v → (w v ≡ true) ⊎ (closing w v ≡ true) → u ≤ v
  finish_least {t} {u} f v a m = ⊎_elim (λ h. omega (arith, f.here h)) (λ h. later h m) (cases (closing w t))
    where
      later : closing w t ≡ false → (w v ≡ true) ⊎ (closing w v ≡ true) → u ≤ v
      later h (inl k) = (f.later h).least v a k
      later h (inr k) =
          ⊎_elim (λ l. let p = closing_pred w v k in omega (arith, (f.later h).least p.0 (omega (arith, p.1)) p.2, p.1))
          (λ l. let e : t ≡ v = omega arith in absurd (true≢false (sym k ∙ sym (ap (closing w) e) ∙ h)))
          (lt_or_le t v)

  at_finish : (t u : ℕ) → next_finish w t ≡ Ok u → PlacedStart w FinishMilestone t u
  at_finish t u e =
      let s = next_finish_sound w e in record {
        after = next_finish_after w s.0;
        may = ⊎_elim inl (λ h. inr (refl, h)) (finish_may s.0);
        least = λ v a m. finish_least s.0 v a (⊎_elim inl (λ p. inr p.1) m);
        same = next_finish_count w s.0;
        from = omega (arith, s.1);
        within = s.2;
      }

  pub place_start_sound : (kind : ActivityKind) (t u : ℕ) → place_start w kind t ≡ Ok u → PlacedStart w kind t u
  place_start_sound Task t u e =
      at_start Task t u (λ p. clash (cc)) (sym (place_start_at_start w Task t (inl refl)) ∙ e)
  place_start_sound StartMilestone t u e =
      at_start StartMilestone t u (λ p. clash (cc)) (sym (place_start_at_start w StartMilestone t (inr refl)) ∙ e)
  place_start_sound FinishMilestone t u e = at_finish t u (sym (place_start_finish w FinishMilestone t refl) ∙ e)

  pub place_start_refused : (kind : ActivityKind) (t : ℕ) (k : ClockError) → place_start w kind t ≡ Err k → k ≡ TooLong
  place_start_refused Task t k e = next_start_refused w t k (sym (place_start_at_start w Task t (inl refl)) ∙ e)
  place_start_refused StartMilestone t k e = next_start_refused w t k (sym (place_start_at_start w StartMilestone t (inr refl)) ∙ e)
  place_start_refused FinishMilestone t k e = next_finish_refused w t k (sym (place_start_finish w FinishMilestone t refl) ∙ e)

  -- ---- finish of, and start of: advance and retreat, which stay within the end of years where they begin within it

  pub finish_of_sound : (left start u : ℕ) → finish_of w left start ≡ Ok u → IsAdvance w start left u
  finish_of_sound left start u e = (advance_sound w e).0

  pub finish_of_refused : (left start : ℕ) (k : ClockError) → finish_of w left start ≡ Err k → k ≡ TooLong
  finish_of_refused left start k e = advance_refused w start left k e

  pub finish_of_bound : (left start u : ℕ) → start ≤ end_minute → finish_of w left start ≡ Ok u → u ≤ end_minute
  finish_of_bound left start u l e =
      let a = advance_sound w e in ⊎_elim (λ z. omega (arith, a.0.still z)) (λ p. (a.1 p).1) (zero_or_pos left)

  pub start_of_sound : (left finish u : ℕ) → start_of w left finish ≡ Ok u → IsRetreat w finish left u
  start_of_sound left finish u e = (retreat_sound w e).0

  pub start_of_refused : (left finish : ℕ) (k : ClockError) → start_of w left finish ≡ Err k → k ≡ TooLong
  start_of_refused left finish k e = retreat_refused w finish left k e

  pub start_of_bound : (left finish u : ℕ) → start_of w left finish ≡ Ok u → u ≤ finish
  start_of_bound left finish u e = retreat_before w (retreat_sound w e).0

  -- ---- latest same: the last moment with as much worked before

  pub latest_same_sound : (t u : ℕ) → latest_same w t ≡ Ok u → IsNextStart w t u × (first_minute ≤ t) × (u < end_minute)
  latest_same_sound t u e = next_start_sound w e

  pub latest_same_last : (t u v : ℕ) → latest_same w t ≡ Ok u → count w v ≡ count w t → v ≤ u
  latest_same_last t u v e c = let s = (next_start_sound w e).0 in (start_le w s.worked).1 (omega (arith, next_start_count w s))

  pub latest_same_refused : (t : ℕ) (k : ClockError) → latest_same w t ≡ Err k → k ≡ TooLong
  latest_same_refused t k e = next_start_refused w t k e

-- ---- start for finish: the work left ends at t's next finish

pub record StartForFinish (w : ℕ → Bool) (left t u : ℕ) : Type 0 where
  pub still : left ≡ 0 → u ≡ t
  pub worked : 0 < left → w u ≡ true
  pub finish : ℕ
  pub next : 0 < left → IsNextFinish w t finish
  pub back : 0 < left → IsRetreat w finish left u
  pub within : 0 < left → (first_minute ≤ u) × (first_minute < t) × (finish < end_minute)
  pub total : count w u + left ≡ count w t

module _ (w : ℕ → Bool) (left t : ℕ) where
  pub start_for_finish_sound : (u : ℕ) → start_for_finish w left t ≡ Ok u → StartForFinish w left t u
  start_for_finish_sound u e = ⊎_elim here away (zero_or_pos left)
    where
      here : left ≡ 0 → StartForFinish w left t u
      here z =
          let s : u ≡ t = same_time e (start_for_finish_none w left t z) in record {
            still = λ y. s;
            worked = λ p. absurd (some p z);
            finish = t;
            next = λ p. absurd (some p z);
            back = λ p. absurd (some p z);
            within = λ p. absurd (some p z);
            total = omega (arith, ap (count w) s);
          }

      away : 0 < left → StartForFinish w left t u
      away p =
          ⊎_elim
          (λ a.
          let n = next_finish_sound w a.1 in
          let b = retreat_sound w (sym (start_for_finish_at w left t (some p) a.0 a.1) ∙ e) in
          let q = b.1 p in record {
            still = λ z. absurd (some p z);
            worked = b.0.worked;
            finish = a.0;
            next = λ _. n.0;
            back = λ _. b.0;
            within = λ _. (q.0, n.1, n.2);
            total = omega (arith, b.0.total, next_finish_count w n.0);
          }) (λ r. absurd (at_or_refused e (start_for_finish_refuses w left t (some p) r.0 r.1))) (walk_ways (next_finish w t))

  -- it is at or before just those starts whose work left reaches as far as t
  pub start_for_finish_least : (u s f : ℕ) → start_for_finish w left t ≡ Ok u → 0 < left → w s ≡ true → IsAdvance w s left f → count w t ≤ count w f → u ≤ s
  start_for_finish_least u s f e p h a c =
      let r = start_for_finish_sound u e in (finish_galois w h p a (r.next p) (r.back p)).0 c

  pub start_for_finish_reaches : (u s f : ℕ) → start_for_finish w left t ≡ Ok u → 0 < left → w s ≡ true → IsAdvance w s left f → u ≤ s → count w t ≤ count w f
  start_for_finish_reaches u s f e p h a c =
      let r = start_for_finish_sound u e in (finish_galois w h p a (r.next p) (r.back p)).1 c

  pub start_for_finish_bound : (u : ℕ) → t ≤ end_minute → start_for_finish w left t ≡ Ok u → u ≤ end_minute
  start_for_finish_bound u l e =
      let r = start_for_finish_sound u e in
      ⊎_elim (λ z. omega (arith, r.still z)) (λ p. omega (arith, retreat_before w (r.back p), (r.within p).2)) (zero_or_pos left)

  pub start_for_finish_refused : (k : ClockError) → start_for_finish w left t ≡ Err k → k ≡ TooLong
  start_for_finish_refused k e =
      ⊎_elim (λ z. absurd (at_or_refused (start_for_finish_none w left t z) e))
      (λ p.
      ⊎_elim (λ a. retreat_refused w a.0 left k (sym (start_for_finish_at w left t (some p) a.0 a.1) ∙ e))
      (λ r. next_finish_refused w t k (r.1 ∙ ap Err (sym (same_refusal (start_for_finish_refuses w left t (some p) r.0 r.1) e))))
      (walk_ways (next_finish w t))) (zero_or_pos left)

  -- ---- finish for start: t advanced by the work left

  finish_for_start_from : (s : ℕ) → previous_start w t ≡ Ok s → IsNextStart w t s × (first_minute ≤ t) × (s < end_minute)
  finish_for_start_from s e = next_start_sound w (sym (previous_start_next w t) ∙ e)

  pub finish_for_start_sound : (u : ℕ) → finish_for_start w left t ≡ Ok u → IsAdvance w t left u × (0 < left → (first_minute ≤ t) × (u ≤ end_minute))
  finish_for_start_sound u e =
      ⊎_elim
      (λ z. (
        let s : u ≡ t = same_time e (finish_for_start_none w left t z) in record {
          still = λ y. s;
          closes = λ p. absurd (some p z);
          total = omega (arith, ap (count w) s);
        },
        λ p. absurd (some p z),
      ))
      (λ p.
      ⊎_elim
      (λ a.
      let n = finish_for_start_from a.0 a.1 in
      let b = advance_sound w (sym (finish_for_start_at w left t (some p) a.0 a.1) ∙ e) in
      (advance_from w p (sym (next_start_count w n.0)) b.0, λ _. (n.1, (b.1 p).1)))
      (λ r. absurd (at_or_refused e (finish_for_start_refuses w left t (some p) r.0 r.1))) (walk_ways (previous_start w t)))
      (zero_or_pos left)

  pub finish_for_start_bound : (u : ℕ) → t ≤ end_minute → finish_for_start w left t ≡ Ok u → u ≤ end_minute
  finish_for_start_bound u l e =
      let a = finish_for_start_sound u e in ⊎_elim (λ z. omega (arith, a.0.still z)) (λ p. (a.1 p).1) (zero_or_pos left)

  pub finish_for_start_refused : (k : ClockError) → finish_for_start w left t ≡ Err k → k ≡ TooLong
  finish_for_start_refused k e =
      ⊎_elim (λ z. absurd (at_or_refused (finish_for_start_none w left t z) e))
      (λ p.
      ⊎_elim (λ a. advance_refused w a.0 left k (sym (finish_for_start_at w left t (some p) a.0 a.1) ∙ e))
      (λ r.
      next_start_refused w t k
      (sym (previous_start_next w t) ∙ r.1 ∙ ap Err (sym (same_refusal (finish_for_start_refuses w left t (some p) r.0 r.1) e))))
      (walk_ways (previous_start w t))) (zero_or_pos left)

-- ---- finish for start, by a date: from the last worked minute at or before t

pub record FinishForStartBy (w : ℕ → Bool) (left t u : ℕ) : Type 0 where
  pub still : left ≡ 0 → u ≡ t
  pub start : ℕ
  pub worked : 0 < left → w start ≡ true
  pub by : start ≤ t
  pub greatest : 0 < left → (v : ℕ) → v ≤ t → w v ≡ true → v ≤ start
  pub ends : IsAdvance w start left u
  pub within : 0 < left → (first_minute ≤ start) × (t < end_minute) × (u ≤ end_minute)

module _ (w : ℕ → Bool) (left t : ℕ) where
  pub finish_for_start_by_sound : (u : ℕ) → finish_for_start_by w left t ≡ Ok u → FinishForStartBy w left t u
  finish_for_start_by_sound u e =
      ⊎_elim
      (λ z. let s : u ≡ t = same_time e (finish_for_start_by_none w left t z) in record {
        still = λ y. s;
        start = t;
        worked = λ p. absurd (some p z);
        by = omega arith;
        greatest = λ p. absurd (some p z);
        ends = record { still = λ y. s; closes = λ p. absurd (some p z); total = omega (arith, ap (count w) s) };
        within = λ p. absurd (some p z);
      })
      (λ p.
      ⊎_elim
      (λ a.
      let n = start_by_sound w t a.0 a.1 in
      let b = advance_sound w (sym (finish_for_start_by_at w left t (some p) a.0 a.1) ∙ e) in record {
        still = λ z. absurd (some p z);
        start = a.0;
        worked = λ _. n.0;
        by = n.1;
        greatest = λ _. n.2;
        ends = b.0;
        within = λ _. (n.3, n.4, (b.1 p).1);
      })
      (λ r. absurd (at_or_refused e (finish_for_start_by_refuses w left t (some p) r.0 r.1))) (walk_ways (start_by w t)))
      (zero_or_pos left)

  pub finish_for_start_by_bound : (u : ℕ) → t ≤ end_minute → finish_for_start_by w left t ≡ Ok u → u ≤ end_minute
  finish_for_start_by_bound u l e =
      let a = finish_for_start_by_sound u e in ⊎_elim (λ z. omega (arith, a.still z)) (λ p. (a.within p).2) (zero_or_pos left)

  pub finish_for_start_by_refused : (k : ClockError) → finish_for_start_by w left t ≡ Err k → k ≡ TooLong
  finish_for_start_by_refused k e =
      ⊎_elim (λ z. absurd (at_or_refused (finish_for_start_by_none w left t z) e))
      (λ p.
      ⊎_elim (λ a. advance_refused w a.0 left k (sym (finish_for_start_by_at w left t (some p) a.0 a.1) ∙ e))
      (λ r.
      start_by_refused w t k (r.1 ∙ ap Err (sym (same_refusal (finish_for_start_by_refuses w left t (some p) r.0 r.1) e))))
      (walk_ways (start_by w t))) (zero_or_pos left)

-- ---- place finish: the greatest finish at or before t; of a moment, the greatest start or finish

abbrev pub MayFinish : (ℕ → Bool) → ActivityKind → ℕ → ℕ → Type 0
MayFinish w kind left u = (closing w u ≡ true) ⊎ ((is_moment kind left ≡ true) × (w u ≡ true))

pub record PlacedFinish (w : ℕ → Bool) (kind : ActivityKind) (left t u : ℕ) : Type 0 where
  pub before : u ≤ t
  pub may : MayFinish w kind left u
  pub greatest : (v : ℕ) → v ≤ t → MayFinish w kind left v → v ≤ u
  pub same : count w u ≡ count w t
  pub from : first_minute < u
  pub within : t < end_minute

module _ (w : ℕ → Bool) (kind : ActivityKind) (left t : ℕ) where
  at_previous : (f : ℕ) → previous_finish w t ≡ Ok f → is_moment kind left ≡ false → PlacedFinish w kind left t f
  at_previous f e m =
      let s = previous_finish_sound w e in record {
        before = s.0.before;
        may = inl s.0.closes;
        greatest = λ v a k. s.0.greatest v a (⊎_elim (λ h. h) (λ h. absurd (true≢false (sym h.0 ∙ m))) k);
        same = previous_finish_count w s.0;
        from = s.1;
        within = s.2;
      }

  at_moment : (f s : ℕ) → previous_finish w t ≡ Ok f → is_moment kind left ≡ true → next_start w f ≡ Ok s → s ≤ t → PlacedFinish w kind left t s
  at_moment f s e m n l =
      let p = previous_finish_sound w e in
      let q = next_start_sound w n in
      let c : count w s ≡ count w t = next_start_count w q.0 ∙ previous_finish_count w p.0 in record {
        before = l;
        may = inr (m, q.0.worked);
        greatest = λ v a k. (start_le w q.0.worked).1 (omega (arith, count_mono w a));
        same = c;
        from = omega (arith, p.1, q.0.after);
        within = p.2;
      }

  before_moment : (f s : ℕ) → previous_finish w t ≡ Ok f → is_moment kind left ≡ true → next_start w f ≡ Ok s → t < s → PlacedFinish w kind left t f
  before_moment f s e m n l =
      let p = previous_finish_sound w e in
      let q = next_start_sound w n in record {
        before = p.0.before;
        may = inl p.0.closes;
        greatest = λ v a k.
            ⊎_elim (λ h. p.0.greatest v a h)
            (λ h. ⊎_elim (λ g. absurd (omega (arith, q.0.least v (omega arith) h.1))) (λ g. g) (lt_or_le f v)) k;
        same = previous_finish_count w p.0;
        from = p.1;
        within = p.2;
      }

  -- each way out: an answer of which all that holds, or row 8
  data PlaceFinishWay : Type 0 where
    placed : (u : ℕ) → place_finish w kind left t ≡ Ok u → PlacedFinish w kind left t u → PlaceFinishWay
    refused : place_finish w kind left t ≡ Err TooLong → PlaceFinishWay

  of_moment : (f : ℕ) → previous_finish w t ≡ Ok f → is_moment kind left ≡ true → PlaceFinishWay
  of_moment f e m =
      ⊎_elim
      (λ a.
      ⊎_elim (λ l. placed f (place_finish_before w kind left t f a.0 e m a.1 l) (before_moment f a.0 e m a.1 l))
      (λ l. placed a.0 (place_finish_start w kind left t f a.0 e m a.1 l) (at_moment f a.0 e m a.1 l)) (lt_or_le t a.0))
      (λ r. refused (place_finish_start_refuses w kind left t f r.0 e m r.1 ∙ ap Err (next_start_refused w f r.0 r.1)))
      (walk_ways (next_start w f))

  place_finish_way : PlaceFinishWay
  place_finish_way =
      ⊎_elim
      (λ a.
      ⊎_elim (λ m. of_moment a.0 a.1 m) (λ m. placed a.0 (place_finish_here w kind left t a.0 a.1 m) (at_previous a.0 a.1 m))
      (cases (is_moment kind left)))
      (λ r. refused (place_finish_refuses w kind left t r.0 r.1 ∙ ap Err (previous_finish_refused w t r.0 r.1)))
      (walk_ways (previous_finish w t))

  pub place_finish_sound : (u : ℕ) → place_finish w kind left t ≡ Ok u → PlacedFinish w kind left t u
  place_finish_sound u e = sound place_finish_way
    where
      sound : PlaceFinishWay → PlacedFinish w kind left t u
      sound (placed v f p) = let s : v ≡ u = same_time f e in rw s at p
      sound (refused f) = absurd (at_or_refused e f)

  pub place_finish_refused : (k : ClockError) → place_finish w kind left t ≡ Err k → k ≡ TooLong
  place_finish_refused k e = number place_finish_way
    where
      number : PlaceFinishWay → k ≡ TooLong
      number (placed v f p) = absurd (at_or_refused f e)
      number (refused f) = same_refusal f e
