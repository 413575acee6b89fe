-- What the answer of several walks says of each of them, and where an activity's start is placed.
use Rattle.std.specs.Prelude.{◌≡◌, refl, Bool, ℕ, ◌+◌, ◌/◌, ◌≤◌, ◌<◌, ℤ, pos, negsuc, Result, Ok, Err, Some, None}
use Rattle.worktime.specs.declared.ClockError.{ClockError}
use Rattle.std.proofs.Common.{sym, ◌∙◌, inl, inr, ⊎_elim, arith}
use Rattle.number.specs.Order.{cases}
use Rattle.date.specs.declared.Date.{Date}
use Rattle.date.specs.Years.{in_years}
use Rattle.worktime.specs.Walks.{reads, previous_finish, shift}
use Rattle.worktime.specs.Worked.{IsNextFinish, IsPreviousFinish, IsRetreat}
use Rattle.worktime.specs.Relations.{advance_unique, advance_mono, retreat_unique, retreat_mono}
use Rattle.worktime.specs.Reads.{at_or_refused, reads_in, reads_out}
use Rattle.worktime.proofs.Answers.{previous_finish_sound}
use Rattle.worktime.proofs.Shift.{advance_sound, retreat_sound, shift_forward, shift_back}
use Rattle.project.specs.declared.ActivityKind.{ActivityKind}
use Rattle.project.specs.declared.ActivityKind.TheVariants.{Task, StartMilestone, FinishMilestone}
use Rattle.project.specs.declared.End.TheVariants.{Start, Finish}
use Rattle.placing.specs.Placing.{via, bounded, midnight_of, place_start, start_for_finish, day_start, moment_of, constraint_time}
use Rattle.placing.proofs.PlacingSound as sound
use Rattle.passes.specs.Plan.{evening}
use Rattle.passes.specs.Dates.{Pass, leaves, refused}
use Rattle.timetable.specs.Rules.{IsShift, MayStart}

-- ---- one after the other
pub via_answers : (x : Result ℕ ClockError) (go : ℕ → Result ℕ ClockError) (v : ℕ) → via Err x go ≡ Ok v → (u : ℕ) × (x ≡ Ok u) × (go u ≡ Ok v)
via_answers (Ok u) go v e = (u, refl, e)
via_answers (Err k) go v e = absurd (at_or_refused e refl)

pub via_leaves : {A : Type 0} (x : Result ℕ ClockError) (go : ℕ → Pass A) (d : A) → via refused x go ≡ leaves d → (u : ℕ) × (x ≡ Ok u) × (go u ≡ leaves d)
via_leaves (Ok u) go d e = (u, refl, e)
via_leaves (Err k) go d e = let z : ◌≡◌ {A = ℕ} 0 1 = cc in absurd (omega arith)

pub bounded_at : (o t : ℕ) {u : ℕ} → bounded o t ≡ Ok u → u ≡ t
bounded_at o t {u} e = (sound.bounded_sound o t u e).0

pub reads_at : (d t : ℕ) {u : ℕ} → reads Err d (Ok t) ≡ Ok u → u ≡ t
reads_at d t {u} e =
    ⊎_elim (λ h. let f = reads_in Err d (Ok t) h in cc) (λ h. absurd (at_or_refused e (reads_out Err d (Ok t) h))) (cases (in_years d))

-- ---- a lag
module _ (w : ℕ → Bool) where
  pub shift_sound : (t u : ℕ) (z : ℤ) → shift w t z ≡ Ok u → IsShift w t z u
  shift_sound t u (pos n) e = (advance_sound w (sym (shift_forward w t n) ∙ e)).0
  shift_sound t u (negsuc n) e = (retreat_sound w (sym (shift_back w t n) ∙ e)).0

  pub shift_unique : (t u v : ℕ) (z : ℤ) → IsShift w t z u → IsShift w t z v → u ≡ v
  shift_unique t u v (pos n) a b = advance_unique w a b
  shift_unique t u v (negsuc n) a b = retreat_unique w a b

  pub shift_mono : (t t' u u' : ℕ) (z : ℤ) → t ≤ t' → IsShift w t z u → IsShift w t' z u' → u ≤ u'
  shift_mono t t' u u' (pos n) l a b = advance_mono w l a b
  shift_mono t t' u u' (negsuc n) l a b = retreat_mono w l a b

  -- ---- a start is placed at the least minute at or after t at which work of its kind may start
  pub record IsPlace (kind : ActivityKind) (t s : ℕ) : Type 0 where
    pub may : MayStart w kind s
    pub after : t ≤ s
    pub least : (v : ℕ) → MayStart w kind v → t ≤ v → s ≤ v

  may_of : (kind : ActivityKind) (v : ℕ) → sound.MayStart w kind v → MayStart w kind v
  may_of Task v m = ⊎_elim (λ h. h) (λ q. sound.clash (let e = q.0 in cc)) m
  may_of StartMilestone v m = ⊎_elim (λ h. h) (λ q. sound.clash (let e = q.0 in cc)) m
  may_of FinishMilestone v m = ⊎_elim inl (λ q. inr q.1) m

  of_may : (kind : ActivityKind) (v : ℕ) → MayStart w kind v → sound.MayStart w kind v
  of_may Task v h = inl h
  of_may StartMilestone v h = inl h
  of_may FinishMilestone v m = ⊎_elim inl (λ h. inr (refl, h)) m

  pub place_sound : (t : ℕ) {s : ℕ} (kind : ActivityKind) → place_start w kind t ≡ Ok s → IsPlace kind t s
  place_sound t {s} kind e =
      let r = sound.place_start_sound w kind t s e in
      record { may = may_of kind s r.may; after = r.after; least = λ v m l. r.least v l (of_may kind v m) }

  -- ---- the time of a constraint
  moment_at : (x : Result ℕ ClockError) {t : ℕ} → moment_of x ≡ (Ok (Some t)) → x ≡ Ok t
  moment_at (Ok u) e = cc
  moment_at (Err k) e = let z : ◌≡◌ {A = ℕ} 0 1 = cc in absurd (omega arith)

  some_time : (x : Result ℕ ClockError) → moment_of x ≡ (Ok None) → ⊥
  some_time (Ok u) e = let z : ◌≡◌ {A = ℕ} 0 1 = cc in omega arith
  some_time (Err k) e = let z : ◌≡◌ {A = ℕ} 0 1 = cc in omega arith

  pub start_time : (x : Date) {t : ℕ} → constraint_time w (Some (Start x)) ≡ (Ok (Some t)) → t ≡ day_start w (midnight_of x)
  unfolding constraint_time
  start_time x e = reads_at (midnight_of x / 1440) (day_start w (midnight_of x)) (moment_at (reads Err (midnight_of x / 1440) (Ok (day_start w (midnight_of x)))) e)

  pub finish_time : (x : Date) {t : ℕ} → constraint_time w (Some (Finish x)) ≡ (Ok (Some t)) → IsPreviousFinish w (evening (midnight_of x)) t
  unfolding constraint_time
  finish_time x e = (previous_finish_sound w (moment_at (previous_finish w (midnight_of x + 1440)) e)).0

  pub start_somewhere : (x : Date) → constraint_time w (Some (Start x)) ≡ (Ok None) → ⊥
  unfolding constraint_time
  start_somewhere x e = some_time (reads Err (midnight_of x / 1440) (Ok (day_start w (midnight_of x)))) e

  pub finish_somewhere : (x : Date) → constraint_time w (Some (Finish x)) ≡ (Ok None) → ⊥
  unfolding constraint_time
  finish_somewhere x e = some_time (previous_finish w (midnight_of x + 1440)) e

  -- ---- the start for a finish
  pub start_for_moment : (t : ℕ) {u : ℕ} → start_for_finish w 0 t ≡ Ok u → u ≡ t
  start_for_moment t {u} e = (sound.start_for_finish_sound w 0 t u e).still refl

  pub start_for_work : (n t : ℕ) {u : ℕ} → 0 < n → start_for_finish w n t ≡ Ok u → (f : ℕ) × IsNextFinish w t f × IsRetreat w f n u
  start_for_work n t {u} l e = let r = sound.start_for_finish_sound w n t u e in (r.finish, r.next l, r.back l)
