-- What one step of the forward pass gives: a completed activity's recorded times, and the least start that meets every bound of another.
use Rattle.std.specs.Prelude.{◌≡◌, Bool, false, ◌⊎◌, ◌≢◌, ℕ, ◌≤◌, ◌<◌, max, eqb, Result, Ok, Err, Option, Some, None}
use Rattle.worktime.specs.declared.ClockError.{ClockError}
use Rattle.std.proofs.Math.Path.{refl, ap}
use Rattle.std.proofs.Common.{sym, ◌∙◌, inl, inr, ⊎_elim, arith, eq-eqb, ne_eqb}
use Rattle.number.specs.Order.{lt_or_le}
use Rattle.date.specs.declared.Date.{Date}
use Rattle.worktime.specs.Walks.{next_start, previous_finish, advance}
use Rattle.worktime.specs.Worked.{IsAdvance}
use Rattle.worktime.specs.Relations.{next_start_unique, previous_finish_unique}
use Rattle.worktime.specs.Reads.{on_true, on_false}
use Rattle.worktime.proofs.Answers.{next_start_sound, previous_finish_sound}
use Rattle.worktime.proofs.Shift.{advance_sound}
use Rattle.project.specs.declared.ActivityKind.{ActivityKind}
use Rattle.project.specs.declared.ActivityKind.TheVariants.{Task, StartMilestone, FinishMilestone}
use Rattle.placing.specs.declared.Actual.{Actual}
use Rattle.placing.specs.declared.Actual.TheVariants.{Unstarted, Begun, Completed}
use Rattle.placing.specs.Placing.{via, bounded, midnight_of, place_start, finish_of, completed, actual}
use Rattle.order.specs.Plan.{Plan}
use Rattle.order.specs.Ids.{summary}
use Rattle.passes.specs.Plan.{evening, own, ties_into, kind_of, origin, floor, recorded}
use Rattle.passes.specs.Dates.{Early, Pass, leaves, refused, put}
use Rattle.passes.specs.Forward.{raised, held, expected_on, work_to, minutes_from, start_by, early, placed, forward_by, forward}
use Rattle.timetable.specs.Rules.{Recorded, CompletedAt, UnlessCompleted}
use Rattle.timetable.specs.Fit.{Unexpected, FitBy, Marks, Fit}
use Rattle.timetable.specs.WalkLaws.{via_leaves, bounded_at, place_sound, IsPlace}

-- ---- a function changed at one place
module _ {A : Type 0} (f : ℕ → A) (i : ℕ) (v : A) where
  pub put_here : put f i v i ≡ v
  put_here = on_true (eqb i i) v (f i) (eq-eqb i i refl)

  pub put_there : (j : ℕ) → j ≢ i → put f i v j ≡ f j
  put_there j n = on_false (eqb j i) v (f j) (ne_eqb j i n)

-- ---- recorded times
-- the later of two times, which is one of them
later_unique : {s e f f' : ℕ} → (s ≤ f) × (e ≤ f) × ((f ≡ s) ⊎ (f ≡ e)) → (s ≤ f') × (e ≤ f') × ((f' ≡ s) ⊎ (f' ≡ e)) → f ≡ f'
later_unique (a, b, x) (c, d, y) =
    ⊎_elim (λ u. ⊎_elim (λ v. omega arith) (λ v. omega arith) y) (λ u. ⊎_elim (λ v. omega arith) (λ v. omega arith) y) x

later_max : (s e : ℕ) → (s ≤ max e s) × (e ≤ max e s) × ((max e s ≡ s) ⊎ (max e s ≡ e))
later_max s e = (omega arith, omega arith, ⊎_elim (λ l. inl (omega arith)) (λ l. inr (omega arith)) (lt_or_le e s))

pub recorded_unique : {w : ℕ → Bool} {a b : Date} {s f s' f' : ℕ} → Recorded w a b s f → Recorded w a b s' f' → (s ≡ s') × (f ≡ f')
recorded_unique {w} x y =
    let e = next_start_unique w x.start y.start in
    let g = previous_finish_unique w x.finish y.finish in
    (e, later_unique x.later (rw (e, g) y.later))

module _ (p : Plan) where
  module _ (i : ℕ) where
    -- what is completed, whatever binds the others
    pub completed_any : (x y : Option Date) (s f : ℕ) (R : Type 0) → CompletedAt p i x y s f ⊥ → CompletedAt p i x y s f R
    completed_any x None s f R c = absurd c
    completed_any None (Some e) s f R c = c
    completed_any (Some d) (Some e) s f R c = c

    pub completed_unique : (x y : Option Date) (s f s' f' : ℕ) (R : Type 0) → CompletedAt p i x y s f ⊥ → CompletedAt p i x y s' f' R → (s ≡ s') × (f ≡ f')
    completed_unique x None s f s' f' R c c' = absurd c
    completed_unique None (Some e) s f s' f' R c c' = recorded_unique c c'
    completed_unique (Some d) (Some e) s f s' f' R c c' = recorded_unique c c'

    pub completed_unless : (x y : Option Date) (s f : ℕ) (R : Type 0) → CompletedAt p i x y s f ⊥ → UnlessCompleted p y R
    completed_unless x None s f R c = absurd c
    completed_unless None (Some e) s f R c = tt
    completed_unless (Some d) (Some e) s f R c = tt

  module _ (d d' : Early) (i : ℕ) where
    -- what a step makes of an activity that fits, by its recorded days
    pub data Sort (x y : Option Date) : Type 0 where
      fresh : actual (own p i) x y ≡ Ok Unstarted → y ≡ None → Marks p i → forward_by p d i (Ok Unstarted) ≡ leaves d' → Sort x y
      done : (s f : ℕ) → actual (own p i) x y ≡ Ok (Completed s f) → CompletedAt p i x y s f ⊥ → d' ≡ early p d i s f (d.left i) → Sort x y

    completed_walks : (a b : Date) (x y : Result ℕ ClockError) → next_start (own p i) (midnight_of a) ≡ x → previous_finish (own p i) (evening (midnight_of b)) ≡ y
        → forward_by p d i (via Err x (λ s. completed s y)) ≡ leaves d'
        → (s : ℕ) × (f : ℕ) × (via Err x (λ s. completed s y) ≡ Ok (Completed s f)) × Recorded (own p i) a b s f
        × (d' ≡ early p d i s f (d.left i))
    completed_walks a b (Ok t) (Ok u) q r e = (
      t,
      max u t,
      refl,
      record {
        start = (next_start_sound (own p i) q).0;
        end = u;
        finish = (previous_finish_sound (own p i) r).0;
        later = later_max t u;
      },
      cc,
    )
    completed_walks a b (Ok t) (Err k) q r e = let z : ◌≡◌ {A = ℕ} 0 1 = cc in absurd (omega arith)
    completed_walks a b (Err k) y q r e = let z : ◌≡◌ {A = ℕ} 0 1 = cc in absurd (omega arith)

    pub sort : (x y : Option Date) → FitBy x y (Marks p i) → forward_by p d i (actual (own p i) x y) ≡ leaves d' → Sort x y
    unfolding actual
    sort None None m e = fresh refl refl m e
    sort (Some a) None m e = absurd m
    sort None (Some b) m e = let r = completed_walks b b (next_start (own p i) (midnight_of b)) (previous_finish (own p i) (evening (midnight_of b))) refl refl e in done r.0 r.1 r.2 r.3 r.4
    sort (Some a) (Some b) m e = let r = completed_walks a b (next_start (own p i) (midnight_of a)) (previous_finish (own p i) (evening (midnight_of b))) refl refl e in done r.0 r.1 r.2 r.3 r.4

    -- ---- an activity placed
    pub record PlacedFrom (r : ℕ) : Type 0 where
      pub s : ℕ
      pub m : ℕ
      pub f : ℕ
      pub place : place_start (own p i) (kind_of p i) r ≡ Ok s
      pub minutes : minutes_from p d i s ≡ Ok m
      pub finish : advance (own p i) s m ≡ Ok f
      pub gives : d' ≡ early p d i s f m

    finished : ℕ → ℕ → ℕ → Pass Early
    finished s m g = via refused (bounded (origin p) g) (λ f. leaves (early p d i s f m))

    worked_off : ℕ → ℕ → Pass Early
    worked_off s m = via refused (finish_of (own p i) m s) (finished s m)

    begun_at : ℕ → Pass Early
    begun_at s = via refused (minutes_from p d i s) (worked_off s)

    finished_parts : (s m g : ℕ) → finished s m g ≡ leaves d' → d' ≡ early p d i s g m
    unfolding finished
    finished_parts s m g e =
        by (via_leaves (bounded (origin p) g) (λ f. leaves (early p d i s f m)) d' e)
      where
        by : (f : ℕ) × (bounded (origin p) g ≡ Ok f) × (leaves (early p d i s f m) ≡ leaves d') → d' ≡ early p d i s g m
        by (f, h, k) = let z = bounded_at (origin p) g h in rw z at (let q : d' ≡ early p d i s f m = cc in q)

    pub placed_from : (r : ℕ) → placed p d i r ≡ leaves d' → PlacedFrom r
    unfolding placed finished worked_off begun_at
    placed_from r e = first (via_leaves (place_start (own p i) (kind_of p i) r) (λ t. via refused (bounded (origin p) t) begun_at) d' e)
      where
        third : (s m : ℕ) → place_start (own p i) (kind_of p i) r ≡ Ok s → minutes_from p d i s ≡ Ok m
            → (g : ℕ) × (finish_of (own p i) m s ≡ Ok g) × (finished s m g ≡ leaves d') → PlacedFrom r
        third s m a b (g, h, k) = record { s = s; m = m; f = g; place = a; minutes = b; finish = h; gives = finished_parts s m g k }

        second : (s : ℕ) → place_start (own p i) (kind_of p i) r ≡ Ok s → (m : ℕ) × (minutes_from p d i s ≡ Ok m) × (worked_off s m ≡ leaves d') → PlacedFrom r
        second s a (m, h, k) = third s m a h (via_leaves (finish_of (own p i) m s) (finished s m) d' k)

        turn : (t : ℕ) → place_start (own p i) (kind_of p i) r ≡ Ok t → (s : ℕ) × (bounded (origin p) t ≡ Ok s) × (begun_at s ≡ leaves d') → PlacedFrom r
        turn t a (s, h, k) =
            second s (a ∙ ap Ok (sym (bounded_at (origin p) t h))) (via_leaves (minutes_from p d i s) (worked_off s) d' k)

        first : (t : ℕ) × (place_start (own p i) (kind_of p i) r ≡ Ok t) × (via refused (bounded (origin p) t) begun_at ≡ leaves d') → PlacedFrom r
        first (t, h, k) = turn t h (via_leaves (bounded (origin p) t) begun_at d' k)

    -- every step changes one activity's dates
    pub record Changes : Type 0 where
      pub s : ℕ
      pub f : ℕ
      pub m : ℕ
      pub gives : d' ≡ early p d i s f m

    from_placed : (r : ℕ) → placed p d i r ≡ leaves d' → Changes
    from_placed r e = let q = placed_from r e in record { s = q.s; f = q.f; m = q.m; gives = q.gives }

    step_by : (a : Result Actual ClockError) → forward_by p d i a ≡ leaves d' → Changes
    step_by (Ok (Completed s f)) e = record { s = s; f = f; m = d.left i; gives = cc }
    step_by (Err k) e = let z : ◌≡◌ {A = ℕ} 0 1 = cc in absurd (omega arith)
    step_by (Ok Unstarted) e =
        let a = via_leaves (raised p d i (ties_into p i) (floor p)) (λ r. via refused (start_by p d i (Ok Unstarted) r) (placed p d i)) d' e in
        let b = via_leaves (start_by p d i (Ok Unstarted) a.0) (placed p d i) d' a.2 in
        from_placed b.0 b.2
    step_by (Ok (Begun s)) e =
        let a = via_leaves (raised p d i (ties_into p i) (floor p)) (λ r. via refused (start_by p d i (Ok (Begun s)) r) (placed p d i)) d' e in
        let b = via_leaves (start_by p d i (Ok (Begun s)) a.0) (placed p d i) d' a.2 in
        from_placed b.0 b.2

    pub step_changes : forward p d i ≡ leaves d' → Changes
    unfolding forward
    step_changes e = step_by (recorded p i) e

    -- ---- one that is not begun
    unexpected : (x : Option Date) → Unexpected Task x → x ≡ None
    unexpected None u = refl
    unexpected (Some a) u = absurd u

    none_expected : (k : ActivityKind) → Unexpected k (p.activity i).expected_finish → expected_on p d i k ≡ None
    none_expected Task u = unexpected (p.activity i).expected_finish u
    none_expected StartMilestone u = refl
    none_expected FinishMilestone u = refl

    minutes_left : summary p i ≡ false → Unexpected (kind_of p i) (p.activity i).expected_finish → (s : ℕ) {m : ℕ} → minutes_from p d i s ≡ Ok m → m ≡ d.left i
    unfolding minutes_from
    minutes_left z u s {m} e =
        let a = on_false (summary p i) (Ok (d.left i)) (work_to p d i s (expected_on p d i (kind_of p i))) z in
        let b : work_to p d i s (expected_on p d i (kind_of p i)) ≡ Ok (d.left i) = ap (work_to p d i s) (none_expected (kind_of p i) u) in
        cc

    pub record FreshStep : Type 0 where
      pub r₀ : ℕ
      pub r : ℕ
      pub s : ℕ
      pub f : ℕ
      pub raises : raised p d i (ties_into p i) (floor p) ≡ Ok r₀
      pub holds : held p d i r₀ ≡ Ok r
      pub place : IsPlace (own p i) (kind_of p i) r s
      pub finish : IsAdvance (own p i) s (d.left i) f
      pub gives : d' ≡ early p d i s f (d.left i)

    pub fresh_step : summary p i ≡ false → Marks p i → forward_by p d i (Ok Unstarted) ≡ leaves d' → FreshStep
    fresh_step z k e =
        let a = via_leaves (raised p d i (ties_into p i) (floor p)) (λ r. via refused (start_by p d i (Ok Unstarted) r) (placed p d i)) d' e in
        let b = via_leaves (start_by p d i (Ok Unstarted) a.0) (placed p d i) d' a.2 in
        let q = placed_from b.0 b.2 in
        let m = minutes_left z k.expected q.s q.minutes in
        record {
          r₀ = a.0;
          r = b.0;
          s = q.s;
          f = q.f;
          raises = a.1;
          holds = b.1;
          place = place_sound (own p i) b.0 (kind_of p i) q.place;
          finish = rw m at (advance_sound (own p i) q.finish).0;
          gives = rw m at q.gives;
        }

  -- ---- what is recorded of an activity that is no summary
  pub recorded_actual : (i : ℕ) → summary p i ≡ false → recorded p i ≡ actual (own p i) (p.activity i).actual_start (p.activity i).actual_finish
  unfolding recorded
  recorded_actual i z = on_false (summary p i) (Ok Unstarted) (actual (own p i) (p.activity i).actual_start (p.activity i).actual_finish) z

  pub step_sort : (d d' : Early) (i : ℕ) → i < p.activities → summary p i ≡ false → Fit p → forward p d i ≡ leaves d'
      → Sort d d' i (p.activity i).actual_start (p.activity i).actual_finish
  unfolding forward
  step_sort d d' i l z fit e =
      sort d d' i (p.activity i).actual_start (p.activity i).actual_finish (fit i l z) (ap (forward_by p d i) (sym (recorded_actual i z)) ∙ e)
