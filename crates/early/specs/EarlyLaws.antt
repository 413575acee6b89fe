-- One law for each way out of the functions of one activity's early dates.
use Rattle.std.specs.Prelude.{◌≡◌, ◌⊎◌, Bool, true, false, Result, Ok, Err, Option, Some, None}
use Rattle.worktime.specs.declared.ClockError.{ClockError}
use Rattle.std.proofs.Common.{sym, ap₂, ◌∙◌, inl, inr, arith}
use Rattle.std.proofs.Math.Path.{ap}
use Prim.Native.Nat.{ℕ, ◌+◌, ◌^◌, ◌<◌, max}
use Rattle.worktime.specs.Walks.{previous_finish, between}
use Rattle.worktime.specs.Reads.{on_true, on_false}
use Rattle.date.specs.declared.Date.{Date}
use Rattle.project.specs.declared.Activity.{Activity}
use Rattle.project.specs.declared.ActivityKind.{ActivityKind}
use Rattle.project.specs.declared.ActivityKind.TheVariants.{Task, StartMilestone, FinishMilestone}
use Rattle.project.specs.declared.Constraint.{Constraint}
use Rattle.project.specs.declared.Constraint.TheVariants.{StartOnOrAfter, StartOnOrBefore, FinishOnOrAfter, FinishOnOrBefore, StartOn, FinishOn, MandatoryStart, MandatoryFinish, AsLateAsPossible}
use Rattle.project.specs.declared.ProgressMode.{ProgressMode}
use Rattle.project.specs.declared.ProgressMode.TheVariants.{RetainedLogic, ProgressOverride}
use Rattle.project.specs.Status.{on_start}
use Rattle.placing.specs.declared.Actual.{Actual}
use Rattle.placing.specs.declared.Actual.TheVariants.{Unstarted, Begun, Completed}
use Rattle.placing.specs.Placing.{via, bounded, midnight_of, place_start, finish_of, start_for_finish, constraint_time}
use Rattle.order.specs.Plan.{Plan}
use Rattle.order.specs.Ids.{summary}
use Rattle.passes.specs.Plan.{own, origin, floor, kind_of}
use Rattle.passes.specs.Dates.{Early, leaves, refused}
use Rattle.passes.specs.Forward.{counted, at_early, on_time, constrained, levelled, held, resumed, start_by, expected_on, work_to, minutes_from, early, placed}
use Rattle.early.specs.declared.values.Times.{Times}
use Rattle.dates.specs.InHand.{InHand}
use Rattle.clock.specs.On.{worked_by}
use Rattle.placing.specs.declared.work.Work.{Work}
use Rattle.early.specs.InHand.{IsTimes, finished_as, after_start}

-- ---- a walk x, which is the definition's y: it answers, or is refused
module _ {A : Type 0} (f : ClockError → A) (go : ℕ → A) {x y : Result ℕ ClockError} (e : x ≡ y) where
  pub goes_on_lem : {u : ℕ} → x ≡ Ok u → via f y go ≡ go u
  goes_on_lem a = ap (λ (z : Result ℕ ClockError). via f z go) (sym e ∙ a)

  pub stops : {k : ClockError} → x ≡ Err k → via f y go ≡ f k
  stops a = ap (λ (z : Result ℕ ClockError). via f z go) (sym e ∙ a)

max_swap : (a b : ℕ) → max a b ≡ max b a
max_swap a b = omega arith

-- ---- work under way
module _ {p : Plan} {times : Times} (T : IsTimes p times) (d : Early) (s start : ℕ) where
  abbrev goes_on : Option Date → ProgressMode → ℕ
  goes_on day mode = resumed p d s day mode start

  pub resumed_recorded : times.data_date ≡ None → goes_on p.project.data_date p.project.progress_mode ≡ s
  resumed_recorded e = ap (λ (x : Option Date). goes_on x p.project.progress_mode) (sym T.data_is ∙ e)

  pub resumed_retained : (x : _) → times.data_date ≡ Some x → times.progress_mode ≡ RetainedLogic
      → goes_on p.project.data_date p.project.progress_mode ≡ start
  resumed_retained x e f = ap₂ goes_on (sym T.data_is ∙ e) (sym T.mode_is ∙ f)

  pub resumed_override : (x : _) → times.data_date ≡ Some x → times.progress_mode ≡ ProgressOverride
      → goes_on p.project.data_date p.project.progress_mode ≡ times.floor
  resumed_override x e f = ap₂ goes_on (sym T.data_is ∙ e) (sym T.mode_is ∙ f) ∙ sym T.floor_is

module _ {p : Plan} {d : Early} {i : ℕ} {work : Work} (H : InHand p d i work) where
  -- ---- the start by a constraint's time
  pub early_unconstrained : (c : Option Constraint) (t start : ℕ) → c ≡ None → at_early p d i c t start ≡ Ok start
  early_unconstrained c t start e = rw e

  module _ (c : Constraint) (t start : ℕ) where
    pub early_stays : ((x : Date) × (c ≡ StartOnOrBefore x)) ⊎ (((x : Date) × (c ≡ FinishOnOrBefore x)) ⊎ (c ≡ AsLateAsPossible))
        → at_early p d i (Some c) t start ≡ Ok start
    early_stays (inl (x, e)) = rw e
    early_stays (inr (inl (x, e))) = rw e
    early_stays (inr (inr e)) = rw e

    pub early_start : ((x : Date) × (c ≡ StartOnOrAfter x)) ⊎ ((x : Date) × (c ≡ StartOn x)) → at_early p d i (Some c) t start ≡ Ok (max start t)
    early_start (inl (x, e)) = rw e
    early_start (inr (x, e)) = rw e

    pub early_mandatory_start : (x : Date) (f : ℕ) → f ≡ floor p → c ≡ MandatoryStart x → at_early p d i (Some c) t start ≡ Ok (max t f)
    early_mandatory_start x f q e = rw (e, q)

    module _ {walk : Result ℕ ClockError} (a : walk ≡ start_for_finish (worked_by work.calendar) work.left t) where
      start_is : walk ≡ start_for_finish (own p i) (d.left i) t
      start_is = a ∙ ap₂ (λ (v : ℕ → Bool) (m : ℕ). start_for_finish v m t) (sym H.own_is) H.left_is

      raised : via Err (start_for_finish (own p i) (d.left i) t) (λ s. Ok (max start s)) ≡ via Err walk (λ s. Ok (max start s))
      raised = ap (λ (y : Result ℕ ClockError). via Err y (λ s. Ok (max start s))) (sym start_is)

      pub early_finish : ((x : Date) × (c ≡ FinishOnOrAfter x)) ⊎ ((x : Date) × (c ≡ FinishOn x)) → at_early p d i (Some c) t start ≡ via Err walk (λ s. Ok (max start s))
      early_finish (inl (x, e)) = ap (λ (k : Constraint). at_early p d i (Some k) t start) e ∙ raised
      early_finish (inr (x, e)) = ap (λ (k : Constraint). at_early p d i (Some k) t start) e ∙ raised

      pub early_mandatory_finish : (x : Date) (f : ℕ) → f ≡ floor p → c ≡ MandatoryFinish x → at_early p d i (Some c) t start ≡ via Err walk (λ s. Ok (max f s))
      early_mandatory_finish x f q e =
          ap (λ (k : Constraint). at_early p d i (Some k) t start) e ∙ ap (λ (y : Result ℕ ClockError). via Err y (λ s. Ok (max s (floor p)))) (sym start_is)
          ∙ (λ z. via Err walk (λ s. Ok (max_swap s (floor p) z))) ∙ ap (λ (v : ℕ). via Err walk (λ s. Ok (max v s))) (sym q)

  -- ---- the start by a constraint
  pub constrained_free : {c : Option Constraint} (start : ℕ) → c ≡ None → constrained p d i c start ≡ Ok start
  unfolding constrained on_start constraint_time
  constrained_free start e = rw e

  module _ {c k : Option Constraint} (h : c ≡ k) (start : ℕ) {m : Result (Option ℕ) ClockError} (e : m ≡ constraint_time (worked_by work.calendar) (on_start k)) where
    by_time : constrained p d i c start ≡ on_time p d m (Ok start) (λ t. at_early p d i k t start)
    unfolding constrained
    by_time =
        ap (λ (x : Option Constraint). constrained p d i x start) h
        ∙ ap (λ (v : ℕ → Bool). on_time p d (constraint_time v (on_start k)) (Ok start) (λ t. at_early p d i k t start)) H.own_is
        ∙ ap (λ (y : Result (Option ℕ) ClockError). on_time p d y (Ok start) (λ t. at_early p d i k t start)) (sym e)

    pub constrained_nowhere : m ≡ (Ok None) → constrained p d i c start ≡ Ok start
    constrained_nowhere a = by_time ∙ ap (λ (y : Result (Option ℕ) ClockError). on_time p d y (Ok start) (λ t. at_early p d i k t start)) a

    pub constrained_refused : (r : ClockError) → m ≡ Err r → constrained p d i c start ≡ Err r
    constrained_refused r a = by_time ∙ ap (λ (y : Result (Option ℕ) ClockError). on_time p d y (Ok start) (λ t. at_early p d i k t start)) a

    module _ (x o : ℕ) {y : Result ℕ ClockError} (a : m ≡ (Ok (Some x))) (q : o ≡ origin p) (b : y ≡ bounded o x) where
      at_time : constrained p d i c start ≡ via Err (bounded o x) (λ t. at_early p d i k t start)
      at_time =
          by_time ∙ ap (λ (z : Result (Option ℕ) ClockError). on_time p d z (Ok start) (λ t. at_early p d i k t start)) a
          ∙ ap (λ (v : ℕ). via Err (bounded v x) (λ t. at_early p d i k t start)) (sym q)

      pub constrained_at : (t : ℕ) → y ≡ Ok t → constrained p d i c start ≡ at_early p d i k t start
      constrained_at t f = at_time ∙ goes_on_lem Err (λ t. at_early p d i k t start) b f

      pub constrained_far : (r : ClockError) → y ≡ Err r → constrained p d i c start ≡ Err r
      constrained_far r f = at_time ∙ stops Err (λ t. at_early p d i k t start) b f

  -- ---- the levelled start
  pub levelled_on : (start : ℕ) (x : Date) → work.activity.levelled ≡ Some x → levelled p d i work.activity.levelled start ≡ constrained p d i (Some (StartOnOrAfter x)) start
  unfolding constrained on_start
  levelled_on start x e = ap (λ (y : Option Date). levelled p d i y start) e

  pub levelled_absent : (start : ℕ) → work.activity.levelled ≡ None → levelled p d i work.activity.levelled start ≡ Ok start
  levelled_absent start e = ap (λ (y : Option Date). levelled p d i y start) e

  -- ---- both constraints and the levelled start
  module _ (start : ℕ) {b : Bool} (q : b ≡ summary p i) where
    pub held_summary : b ≡ true → held p d i start ≡ Ok start
    unfolding held
    held_summary e = on_true (summary p i) (Ok start) _ (sym q ∙ e)

    module _ (e : b ≡ false) {x : Result ℕ ClockError} (f : x ≡ constrained p d i work.activity.constraint start) where
      in_turn : held p d i start ≡ via Err (constrained p d i work.activity.constraint start)
          (λ s. via Err (constrained p d i work.activity.secondary_constraint s) (levelled p d i work.activity.levelled))
      unfolding held
      in_turn =
          on_false (summary p i) (Ok start) _ (sym q ∙ e) ∙
          ap
          (λ (a : Activity). via Err (constrained p d i a.constraint start)
          (λ s. via Err (constrained p d i a.secondary_constraint s) (levelled p d i a.levelled))) (sym H.activity_is)

      pub held_first_refused : (k : ClockError) → x ≡ Err k → held p d i start ≡ Err k
      held_first_refused k a = in_turn ∙ stops Err _ f a

      module _ (s : ℕ) (a : x ≡ Ok s) {y : Result ℕ ClockError} (g : y ≡ constrained p d i work.activity.secondary_constraint s) where
        pub held_second_refused : (k : ClockError) → y ≡ Err k → held p d i start ≡ Err k
        held_second_refused k c = in_turn ∙ goes_on_lem Err _ f a ∙ stops Err _ g c

        pub held_both : (u : ℕ) → y ≡ Ok u → held p d i start ≡ levelled p d i work.activity.levelled u
        held_both u c = in_turn ∙ goes_on_lem Err _ f a ∙ goes_on_lem Err _ g c

  -- ---- the start by what is recorded
  module _ (a : Result Actual ClockError) (start : ℕ) where
    pub start_unstarted : a ≡ Ok Unstarted → start_by p d i a start ≡ held p d i start
    start_unstarted e = rw e

    pub start_begun : (s : ℕ) → a ≡ Ok (Begun s) → start_by p d i a start ≡ Ok (resumed p d s p.project.data_date p.project.progress_mode start)
    start_begun s e = rw e

    pub start_completed : (s f : ℕ) → a ≡ Ok (Completed s f) → start_by p d i a start ≡ Ok start
    start_completed s f e = rw e

    pub start_refused : (k : ClockError) → a ≡ Err k → start_by p d i a start ≡ Err k
    start_refused k e = rw e

  -- ---- the work to an expected finish
  module _ (s : ℕ) (day : Option Date) where
    pub work_unexpected : day ≡ None → work_to p d i s day ≡ Ok work.left
    work_unexpected e = ap (work_to p d i s) e ∙ ap Ok (sym H.left_is)

    module _ (x : Date) (e : day ≡ Some x) (start : ℕ) (h : start ≡ midnight_of x) {y : Result ℕ ClockError} (f' : y ≡ previous_finish (worked_by work.calendar) (start + 1440)) where
      f : y ≡ previous_finish (worked_by work.calendar) (midnight_of x + 1440)
      f = f' ∙ ap (λ (v : ℕ). previous_finish (worked_by work.calendar) (v + 1440)) h

      to_evening : work_to p d i s day ≡ via Err (previous_finish (worked_by work.calendar) (midnight_of x + 1440))
          (λ u. via Err (bounded (origin p) u) (λ b. counted Err (between (worked_by work.calendar) s (max b s)) Ok))
      to_evening =
          ap (work_to p d i s) e ∙
          ap
          (λ (v : ℕ → Bool). via Err (previous_finish v (midnight_of x + 1440))
          (λ u. via Err (bounded (origin p) u) (λ b. counted Err (between v s (max b s)) Ok))) H.own_is

      pub work_refused : (k : ClockError) → y ≡ Err k → work_to p d i s day ≡ Err k
      work_refused k a = to_evening ∙ stops Err _ f a

      module _ (u o : ℕ) (a : y ≡ Ok u) (q : o ≡ origin p) {z : Result ℕ ClockError} (g : z ≡ bounded o u) where
        is_bounded : z ≡ bounded (origin p) u
        is_bounded = g ∙ ap (λ (v : ℕ). bounded v u) q

        pub work_far : (k : ClockError) → z ≡ Err k → work_to p d i s day ≡ Err k
        work_far k c = to_evening ∙ goes_on_lem Err _ f a ∙ stops Err _ is_bounded c

        pub work_counted : (b l : ℕ) → z ≡ Ok b → l ≡ max b s → work_to p d i s day ≡ counted Err (between (worked_by work.calendar) s l) Ok
        work_counted b l c j =
            to_evening ∙ goes_on_lem Err _ f a ∙ goes_on_lem Err _ is_bounded c
            ∙ ap (λ (v : ℕ). counted Err (between (worked_by work.calendar) s v) Ok) (sym j)

  -- ---- the minutes
  module _ (s : ℕ) {b : Bool} (q : b ≡ summary p i) where
    pub minutes_summary : b ≡ true → minutes_from p d i s ≡ Ok work.left
    unfolding minutes_from
    minutes_summary e = on_true (summary p i) (Ok (d.left i)) _ (sym q ∙ e) ∙ ap Ok (sym H.left_is)

    module _ (e : b ≡ false) where
      by_kind : minutes_from p d i s ≡ work_to p d i s (expected_on p d i work.activity.kind)
      unfolding minutes_from
      by_kind =
          on_false (summary p i) (Ok (d.left i)) _ (sym q ∙ e)
          ∙ ap (λ (a : Activity). work_to p d i s (expected_on p d i a.kind)) (sym H.activity_is)

      pub minutes_task : work.activity.kind ≡ Task → minutes_from p d i s ≡ work_to p d i s work.activity.expected_finish
      minutes_task k =
          by_kind ∙ ap (λ (a : ActivityKind). work_to p d i s (expected_on p d i a)) k
          ∙ ap (λ (a : Activity). work_to p d i s a.expected_finish) (sym H.activity_is)

      pub minutes_milestone : (work.activity.kind ≡ StartMilestone) ⊎ (work.activity.kind ≡ FinishMilestone) → minutes_from p d i s ≡ Ok work.left
      minutes_milestone (inl k) = by_kind ∙ ap (λ (a : ActivityKind). work_to p d i s (expected_on p d i a)) k ∙ ap Ok (sym H.left_is)
      minutes_milestone (inr k) = by_kind ∙ ap (λ (a : ActivityKind). work_to p d i s (expected_on p d i a)) k ∙ ap Ok (sym H.left_is)

  -- ---- the placing
  module _ (start : ℕ) {x : Result ℕ ClockError} (f : x ≡ place_start (worked_by work.calendar) work.activity.kind start) where
    from_start : placed p d i start ≡ via refused (place_start (worked_by work.calendar) work.activity.kind start)
        (λ t. via refused (bounded (origin p) t) (λ s. via refused (minutes_from p d i s) (finished_as p d i (worked_by work.calendar) s)))
    unfolding placed
    from_start =
        ap
        (λ (v : ℕ → Bool). via refused (place_start v (kind_of p i) start)
        (λ t. via refused (bounded (origin p) t) (λ s. via refused (minutes_from p d i s) (finished_as p d i v s)))) H.own_is ∙
        ap
        (λ (a : Activity). via refused (place_start (worked_by work.calendar) a.kind start)
        (λ t. via refused (bounded (origin p) t) (λ s. via refused (minutes_from p d i s) (finished_as p d i (worked_by work.calendar) s)))) (sym H.activity_is)

    pub placed_refused : (k : ClockError) → x ≡ Err k → placed p d i start ≡ refused k
    placed_refused k a = from_start ∙ stops refused _ f a

    module _ (t o : ℕ) (a : x ≡ Ok t) (q : o ≡ origin p) {y : Result ℕ ClockError} (g : y ≡ bounded o t) where
      start_bounded : y ≡ bounded (origin p) t
      start_bounded = g ∙ ap (λ (v : ℕ). bounded v t) q

      pub placed_far : (k : ClockError) → y ≡ Err k → placed p d i start ≡ refused k
      placed_far k c = from_start ∙ goes_on_lem refused _ f a ∙ stops refused _ start_bounded c

      module _ (s : ℕ) (c : y ≡ Ok s) {z : Result ℕ ClockError} (h : z ≡ minutes_from p d i s) where
        pub placed_uncounted : (k : ClockError) → z ≡ Err k → placed p d i start ≡ refused k
        placed_uncounted k m = from_start ∙ goes_on_lem refused _ f a ∙ goes_on_lem refused _ start_bounded c ∙ stops refused _ h m

        pub placed_from : (m : ℕ) → z ≡ Ok m → placed p d i start ≡ finished_as p d i (worked_by work.calendar) s m
        placed_from m n = from_start ∙ goes_on_lem refused _ f a ∙ goes_on_lem refused _ start_bounded c ∙ goes_on_lem refused _ h n

-- ---- the finish
module _ (p : Plan) (d : Early) (i : ℕ) (w : ℕ → Bool) (s m : ℕ) {x : Result ℕ ClockError} (f : x ≡ finish_of w m s) where
  pub finished_refused : (k : ClockError) → x ≡ Err k → finished_as p d i w s m ≡ refused k
  finished_refused k a = stops refused _ f a

  module _ (g o : ℕ) (a : x ≡ Ok g) (q : o ≡ origin p) {y : Result ℕ ClockError} (h : y ≡ bounded o g) where
    finish_bounded : y ≡ bounded (origin p) g
    finish_bounded = h ∙ ap (λ (v : ℕ). bounded v g) q

    pub finished_far : (k : ClockError) → y ≡ Err k → finished_as p d i w s m ≡ refused k
    finished_far k c = goes_on_lem refused _ f a ∙ stops refused _ finish_bounded c

    pub finished_at : (e : ℕ) → y ≡ Ok e → finished_as p d i w s m ≡ leaves (early p d i s e m)
    finished_at e c = goes_on_lem refused _ f a ∙ goes_on_lem refused _ finish_bounded c

-- ---- links met, then the start by what is recorded
module _ (p : Plan) (d : Early) (i : ℕ) (a : Result Actual ClockError) (start : ℕ) {x : Result ℕ ClockError} (f : x ≡ start_by p d i a start) where
  pub after_refused : (k : ClockError) → x ≡ Err k → after_start p d i a start ≡ refused k
  after_refused k e = stops refused (placed p d i) f e

  pub after_start_lem : (u : ℕ) → x ≡ Ok u → after_start p d i a start ≡ placed p d i u
  after_start_lem u e = goes_on_lem refused (placed p d i) f e

-- ---- what fits
pub refused_below : (k : ClockError) → (m : ℕ) → ◌≡◌ {A = Result ℕ ClockError} (Err k) (Ok m) → m < 2 ^ 63
refused_below k m e = let z : ◌≡◌ {A = ℕ} 0 1 = cc in absurd (omega arith)

pub at_below : (n : ℕ) → n < 2 ^ 63 → (m : ℕ) → ◌≡◌ {A = Result ℕ ClockError} (Ok n) (Ok m) → m < 2 ^ 63
at_below n l m e = let z : n ≡ m = cc in omega arith
